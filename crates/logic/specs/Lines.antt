-- The line that the code's own line stands for. Assumes nothing.
use Rattle.std.specs.Prelude.{ℕ, Bool, ◌&&◌}
use Rattle.theory.specs.Sentences.{all_of, any_of, Line as Meant, not_of as NotLine, step_to, one_of_first, sound_share}
use Rattle.theory.specs.declared.Part.{Part}
use Rattle.fields.specs.Bytes.{numbers}
use Rattle.logic.specs.File.{parts_of}
use Rattle.logic.specs.declared.line.Line.{Line}
use Rattle.logic.specs.declared.line.Line.TheVariants.{All, Any, Not, Step}

abbrev pub meant : Line → Meant
meant (Not i) = NotLine i
meant (All lines) = all_of (numbers lines.bytes.now)
meant (Any lines) = any_of (numbers lines.bytes.now)
meant (Step action parts) = step_to action (parts_of parts.bytes.now)

-- a part of a line that may stand behind i others
abbrev pub sound_part : ℕ → Part → Bool
sound_part i q = one_of_first i q.line && sound_share q
