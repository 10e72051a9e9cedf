-- The fields of a sentence file: one for each line. Assumes nothing.
use Rattle.std.specs.Prelude.{ℕ, ◌%◌, Bool, cond, ◌&&◌, ◌==◌, nat_le}
use Rattle.logic.specs.declared.format.LineKind.{LineKind}
use Rattle.logic.specs.declared.format.LineKind.TheVariants.{All, Any, Not, Step}

-- the tag of each kind of line
abbrev pub kind_tag : LineKind → ℕ
kind_tag Not = 0x11
kind_tag All = 0x12
kind_tag Any = 0x13
kind_tag Step = 0x14

-- not, all, any and step
abbrev pub due_line : ℕ → Bool
due_line tag = nat_le 0x11 tag && nat_le tag 0x14

-- one number of two bytes; for a step an action and parts of ten bytes; else any count of numbers of two bytes
abbrev pub allowed_line : ℕ → ℕ → Bool
allowed_line tag size = cond (tag == 0x11) (size == 2) (cond (tag == 0x14) (size % 10 == 1) (size % 2 == 0))
