-- What the number of lines says of a file, and that a written one reads back. Assumes nothing.
use Rattle.std.proofs.Common.{◌≡◌, ℕ, true, List, length, Ok, Err, Result, refl, ap, ◌∙◌}
use Rattle.fields.specs.declared.fault.FileFault.{FileFault}
use Rattle.theory.specs.Sentences.{Line, well_formed}
use Rattle.logic.specs.File.{sentence_file}
use Rattle.logic.specs.Judging.{counted}
use Rattle.logic.specs.Writing.{fits_file, sentence_bytes}
use Rattle.logic.proofs.RoundTrip.{round_trip}

-- what a count of lines was counted from
pub counted_lines : (r : Result (List Line) FileFault) (n : ℕ) → counted r ≡ Ok n → (ls : List Line) × (r ≡ Ok ls) × (length ls ≡ n)
counted_lines (Ok ls) n h = (ls, refl, cc)
counted_lines (Err e) n h = absurd (cc)

-- a sentence that was written is the one that is read
pub written_read : (bytes : List ℕ) (ls : List Line) → well_formed ls ≡ true → fits_file ls ≡ true → bytes ≡ sentence_bytes ls
    → sentence_file bytes ≡ Ok ls
written_read bytes ls formed fits e = ap sentence_file e ∙ (round_trip ls formed fits).same
