-- The bytes of a sentence, and which sentences a file can hold. Assumes nothing.
use Rattle.std.specs.Prelude.{◌≡◌, ℕ, ◌/◌, ◌%◌, ◌<◌, Bool, true, ◌&&◌, List, [], ◌∷◌, ◌++◌, length, Ok, nat_le, nat_lt}
use Rattle.std.specs.List.{AllByRecursion, flat_map, list_all}
use Rattle.theory.specs.Sentences.{all_of, any_of, Line, not_of, step_to, well_formed}
use Rattle.theory.specs.declared.Part.{Part}
use Rattle.logic.specs.File.{sentence_file}

-- a number in two bytes and in four, the high byte first
abbrev pub two : ℕ → List ℕ
two x = (x / 256) ∷ (x % 256) ∷ []

abbrev pub four : ℕ → List ℕ
four x = two (x / 65536) ++ two (x % 65536)

abbrev pub part_bytes : Part → List ℕ
part_bytes q = two q.line ++ (four q.k ++ four q.m)

abbrev pub tag_of : Line → ℕ
tag_of (not_of i) = 0x11
tag_of (all_of is) = 0x12
tag_of (any_of is) = 0x13
tag_of (step_to act qs) = 0x14

abbrev pub value_of : Line → List ℕ
value_of (not_of i) = two i
value_of (all_of is) = flat_map two is
value_of (any_of is) = flat_map two is
value_of (step_to act qs) = act ∷ flat_map part_bytes qs

abbrev pub line_bytes : Line → List ℕ
line_bytes l = tag_of l ∷ (two (length (value_of l)) ++ value_of l)

abbrev pub sentence_bytes : List Line → List ℕ
sentence_bytes ls = flat_map line_bytes ls

-- A file holds at most 4,095 lines, and two bytes give the length of each.
abbrev pub fits_file : List Line → Bool
fits_file ls = nat_le (length ls) 4095 && list_all (λ l. nat_lt (length (value_of l)) 65536) ls

-- A well-formed sentence that fits a file is written in bytes, and they read back as the same sentence.
pub record ReadsBack (ls : List Line) : Type 0 where
  pub bytes : AllByRecursion (λ b. b < 256) (sentence_bytes ls)
  pub same : sentence_file (sentence_bytes ls) ≡ Ok ls

abbrev pub RoundTrips : Type 0
RoundTrips = (ls : List Line) → well_formed ls ≡ true → fits_file ls ≡ true → ReadsBack ls
