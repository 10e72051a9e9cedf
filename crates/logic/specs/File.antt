-- What a sentence file says: the outcome of reading any bytes as one. Assumes nothing.
use Rattle.std.specs.Prelude.{ℕ, ◌+◌, ◌*◌, cond, List, [], ◌∷◌, ◌++◌, length, Ok, Err, Result, ◌==◌, nat_lt, slice_index}
use Rattle.fields.specs.Bytes.{numbers}
use Rattle.fields.specs.Fields.{Start, field_of, in_turn, of_file, starts, then}
use Rattle.fields.specs.declared.fault.FileFault.{FileFault}
use Rattle.fields.specs.declared.fault.FileFault.TheVariants.{Field, Limit, Number}
use Rattle.fields.specs.declared.fault.Flaw.TheVariants.{Short}
use Rattle.theory.specs.Sentences.{all_of, any_of, Line, not_of, step_to, fits_after}
use Rattle.theory.specs.declared.Part.{Part}
use Rattle.logic.specs.Format.{allowed_line, due_line}

-- parts as numbers of two bytes: one for the line, two for k and two for m
abbrev pub parts_in : List ℕ → List Part
parts_in [] = []
parts_in (line ∷ []) = []
parts_in (line ∷ k₁ ∷ []) = []
parts_in (line ∷ k₁ ∷ k₀ ∷ []) = []
parts_in (line ∷ k₁ ∷ k₀ ∷ m₁ ∷ []) = []
parts_in (line ∷ k₁ ∷ k₀ ∷ m₁ ∷ m₀ ∷ ns) =
    record { line = line; k = k₁ * 65536 + k₀; m = m₁ * 65536 + m₀ } ∷ parts_in ns

abbrev pub parts_of : List ℕ → List Part
parts_of bytes = parts_in (numbers bytes)

-- an action and parts (a step-line without an action has a length that is not allowed)
abbrev pub step_line : List ℕ → Line
step_line [] = step_to 0 []
step_line (action ∷ bytes) = step_to action (parts_of bytes)

-- the line that a field with one of the four tags says
abbrev pub line_of : ℕ → List ℕ → Line
line_of tag value =
    cond (tag == 0x11) (not_of (slice_index (numbers value) 0))
    (cond (tag == 0x12) (all_of (numbers value))
    (cond (tag == 0x13) (any_of (numbers value)) (step_line value)))

-- the line of a field, if it may stand behind i others: its numbers are looked at before the limit on lines
abbrev pub line_behind : ℕ → ℕ → Line → Result Line FileFault
line_behind i place l = cond (fits_after i l) (cond (nat_lt i 4095) (Ok l) (Err (Limit place))) (Err (Number place))

abbrev pub line_at : ℕ → Start → Result Line FileFault
line_at i x = then (of_file (field_of due_line allowed_line x.place x.bytes)) (λ f. line_behind i x.place (line_of f.tag f.value))

abbrev pub line_field : List Line → Start → Result (List Line) FileFault
line_field ls x = then (line_at (length ls) x) (λ l. Ok (ls ++ l ∷ []))

-- lines in any number
abbrev pub lines_in : List ℕ → Result (List Line) FileFault
lines_in bytes = in_turn line_field [] (starts 0 0 bytes)

-- A sentence file: at least one line.
abbrev pub sentence_file : List ℕ → Result (List Line) FileFault
sentence_file [] = Err (Field (record { flaw = Short; place = 0 }))
sentence_file (b ∷ bytes) = lines_in (b ∷ bytes)
