-- How far a sentence file is read: the lines done, and the bytes that are left. Assumes nothing.
use Rattle.std.proofs.Common.{◌≡◌, ℕ, ◌<◌, ◌≤◌, List, [], ◌∷◌, ◌++◌, length, Ok, Err, Result, sym, refl, ap, ◌∙◌, arith}
use Rattle.fields.specs.Fields.{Leads, Read, in_turn, starts}
use Rattle.fields.specs.declared.fault.FileFault.{FileFault}
use Rattle.theory.specs.Sentences.{Line}
use Rattle.logic.specs.File.{line_at, line_behind, line_field, line_of, lines_in, sentence_file}
use Rattle.logic.specs.Format.{allowed_line, due_line}
use Rattle.logic.proofs.Files.{in_turn_longer}
use Rattle.logic.proofs.Turns.{turn_line, turn_refused}

pub sentence_is_lines : (bytes : List ℕ) → 0 < length bytes → sentence_file bytes ≡ lines_in bytes
sentence_is_lines [] h = absurd (omega arith)
sentence_is_lines (_ ∷ _) h = refl

pub lines_of_sentence : (bytes : List ℕ) (ls : List Line) → sentence_file bytes ≡ Ok ls → lines_in bytes ≡ Ok ls
lines_of_sentence [] ls h = absurd (cc)
lines_of_sentence (_ ∷ _) ls h = h

-- the lines done, and those in the rest of the bytes, are the file's
pub record ReadTo (bytes : List ℕ) (done : List Line) (place : ℕ) (rest : List ℕ) : Type 0 where
  pub turn : in_turn line_field done (starts 0 place rest) ≡ lines_in bytes

pub read_none : (bytes : List ℕ) → ReadTo bytes [] 0 bytes
read_none bytes = record { turn = refl }

module _ {bytes : List ℕ} {done : List Line} {place : ℕ} {rest : List ℕ} (read : ReadTo bytes done place rest) where
  module _ (i : ℕ) (same : length done ≡ i) (f : Read) (next : ℕ) (leads : Leads due_line allowed_line place rest f next) where
    at_field : line_at i (record { place = place; bytes = rest }) ≡ line_behind i place (line_of f.tag f.value)
    at_field = rw leads.read

    pub read_more : (l : Line) → line_behind i place (line_of f.tag f.value) ≡ Ok l → ReadTo bytes (done ++ l ∷ []) next f.rest
    read_more l h = record { turn = sym (turn_line done place rest l _ leads.follows (rw same (at_field ∙ h))) ∙ read.turn }

    pub read_refused : (e : FileFault) → line_behind i place (line_of f.tag f.value) ≡ Err e → lines_in bytes ≡ Err e
    read_refused e h = sym read.turn ∙ turn_refused done place rest e (omega (arith, leads.shorter)) (rw same (at_field ∙ h))

    -- where a line is still to come, and there is room for all, there is room for it
    pub read_room : (room : ℕ) → ((ls : List Line) × (lines_in bytes ≡ Ok ls) × (length ls ≤ room)) → i < room
    read_room room (ls, all, fits) =
        omega (arith, in_turn_longer done ls (starts 0 place rest) (read.turn ∙ all), ap length leads.follows, same)

pub same_ok : {T E : Type 0} {x y : T} → ◌≡◌ {A = Result T E} (Ok x) (Ok y) → x ≡ y
same_ok h = cc
