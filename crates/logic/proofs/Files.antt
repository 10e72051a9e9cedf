-- A sentence file that is read: each turn adds one line, which fits after those before it, so the sentence is well-formed. Assumes nothing.
use Rattle.std.proofs.Common.{◌≡◌, ℕ, ◌+◌, ◌<◌, Bool, true, false, cond, ltb, List, [], ◌∷◌, ◌++◌, length, Ok, Err, Result, sym, refl, ap, add-zero, arith}
use Rattle.std.proofs.lemmas.List.{length_push}
use Rattle.std.proofs.lemmas.Bool.{and_from, lt-ltb, ltb-true}
use Rattle.fields.specs.Fields.{Start, field_of, in_turn, of_file, starts, then}
use Rattle.theory.specs.Sentences.{Line, fits_after, well_formed, well_formed_from}
use Rattle.theory.proofs.Texts.{well_formed_push}
use Rattle.logic.specs.File.{line_at, line_behind, line_field, line_of, sentence_file}
use Rattle.logic.specs.Format.{allowed_line, due_line}

module _ {T E : Type 0} where
  -- what is no fault passed its test
  passed : (b : Bool) (r : Result T E) (e : E) (x : T) → cond b r (Err e) ≡ Ok x → (b ≡ true) × (r ≡ Ok x)
  passed true r e x h = (refl, h)
  passed false r e x h = absurd (cc)

  -- and came after what was no fault
  came_after : {U : Type 0} (r : Result U E) (k : U → Result T E) (y : T) → then r k ≡ Ok y → (x : U) × (r ≡ Ok x) × (k x ≡ Ok y)
  came_after (Ok x) k y h = (x, refl, h)
  came_after (Err e) k y h = absurd (cc)

line_behind_fits : (i place : ℕ) (l r : Line) → line_behind i place l ≡ Ok r → fits_after i r ≡ true
line_behind_fits i place l r h =
    let p = passed (fits_after i l) _ _ r h in
    let q = passed (ltb i 4095) (Ok l) _ r p.1 in
    let e : l ≡ r = cc q.1 in
    rw e at p.0

pub line_behind_few : (i place : ℕ) (l r : Line) → line_behind i place l ≡ Ok r → i < 4095
line_behind_few i place l r h =
    let p = passed (fits_after i l) _ _ r h in
    ltb-true i 4095 (passed (ltb i 4095) (Ok l) _ r p.1).0

line_at_fits : (i : ℕ) (x : Start) (l : Line) → line_at i x ≡ Ok l → fits_after i l ≡ true
line_at_fits i x l h =
    let p = came_after (of_file (field_of due_line allowed_line x.place x.bytes)) _ l h in
    line_behind_fits i x.place (line_of p.0.tag p.0.value) l p.2

line_field_adds : (done ls : List Line) (x : Start) → line_field done x ≡ Ok ls
    → (l : Line) × (fits_after (length done) l ≡ true) × (done ++ l ∷ [] ≡ ls)
line_field_adds done ls x h =
    let p = came_after (line_at (length done) x) _ ls h in
    (p.0, line_at_fits (length done) x p.0 p.1, cc p.2)

pub in_turn_longer : (done ls : List Line) (xs : List Start) → in_turn line_field done xs ≡ Ok ls → length ls ≡ length done + length xs
in_turn_longer done ls [] h = let e : done ≡ ls = cc in rw e (sym (add-zero (length ls)))
in_turn_longer done ls (x ∷ xs) h =
    let p = came_after (line_field done x) _ ls h in
    let q = line_field_adds done p.0 x p.1 in
    omega (arith, in_turn_longer p.0 ls xs p.2, ap length q.2, length_push done q.0)

in_turn_well_formed : (done ls : List Line) (xs : List Start)
    → well_formed_from 0 done ≡ true → in_turn line_field done xs ≡ Ok ls → well_formed_from 0 ls ≡ true
in_turn_well_formed done ls [] formed h = let e : done ≡ ls = cc in rw e at formed
in_turn_well_formed done ls (x ∷ xs) formed h =
    let p = came_after (line_field done x) _ ls h in
    let q = line_field_adds done p.0 x p.1 in
    in_turn_well_formed p.0 ls xs (rw q.2 at (well_formed_push done q.0 formed q.1)) p.2

pub file_is_well_formed : (bytes : List ℕ) (ls : List Line) → sentence_file bytes ≡ Ok ls → well_formed ls ≡ true
file_is_well_formed [] ls h = absurd (cc)
file_is_well_formed (b ∷ bytes) ls h =
    let xs : List Start = starts 0 0 (b ∷ bytes) in
    let some : 0 < length ls = omega (arith, in_turn_longer [] ls xs h) in
    and_from (ltb 0 (length ls)) (well_formed_from 0 ls) (lt-ltb 0 (length ls) some) (in_turn_well_formed [] ls xs refl h)
