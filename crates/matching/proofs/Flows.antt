-- What holds of a flow, where nothing is sent and after another amount is put at one place. Assumes nothing.
use Rattle.std.proofs.Common.{◌≡◌, ℕ, ◌+◌, ◌<◌, Bool, true, false, List, [], length, get_or, set, replicate, refl, inl, inr, ◌∙◌, length-set, arith}
use Rattle.std.proofs.lemmas.List.{get_or-set_same, get_or-set_other, get_or-replicate, get_or_past, length-replicate, set-set, set-get_or}
use Rattle.std.proofs.lemmas.List.Folds.{sum_by-replicate}
use Rattle.std.proofs.lemmas.Bool.{cases_eq, cases_lt}
use Rattle.std.specs.List.{sum}
use Rattle.matching.specs.Tables.{Carries, Receives, Sends, Wide, amount, cell, put}
use Rattle.matching.proofs.Tables.{cell_replicate, column, get_or_replicate, put_row, put_other_row, put_here, put_off_row, put_off_column, row_put, column_put, column_put_other}

module _ (A : List (List ℕ)) (r c x : ℕ) (lr : r < length A) (lc : c < length (get_or A r [])) where
  pub sends_put : (S U : List ℕ) (y : ℕ) → Sends S A U → r < length U → x + y ≡ amount A r c + get_or U r 0
      → Sends S (put A r c x) (set U r y)
  sends_put S U y h lu same s =
      elim (cases_eq s r) [
        | inl e ↦ rw (e, get_or-set_same U r y 0 lu) (omega (arith, row_put A r c x lr lc, h r))
        | inr ne ↦ rw (get_or-set_other U r s y 0 ne, put_other_row A r c x lr lc s ne) (h s)
      ]

  pub receives_put : (D M : List ℕ) (y : ℕ) → Receives D A M → c < length M → x + y ≡ amount A r c + get_or M c 0
      → Receives D (put A r c x) (set M c y)
  receives_put D M y h lm same k =
      elim (cases_eq k c) [
        | inl e ↦ rw (e, get_or-set_same M c y 0 lm) (omega (arith, column_put A r c x lr lc, h c))
        | inr ne ↦ rw (get_or-set_other M c k y 0 ne, column_put_other A r c x lr lc k ne) (h k)
      ]

  pub carries_put : (allowed : List (List Bool)) → Carries allowed A → (0 < x → cell false allowed r c ≡ true)
      → Carries allowed (put A r c x)
  carries_put allowed h ok s k pos =
      elim (cases_eq s r) [
        | inl e ↦
            elim (cases_eq k c) [
              | inl f ↦ rw (e, f) (ok (rw (e, f, put_here A r c x lr lc) at pos))
              | inr ne ↦ h s k (rw (put_off_column A r c x lr lc s k ne) at pos)
            ]
        | inr ne ↦ h s k (rw (put_off_row A r c x lr lc s k ne) at pos)
      ]

  pub wide_put : Wide A → Wide (put A r c x)
  wide_put h s l =
      elim (cases_eq s r) [
        | inl e ↦ rw (e, put_row A r c x lr lc, length-set) (h r (rw e at l))
        | inr ne ↦ rw (put_other_row A r c x lr lc s ne) (h s l)
      ]

-- nothing sent
module _ (n : ℕ) where
  abbrev pub none : List (List ℕ)
  none = replicate n (replicate n 0)

  row_none : (r : ℕ) → sum (get_or none r []) ≡ 0
  row_none r =
      elim (cases_lt r n) [
        | inl l ↦ rw (get_or-replicate n r (replicate {A = ℕ} n 0) [] l) (omega (arith, sum_by-replicate (λ x. x) n 0))
        | inr l ↦ rw (get_or_past none r [] (rw (length-replicate n (replicate {A = ℕ} n 0)) l)) refl
      ]

  column_none : (c : ℕ) → column none c ≡ 0
  column_none c = rw (sum_by-replicate (λ row. get_or row c 0) n (replicate {A = ℕ} n 0), get_or_replicate {X = ℕ} n c 0) (omega arith)

  pub sends_none : (S : List ℕ) → Sends S none S
  sends_none S r = omega (arith, row_none r)

  pub receives_none : (D : List ℕ) → Receives D none D
  receives_none D c = omega (arith, column_none c)

  pub carries_none : (allowed : List (List Bool)) → Carries allowed none
  carries_none allowed r c pos = absurd (omega (arith, cell_replicate {X = ℕ} n n r c 0))

-- what is taken off and put back
pub set_back : (U V W : List ℕ) (r y z : ℕ) → V ≡ set U r y → W ≡ set V r z → z ≡ get_or U r 0 → W ≡ U
set_back U V W r y z e f same =
    f ∙ (rw (e, set-set, same) (set-get_or U r 0))
