-- A table with another amount at one place. Assumes nothing.
use Rattle.std.proofs.Common.{◌≡◌, ◌≢◌, ℕ, ◌+◌, ◌<◌, ◌≤◌, Bool, true, false, ◌&&◌, ltb, List, [], length, get_or, replicate, set, sum_by, refl, sym, ap, inl, inr, ◌∙◌, arith}
use Rattle.std.proofs.lemmas.List.{get_or-set_same, get_or-set_other, get_or-replicate, get_or_past, length-replicate}
use Rattle.std.proofs.lemmas.List.Sums.{sum_by-set, get_or-le-sum_by}
use Rattle.std.proofs.lemmas.Bool.{and_parts, cases_eq, cases_lt, false≢true, ltb-true}
use Rattle.std.specs.List.{sum}
use Rattle.matching.specs.Tables.{allows, amount, cell, put}

-- the sum of a column
abbrev pub column : List (List ℕ) → ℕ → ℕ
column A c = sum_by (λ row. get_or row c 0) A

pub get_or_replicate : {X : Type 0} (n i : ℕ) (d : X) → get_or (replicate n d) i d ≡ d
get_or_replicate n i d =
    elim (cases_lt i n) [
      | inl l ↦ get_or-replicate n i d d l
      | inr past ↦ get_or_past (replicate n d) i d (rw (length-replicate n d) past)
    ]

-- a table of one value
pub cell_replicate : {X : Type 0} (m n r c : ℕ) (d : X) → cell d (replicate m (replicate n d)) r c ≡ d
cell_replicate m n r c d =
    elim (cases_lt r m) [
      | inl l ↦ rw (get_or-replicate m r (replicate n d) [] l) (get_or_replicate n c d)
      | inr past ↦ rw (get_or_past (replicate m (replicate n d)) r [] (rw (length-replicate m (replicate n d)) past)) refl
    ]

-- what stands in a table of tests stands in one of its rows
pub row_of_cell : (A : List (List Bool)) (r c : ℕ) → cell false A r c ≡ true → r < length A
row_of_cell A r c h =
    elim (cases_lt r (length A)) [
      | inl l ↦ l
      | inr past ↦ absurd (false≢true (rw (get_or_past A r [] past) at h))
    ]

-- a place with a number is one of the list's
pub inside : (xs : List ℕ) (i : ℕ) → 0 < get_or xs i 0 → i < length xs
inside xs i pos =
    elim (cases_lt i (length xs)) [
      | inl l ↦ l
      | inr past ↦ absurd (omega (arith, get_or_past xs i 0 past))
    ]

-- so is the column of a pair that a table allows
pub allowed_column : (A : List (List Bool)) (R : ℕ → ℕ → Bool) (S D : List ℕ) (r c : ℕ) → cell false A r c ≡ allows R S D r c
    → cell false A r c ≡ true → c < length D
allowed_column A R S D r c e h =
    let some = and_parts (ltb 0 (get_or S r 0)) (ltb 0 (get_or D c 0) && R r c) (sym e ∙ h) in
    inside D c (ltb-true 0 (get_or D c 0) (and_parts (ltb 0 (get_or D c 0)) (R r c) some.1).0)

module _ (A : List (List ℕ)) (r c x : ℕ) (lr : r < length A) (lc : c < length (get_or A r [])) where
  pub put_row : get_or (put A r c x) r [] ≡ set (get_or A r []) c x
  put_row = get_or-set_same A r (set (get_or A r []) c x) [] lr

  pub put_other_row : (s : ℕ) → s ≢ r → get_or (put A r c x) s [] ≡ get_or A s []
  put_other_row s ne = get_or-set_other A r s (set (get_or A r []) c x) [] ne

  pub put_here : amount (put A r c x) r c ≡ x
  put_here = rw put_row (get_or-set_same (get_or A r []) c x 0 lc)

  pub put_off_row : (s k : ℕ) → s ≢ r → amount (put A r c x) s k ≡ amount A s k
  put_off_row s k ne = ap (λ row. get_or row k 0) (put_other_row s ne)

  pub put_off_column : (s k : ℕ) → k ≢ c → amount (put A r c x) s k ≡ amount A s k
  put_off_column s k ne =
      elim (cases_eq s r) [
        | inl e ↦ rw (e, put_row) (get_or-set_other (get_or A r []) c k x 0 ne)
        | inr other ↦ put_off_row s k other
      ]

  pub row_put : sum (get_or (put A r c x) r []) + amount A r c ≡ sum (get_or A r []) + x
  row_put = rw put_row (sum_by-set (λ n. n) (get_or A r []) c x 0 lc)

  pub column_put : column (put A r c x) c + amount A r c ≡ column A c + x
  column_put =
      sum_by-set (λ row. get_or row c 0) A r (set (get_or A r []) c x) [] lr
      ∙ ap (λ n. column A c + n) (get_or-set_same (get_or A r []) c x 0 lc)

  pub column_put_other : (k : ℕ) → k ≢ c → column (put A r c x) k ≡ column A k
  column_put_other k ne =
      omega (arith, sum_by-set (λ row. get_or row k 0) A r (set (get_or A r []) c x) [] lr, get_or-set_other (get_or A r []) c k x 0 ne)

pub amount_le_row : (A : List (List ℕ)) (r c : ℕ) → amount A r c ≤ sum (get_or A r [])
amount_le_row A r c =
    elim (cases_lt c (length (get_or A r []))) [
      | inl l ↦ get_or-le-sum_by (λ n. n) (get_or A r []) c 0 l
      | inr past ↦ omega (arith, get_or_past (get_or A r []) c 0 past)
    ]
