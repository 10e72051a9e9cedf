-- How searches without success join. Assumes nothing.
use Rattle.std.proofs.Common.{◌≡◌, ℕ, ◌+◌, ◌<◌, Bool, true, false, cond, not, List, length, get_or, set, count_by, sym, length-set, ◌∙◌, inl, inr, arith}
use Rattle.std.proofs.lemmas.List.Sums.{sum_by-set}
use Rattle.std.proofs.lemmas.List.{get_or-set_same, get_or-set_other}
use Rattle.std.proofs.lemmas.Bool.{cases_eq, cases_Bool}
use Rattle.matching.specs.Reach.{Closed, ColumnDone, Inside, RowDone, Spread, column_marked, row_marked}
use Rattle.matching.specs.declared.flow.Flow.{Flow}
use Rattle.matching.specs.declared.marks.Marks.{Marks}

abbrev pub mark_row : Marks → ℕ → Marks
mark_row m r = record { rows = set m.rows r true; columns = m.columns }

abbrev pub mark_column : Marks → ℕ → Marks
mark_column m c = record { rows = m.rows; columns = set m.columns c true }

module _ (l : List Bool) (i : ℕ) (inside : i < length l) where
  pub marked_here : get_or (set l i true) i false ≡ true
  marked_here = get_or-set_same l i true false inside

  pub marked_still : (k : ℕ) → get_or l k false ≡ true → get_or (set l i true) k false ≡ true
  marked_still k e =
      elim (cases_eq k i) [
        | inl q ↦ rw q marked_here
        | inr ne ↦ rw (get_or-set_other l i k true false ne) e
      ]

  pub fewer_unmarked : get_or l i false ≡ false → count_by not (set l i true) + 1 ≡ count_by not l
  fewer_unmarked e =
      let s : count_by not (set l i true) + cond (not (get_or l i false)) 1 0 ≡ count_by not l + 0 =
      sum_by-set (λ b. cond (not b) 1 0) l i true false inside in
      let t : count_by not (set l i true) + 1 ≡ count_by not l + 0 = rw e at s in
      omega arith

pub row_stays_done : (f : Flow) (n k : Marks) (r : ℕ) → ((c : ℕ) → column_marked n c ≡ true → column_marked k c ≡ true)
    → RowDone f n r → RowDone f k r
row_stays_done f n k r up h = record { along = λ c e. up c (h.along c e) }

pub column_stays_done : (f : Flow) (least : ℕ) (n k : Marks) (c : ℕ) → ((r : ℕ) → row_marked n r ≡ true → row_marked k r ≡ true)
    → ColumnDone f least n c → ColumnDone f least k c
column_stays_done f least n k c up h = record { full = h.full; senders = λ r l. up r (h.senders r l) }

-- a mark for row r, which had none
module _ (f : Flow) (least : ℕ) (n k : Marks) (r : ℕ) (len : r < length n.rows) (t : Spread f least (mark_row n r) k) where
  pub rows_kept : (i : ℕ) → row_marked n i ≡ true → row_marked k i ≡ true
  rows_kept i e = t.rows i (marked_still n.rows r len i e)

  pub row_is_marked : row_marked k r ≡ true
  row_is_marked = t.rows r (marked_here n.rows r len)

  pub inside_with_row : (P Q : ℕ → Bool) → Closed f P Q → Inside n P Q → P r ≡ true → Inside k P Q
  inside_with_row P Q closed i here =
      t.inside P Q closed (record {
        rows = λ j e.
            elim (cases_eq j r) [
              | inl q ↦ rw q here
              | inr ne ↦ i.rows j (sym (get_or-set_other n.rows r j true false ne) ∙ e)
            ];
        columns = i.columns;
      })

  pub new_row_done : RowDone f k r → (i : ℕ) → row_marked n i ≡ false → row_marked k i ≡ true → RowDone f k i
  new_row_done done i free here =
      elim (cases_eq i r) [
        | inl e ↦ rw e done
        | inr ne ↦ t.new_rows i (get_or-set_other n.rows r i true false ne ∙ free) here
      ]

-- a mark for column c, which had none
module _ (f : Flow) (least : ℕ) (n k : Marks) (c : ℕ) (len : c < length n.columns) (t : Spread f least (mark_column n c) k) where
  pub columns_kept : (i : ℕ) → column_marked n i ≡ true → column_marked k i ≡ true
  columns_kept i e = t.columns i (marked_still n.columns c len i e)

  pub column_is_marked : column_marked k c ≡ true
  column_is_marked = t.columns c (marked_here n.columns c len)

  pub inside_with_column : (P Q : ℕ → Bool) → Closed f P Q → Inside n P Q → Q c ≡ true → Inside k P Q
  inside_with_column P Q closed i here =
      t.inside P Q closed (record {
        rows = i.rows;
        columns = λ j e.
            elim (cases_eq j c) [
              | inl q ↦ rw q here
              | inr ne ↦ i.columns j (sym (get_or-set_other n.columns c j true false ne) ∙ e)
            ];
      })

  pub new_column_done : ColumnDone f least k c → (i : ℕ) → column_marked n i ≡ false → column_marked k i ≡ true
      → ColumnDone f least k i
  new_column_done done i free here =
      elim (cases_eq i c) [
        | inl e ↦ rw e done
        | inr ne ↦ t.new_columns i (get_or-set_other n.columns c i true false ne ∙ free) here
      ]

module _ (f : Flow) (least : ℕ) (m n k : Marks) (s : Spread f least m n) where
  -- and then from row r
  pub join_row : (r : ℕ) → r < length n.rows → row_marked n r ≡ false → Spread f least (mark_row n r) k → RowDone f k r
      → ((P Q : ℕ → Bool) → Closed f P Q → Inside n P Q → P r ≡ true) → Spread f least m k
  join_row r len free t done reach =
      let up : (i : ℕ) → row_marked n i ≡ true → row_marked k i ≡ true = rows_kept f least n k r len t in
      record {
        rows = λ i e. up i (s.rows i e);
        columns = λ c e. t.columns c (s.columns c e);
        new_rows = λ i p q.
            elim (cases_Bool (row_marked n i)) [
              | inl old ↦ row_stays_done f n k i t.columns (s.new_rows i p old)
              | inr new ↦ new_row_done f least n k r len t done i new q
            ];
        new_columns = λ c p q.
            elim (cases_Bool (column_marked n c)) [
              | inl old ↦ column_stays_done f least n k c up (s.new_columns c p old)
              | inr new ↦ t.new_columns c new q
            ];
        fewer = omega (arith, s.fewer, t.fewer, fewer_unmarked n.rows r len free);
        wide = omega (arith, s.wide, t.wide, length-set n.rows r true);
        inside = λ P Q closed h.
            let i : Inside n P Q = s.inside P Q closed h in
            inside_with_row f least n k r len t P Q closed i (reach P Q closed i);
      }

  -- and then from column c
  pub join_column : (c : ℕ) → c < length n.columns → column_marked n c ≡ false → Spread f least (mark_column n c) k
      → ColumnDone f least k c → ((P Q : ℕ → Bool) → Closed f P Q → Inside n P Q → Q c ≡ true) → Spread f least m k
  join_column c len free t done reach =
      let up : (i : ℕ) → column_marked n i ≡ true → column_marked k i ≡ true = columns_kept f least n k c len t in
      record {
        rows = λ r e. t.rows r (s.rows r e);
        columns = λ i e. up i (s.columns i e);
        new_rows = λ r p q.
            elim (cases_Bool (row_marked n r)) [
              | inl old ↦ row_stays_done f n k r up (s.new_rows r p old)
              | inr new ↦ t.new_rows r new q
            ];
        new_columns = λ i p q.
            elim (cases_Bool (column_marked n i)) [
              | inl old ↦ column_stays_done f least n k i t.rows (s.new_columns i p old)
              | inr new ↦ new_column_done f least n k c len t done i new q
            ];
        fewer = omega (arith, s.fewer, t.fewer, fewer_unmarked n.columns c len free);
        wide = omega (arith, s.wide, t.wide);
        inside = λ P Q closed h.
            let i : Inside n P Q = s.inside P Q closed h in
            inside_with_column f least n k c len t P Q closed i (reach P Q closed i);
      }
