-- One more turn of a search's loops. Assumes nothing.
use Rattle.std.proofs.Common.{◌≡◌, ℕ, ◌+◌, ◌<◌, ◌≤◌, true, false, length, get_or, length-set, subst, ◌∙◌, inl, inr, below_more, arith}
use Rattle.std.proofs.lemmas.Bool.{both_ways, cases_Bool}
use Rattle.matching.specs.Tables.{amount}
use Rattle.matching.specs.Reach.{Blocked, ColumnDone, Crowded, Reached, RowDone, Spread, column_marked, may_send, row_marked}
use Rattle.matching.specs.declared.flow.Flow.{Flow}
use Rattle.matching.specs.declared.marks.Marks.{Marks}
use Rattle.matching.proofs.Spreads.{column_is_marked, column_stays_done, columns_kept, inside_with_row, join_column, join_row, mark_column, mark_row, new_row_done, row_is_marked, row_stays_done, rows_kept}

-- Where make_room has come to at row i: nothing but the marks has changed, and the rows before i that have sent enough to
-- column c are marked.
pub record RoomSought (f g : Flow) (least : ℕ) (m n : Marks) (c i : ℕ) : Type 0 where
  pub same : g ≡ f
  pub spread : Spread f least m n
  pub below : (j : ℕ) → j < i → least ≤ amount f.amounts j c → row_marked n j ≡ true

-- Where outlet has come to at column i: nothing but the marks has changed, and the columns before i to which row r may send
-- are marked.
pub record OutletSought (f g : Flow) (least : ℕ) (m n : Marks) (r i : ℕ) : Type 0 where
  pub same : g ≡ f
  pub spread : Spread f least m n
  pub below : (j : ℕ) → j < i → may_send f r j ≡ true → column_marked n j ≡ true

-- Where augment has come to at row i: nothing but the marks has changed, what is marked is done, and the rows before i with
-- enough unsent are marked.
pub record StartSought (f g : Flow) (least : ℕ) (n : Marks) (i : ℕ) : Type 0 where
  pub same : g ≡ f
  pub reached : Reached f least n
  pub below : (j : ℕ) → j < i → least ≤ get_or f.unsent j 0 → row_marked n j ≡ true
  pub wide : length n.rows ≡ 64

module _ (f g h : Flow) (least : ℕ) (m n k : Marks) where
  -- row r found no column with room
  pub row_blocked : (r c : ℕ) → RoomSought f g least m n c r → Blocked g h least (mark_row n r) k r → r < length n.rows
      → row_marked n r ≡ false → column_marked m c ≡ true → 0 < least → least ≤ amount g.amounts r c
      → RoomSought f h least m k c (r + 1)
  row_blocked r c s b len free start some enough =
      let t : Spread f least (mark_row n r) k = subst (λ x. Spread x least (mark_row n r) k) s.same b.spread in
      let d : RowDone f k r = subst (λ x. RowDone x k r) s.same b.done in
      let a : least ≤ amount f.amounts r c = subst (λ x. least ≤ amount x.amounts r c) s.same enough in
      record {
        same = b.same ∙ s.same;
        spread = join_row f least m n k s.spread r len free t d
            (λ P Q closed i. closed.back r c (i.columns c (s.spread.columns c start)) (omega arith));
        below = below_more (λ j. least ≤ amount f.amounts j c → row_marked k j ≡ true) r
            (λ j l q. rows_kept f least n k r len t j (s.below j l q)) (λ q. row_is_marked f least n k r len t);
      }

  -- column c has no room
  pub column_crowded : (r c : ℕ) → OutletSought f g least m n r c → Crowded g h least (mark_column n c) k c
      → c < length n.columns → column_marked n c ≡ false → row_marked m r ≡ true → may_send g r c ≡ true
      → OutletSought f h least m k r (c + 1)
  column_crowded r c s b len free start ok =
      let t : Spread f least (mark_column n c) k = subst (λ x. Spread x least (mark_column n c) k) s.same b.spread in
      let d : ColumnDone f least k c = subst (λ x. ColumnDone x least k c) s.same b.done in
      let a : may_send f r c ≡ true = subst (λ x. may_send x r c ≡ true) s.same ok in
      record {
        same = b.same ∙ s.same;
        spread = join_column f least m n k s.spread c len free t d
            (λ P Q closed i. closed.along r c (i.rows r (s.spread.rows r start)) a);
        below = below_more (λ j. may_send f r j ≡ true → column_marked k j ≡ true) c
            (λ j l q. columns_kept f least n k c len t j (s.below j l q)) (λ q. column_is_marked f least n k c len t);
      }

  -- row r, with enough unsent, found no column with room
  pub start_blocked : (r : ℕ) → StartSought f g least n r → Blocked g h least (mark_row n r) k r → r < length n.rows
      → row_marked n r ≡ false → 0 < least → least ≤ get_or g.unsent r 0
      → StartSought f h least k (r + 1)
  start_blocked r s b len free some enough =
      let t : Spread f least (mark_row n r) k = subst (λ x. Spread x least (mark_row n r) k) s.same b.spread in
      let d : RowDone f k r = subst (λ x. RowDone x k r) s.same b.done in
      let a : least ≤ get_or f.unsent r 0 = subst (λ x. least ≤ get_or x.unsent r 0) s.same enough in
      let up : (i : ℕ) → row_marked n i ≡ true → row_marked k i ≡ true = rows_kept f least n k r len t in
      record {
        same = b.same ∙ s.same;
        reached = record {
          rows = λ i q.
              elim (cases_Bool (row_marked n i)) [
                | inl was ↦ row_stays_done f n k i t.columns (s.reached.rows i was)
                | inr new ↦ new_row_done f least n k r len t d i new q
              ];
          columns = λ c q.
              elim (cases_Bool (column_marked n c)) [
                | inl was ↦ column_stays_done f least n k c up (s.reached.columns c was)
                | inr new ↦ t.new_columns c new q
              ];
          inside = λ P Q closed start.
              inside_with_row f least n k r len t P Q closed (s.reached.inside P Q closed start) (start r (omega arith));
        };
        below = below_more (λ j. least ≤ get_or f.unsent j 0 → row_marked k j ≡ true) r (λ j l q. up j (s.below j l q))
            (λ q. row_is_marked f least n k r len t);
        wide = omega (arith, s.wide, t.wide, length-set n.rows r true);
      }

module _ (f g : Flow) (least : ℕ) (m n : Marks) where
  -- row r is marked, or has not sent enough
  pub row_passed : (r c : ℕ) → RoomSought f g least m n c r → (least ≤ amount g.amounts r c → row_marked n r ≡ true)
      → RoomSought f g least m n c (r + 1)
  row_passed r c s h =
      record {
        same = s.same;
        spread = s.spread;
        below = below_more _ r s.below (subst (λ x. least ≤ amount x.amounts r c → row_marked n r ≡ true) s.same h);
      }

  -- column c is marked, or may not be sent to
  pub column_passed : (r c : ℕ) → OutletSought f g least m n r c → (may_send g r c ≡ true → column_marked n c ≡ true)
      → OutletSought f g least m n r (c + 1)
  column_passed r c s h =
      record {
        same = s.same;
        spread = s.spread;
        below = below_more _ c s.below (subst (λ x. may_send x r c ≡ true → column_marked n c ≡ true) s.same h);
      }

  -- row r is marked, or has not enough unsent
  pub start_passed : (r : ℕ) → StartSought f g least n r → (least ≤ get_or g.unsent r 0 → row_marked n r ≡ true)
      → StartSought f g least n (r + 1)
  start_passed r s h =
      record {
        same = s.same;
        reached = s.reached;
        below = below_more _ r s.below (subst (λ x. least ≤ get_or x.unsent r 0 → row_marked n r ≡ true) s.same h);
        wide = s.wide;
      }

-- no mark yet
pub reached_none : (f : Flow) (least : ℕ) (m : Marks) → ((r : ℕ) → row_marked m r ≡ false) → ((c : ℕ) → column_marked m c ≡ false)
    → Reached f least m
reached_none f least m no_row no_column =
    record {
      rows = λ r e. absurd (both_ways (row_marked m r) (no_row r) e);
      columns = λ c e. absurd (both_ways (column_marked m c) (no_column c) e);
      inside = λ P Q closed start. record {
        rows = λ r e. absurd (both_ways (row_marked m r) (no_row r) e);
        columns = λ c e. absurd (both_ways (column_marked m c) (no_column c) e);
      };
    }
