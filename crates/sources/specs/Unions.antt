-- The rows of a union, and that it is lawful. Assumes nothing.
use Rattle.std.specs.Prelude.{◌≡◌, ℕ, ◌+◌, ◌<◌, ◌≤◌, max, false, List, ◌++◌, map, length}
use Rattle.std.proofs.Common.{inl, inr, arith}
use Rattle.std.proofs.ByRecursion.{All-append, All-map, All-weaker}
use Rattle.std.proofs.lemmas.List.{length-append, length-map}
use Rattle.std.proofs.lemmas.Bool.{cases_Bool}
use Rattle.std.proofs.lemmas.Bool.Decides.{nat_tests}
use Rattle.model.specs.Model.{Model, Step, count}
use Rattle.model.proofs.Laws.{Lawful, row_among_more, void_is_lawful}
use Rattle.sources.specs.Kinds.{moved, union, union_void}
use Rattle.sources.specs.Moved.{row_moved}

module _ (a b : Model) where
  abbrev na : ℕ
  na = count a

  abbrev nb : ℕ
  nb = count b

  abbrev pub rows : List (List Step)
  rows = a.states ++ map (map (moved na)) b.states

  pub length_rows : length rows ≡ na + nb
  length_rows = omega (arith, length-append a.states (map (map (moved na)) b.states), length-map b.states (map (moved na)))

  abbrev both : Model
  both = record { states = rows; p = max a.p b.p; z = max a.z b.z }

  both_is_lawful : union_void a b ≡ false → Lawful a → Lawful b → Lawful both
  both_is_lawful v la lb =
      let few : na + nb ≤ 64 = grind (arith, nat_tests) in
      let some : 0 < na = grind (arith, nat_tests) in
      let long = length_rows in
      record {
        few = omega arith;
        steps = omega (arith, la.steps, lb.steps);
        totals = omega (arith, la.totals, lb.totals);
        void = inl (omega arith);
        rows = All-append _ a.states _
            (All-weaker _ _ (λ row r. row_among_more na (count both) a.p both.p a.z both.z row (omega arith) (omega arith) (omega arith) r)
            a.states la.rows)
            (All-map _ (map (moved na)) b.states (All-weaker _ _ (λ row r. row_among_more (na + nb) (count both) b.p both.p b.z both.z
            (map (moved na) row) (omega arith) (omega arith) (omega arith) (row_moved na nb b.p b.z row r)) b.states lb.rows));
      }

  pub union_is_lawful : Lawful a → Lawful b → Lawful (union a b)
  union_is_lawful la lb =
      elim (cases_Bool (union_void a b)) [
        | inl v ↦ rw v void_is_lawful
        | inr v ↦ rw v (both_is_lawful v la lb)
      ]
