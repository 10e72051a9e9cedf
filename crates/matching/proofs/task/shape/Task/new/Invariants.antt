-- The rows so far, and none of the others.
use Rattle.std.proofs.Common.{◌≡◌, ℕ, ◌<◌, ◌≤◌, false, length}
use Rattle.matching.specs.Tables.{allows, cell}
use Rattle.matching.proofs.task.shape.Task.new.Given as goal

abbrev pub invariant-loop-row : goal.invariant-loop-row
invariant-loop-row g l = record {
  high : length l.allowed ≡ 64;
  below : (r c : ℕ) → r < l.row → cell false l.allowed r c ≡ allows (g.R.Relation.pairs l.relation) l.supply l.demand r c;
  rest : (r c : ℕ) → l.row ≤ r → cell false l.allowed r c ≡ false;
}
