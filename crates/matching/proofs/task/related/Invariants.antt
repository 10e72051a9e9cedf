-- The columns so far.
use Rattle.std.proofs.Common.{◌≡◌, ℕ, ◌<◌, false, ◌&&◌, length, get_or, nat_lt}
use Rattle.matching.proofs.task.related.Given as goal

abbrev pub invariant-loop-column : goal.invariant-loop-column
invariant-loop-column g l = record {
  wide : length l.columns ≡ 64;
  below : (c : ℕ) → c < l.column → get_or l.columns c false ≡ (nat_lt 0 (get_or l.demand c 0) && g.R.Relation.pairs l.relation l.row c);
}
