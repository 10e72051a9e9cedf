-- The tables are in their ranges.
use Rattle.std.proofs.Common.{◌≡◌, false, length, refl, arith, rules}
use Rattle.matching.proofs.Tables.{allowed_column, cell_replicate, row_of_cell}
use Rattle.matching.proofs.Steps.{weight_bound}
use Rattle.matching.proofs.task.shape.Task.new.Goals as goal

pub loop-row-init : goal.loop-row-init
loop-row-init g c =
    record { high = refl; below = λ r k l. absurd (omega arith); rest = λ r k l. cell_replicate 64 64 r k false }

pub invariant_of-result : goal.invariant_of-result
invariant_of-result g c =
    let l = c.args.left.now in
    let r = c.args.right.now in
    record {
      supplied = λ t. rw (c.scaled-supply.ensures t) (weight_bound l.weights t r.total (omega (arith, l.counted, l.light)) r.light);
      demanded = λ t. rw (c.scaled-demand.ensures t) (weight_bound r.weights t l.total (omega (arith, r.counted, r.light)) l.light);
      within = λ t k ok.
          let R = g.R.Relation.pairs c.args.relation.now in
          let wide : length c.scaled-demand.result ≡ 64 = search rules in
          let row = row_of_cell c.loop-row.allowed t k ok in
          let column =
          allowed_column c.loop-row.allowed R c.scaled-supply.result c.scaled-demand.result t k (c.loop-row.invariant.below t k (omega arith)) ok in
          omega arith;
    }
