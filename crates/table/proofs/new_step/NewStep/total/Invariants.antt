-- What is summed so far and what is left make the whole. Assumes nothing.
use Rattle.std.proofs.Common.{◌≡◌, ◌+◌, ◌^◌, ◌<◌}
use Rattle.model.specs.Model.{mass}
use Rattle.table.specs.File.{read_branches}
use Rattle.table.proofs.new_step.NewStep.total.Given as goal

abbrev pub invariant-loop-branch : goal.invariant-loop-branch
invariant-loop-branch l = record {
  sum : l.total + mass (read_branches l.branch-iterator.bytes.now) ≡ mass (read_branches l.self.branches.now);
  fits : l.total < 2 ^ 32;
}
