-- What is summed so far and what is left make the whole. Assumes nothing.
use Rattle.std.proofs.Common.{◌≡◌, ◌+◌, ◌^◌, ◌<◌, drop}
use Rattle.model.specs.Model.{mass}
use Rattle.table.proofs.table.answers.checked_total.Given as goal

abbrev pub invariant-loop-branch : goal.invariant-loop-branch
invariant-loop-branch l = record {
  sum : l.total + mass (drop l.branch-index l.branches) ≡ mass l.branches;
  fits : l.total < 2 ^ 32;
}
