-- What is there, with the branches that are left, makes the whole. Assumes nothing.
use Rattle.std.proofs.Common.{◌≡◌, ◌++◌}
use Rattle.table.specs.File.{read_branches}
use Rattle.table.proofs.new_step.NewStep.append.Given as goal

abbrev pub invariant-loop-branch : goal.invariant-loop-branch
invariant-loop-branch g l =
    l.branches.items ++ read_branches l.branch-iterator.bytes.now ≡ l.initial.branches.items ++ read_branches l.self.branches.now
