-- The branches that are left decide. Assumes nothing.
use Rattle.std.proofs.Common.{◌≡◌, ◌&&◌}
use Rattle.std.specs.List.{list_all}
use Rattle.model.specs.Model.{rising, sound_branch}
use Rattle.table.specs.File.{read_branches, sound_branches}
use Rattle.table.proofs.new_step.NewStep.in_order.Given as goal

abbrev pub invariant-loop-branch : goal.invariant-loop-branch
invariant-loop-branch l =
    (rising l.least (read_branches l.branch-iterator.bytes.now) && list_all (sound_branch l.states) (read_branches l.branch-iterator.bytes.now))
    ≡ sound_branches l.states (read_branches l.self.branches.now)
