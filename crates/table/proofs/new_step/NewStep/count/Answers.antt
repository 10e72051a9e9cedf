-- Assumes nothing.
use Rattle.table.proofs.Branches.{third_is_length}
use Rattle.table.proofs.new_step.NewStep.count.Goals as goal

pub returns : goal.returns
returns c = third_is_length c.args.self.now.branches.now
