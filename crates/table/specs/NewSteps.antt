-- The step that a field gives. Assumes nothing.
use Rattle.model.specs.Model.{Step}
use Rattle.table.specs.File.{read_branches}
use Rattle.table.specs.declared.new_step.NewStep.{NewStep}

abbrev pub step_given : NewStep → Step
step_given g = record { action = g.action; branches = read_branches g.branches.now }
