-- The answer is the theorem. Assumes nothing.
use Rattle.theory.proofs.Stages.{stages_exact}
use Rattle.theory.proofs.stages_are_exact.Goals as goal

pub returns : goal.returns
returns c = stages_exact
