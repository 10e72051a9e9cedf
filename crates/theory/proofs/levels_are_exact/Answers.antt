-- The answer is the theorem. Assumes nothing.
use Rattle.theory.proofs.Levels.{levels_exact}
use Rattle.theory.proofs.levels_are_exact.Goals as goal

pub returns : goal.returns
returns c = levels_exact
