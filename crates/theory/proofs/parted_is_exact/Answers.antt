-- The answer is the theorem. Assumes nothing.
use Rattle.theory.proofs.Telling.{parted_exact}
use Rattle.theory.proofs.parted_is_exact.Goals as goal

pub returns : goal.returns
returns c = parted_exact
