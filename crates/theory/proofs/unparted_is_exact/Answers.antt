-- The answer is the theorem. Assumes nothing.
use Rattle.theory.proofs.Agreement.{unparted_exact}
use Rattle.theory.proofs.unparted_is_exact.Goals as goal

pub returns : goal.returns
returns c = unparted_exact
