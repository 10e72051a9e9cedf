-- The answer is the theorem. Assumes nothing.
use Rattle.theory.proofs.Settled.{settled_exact}
use Rattle.theory.proofs.settled_is_exact.Goals as goal

pub returns : goal.returns
returns c = settled_exact
