-- The answer is the theorem. Assumes nothing.
use Rattle.theory.proofs.Weights.{match_exact}
use Rattle.theory.proofs.match_is_exact.Goals as goal

pub returns : goal.returns
returns c = match_exact
