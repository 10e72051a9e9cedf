-- The answer is the theorem. Assumes nothing.
use Rattle.theory.proofs.Cuts.{cut_exact}
use Rattle.theory.proofs.cut_is_exact.Goals as goal

pub returns : goal.returns
returns c = cut_exact
