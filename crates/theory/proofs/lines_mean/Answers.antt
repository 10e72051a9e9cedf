-- The answer is the theorem. Assumes nothing.
use Rattle.theory.proofs.Meanings.{lines_mean}
use Rattle.theory.proofs.lines_mean.Goals as goal

pub returns : goal.returns
returns c = lines_mean
