-- The answer is the theorem. Assumes nothing.
use Rattle.theory.proofs.Rounds.{rounds_bounded}
use Rattle.theory.proofs.rounds_are_bounded.Goals as goal

pub returns : goal.returns
returns c = rounds_bounded
