-- The answer is the theorem. Assumes nothing.
use Rattle.theory.proofs.Induction.{depth_zero_constant}
use Rattle.theory.proofs.depth_zero_is_constant.Goals as goal

pub returns : goal.returns
returns c = depth_zero_constant
