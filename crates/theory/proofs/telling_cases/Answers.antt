-- The cases compute. Assumes nothing.
use Rattle.std.proofs.Common.{refl}
use Rattle.theory.proofs.telling_cases.Goals as goal

pub returns : goal.returns
returns c = (refl, refl)
