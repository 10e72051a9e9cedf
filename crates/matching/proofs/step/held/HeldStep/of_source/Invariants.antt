-- The branches so far.
use Rattle.std.proofs.Common.{◌≡◌}
use Rattle.model.specs.Model.{step_at}
use Rattle.matching.specs.Steps.{meaning}
use Rattle.matching.proofs.Sources.{first_branches}
use Rattle.matching.proofs.step.held.HeldStep.of_source.Given as goal

abbrev pub invariant-loop-place : goal.invariant-loop-place
invariant-loop-place g l = meaning l.held ≡ first_branches (step_at (g.S.Source.meaning l.source) l.state l.step) l.place
