-- What the searches keep, and what falls from one to the next: what is not sent yet.
use Rattle.std.proofs.Common.{◌≡◌}
use Rattle.std.specs.List.{sum}
use Rattle.matching.proofs.flow.Flow.exhaust.Given as goal

abbrev pub invariant-loop-marks : goal.invariant-loop-marks
invariant-loop-marks l = l.self.task ≡ l.fn.self.task

abbrev pub decreases-loop-marks : goal.decreases-loop-marks
decreases-loop-marks l = sum l.self.unsent
