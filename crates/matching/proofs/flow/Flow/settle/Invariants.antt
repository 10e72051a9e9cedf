-- Each time no way is left for the least amount, which falls.
use Rattle.std.proofs.Common.{◌≡◌, ◌<◌}
use Rattle.matching.specs.Reach.{Stuck}
use Rattle.matching.proofs.flow.Flow.settle.Given as goal

abbrev pub invariant-loop-least : goal.invariant-loop-least
invariant-loop-least l = record {
  some : 0 < l.least;
  task : l.self.task ≡ l.fn.self.task;
  stuck : Stuck l.self l.least l.marks;
}

abbrev pub decreases-loop-least : goal.decreases-loop-least
decreases-loop-least l = l.least
