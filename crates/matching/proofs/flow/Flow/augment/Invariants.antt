-- What the search over the rows keeps.
use Rattle.matching.proofs.Turns.{StartSought}
use Rattle.matching.proofs.flow.Flow.augment.Given as goal

abbrev pub invariant-loop-row : goal.invariant-loop-row
invariant-loop-row l = StartSought l.fn.self l.self l.least l.marks l.row
