-- What the two loops of the search keep, and what falls from call to call: the rows and columns without a mark.
use Rattle.matching.specs.Reach.{unmarked}
use Rattle.matching.proofs.Turns.{OutletSought, RoomSought}
use Rattle.matching.proofs.flow.Flow.+search.Given as goal

abbrev pub decreases-outlet : goal.decreases-outlet
decreases-outlet l = unmarked l.marks.now

abbrev pub decreases-make_room : goal.decreases-make_room
decreases-make_room l = unmarked l.marks.now

abbrev pub invariant-outlet-loop-column : goal.invariant-outlet-loop-column
invariant-outlet-loop-column l = OutletSought l.fn.self l.self l.least l.fn.marks l.marks l.row l.column

abbrev pub invariant-make_room-loop-row : goal.invariant-make_room-loop-row
invariant-make_room-loop-row l = RoomSought l.fn.self l.self l.least l.fn.marks l.marks l.column l.row
