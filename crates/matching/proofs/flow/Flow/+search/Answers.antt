-- A search goes on by one row or one column, or ends.
use Rattle.std.proofs.Common.{◌<◌, length, arith, rules}
use Rattle.std.proofs.lemmas.Bool.{both_ways}
use Rattle.matching.proofs.Turns.{column_crowded, column_passed, row_blocked, row_passed}
use Rattle.matching.proofs.flow.Flow.+search.Goals as goal
use Rattle.matching.proofs.flow.Flow.+search.Goals.{make_room-then-not-marks-row+then-self-row+in_default, make_room-else-not-marks-row, make_room-else-not-marks-row-via-then-not-marks-row+else-self-row, make_room-else-not-marks-row-via-else-not-marks-row, outlet-then-self-row+then-not-marks-column+else-make_room, outlet-else-self-row, outlet-else-self-row-via-then-self-row+else-not-marks-column, outlet-else-self-row-via-else-self-row}

pub make_room-loop-row-preserved : goal.make_room-loop-row-preserved
make_room-loop-row-preserved t c =
    let f = c.args.self.now in
    let g = c.loop-row.self in
    let n = c.loop-row.marks in
    let r = c.loop-row.row in
    let k = c.args.column in
    let s = c.loop-row.invariant in
    elim c.if-not-marks-row.branch [
      | make_room-then-not-marks-row+then-self-row+in_default w ↦
          let len : r < length n.rows = search rules in
          rw (w.self-is, w.marks-is)
          (row_blocked f g w.outlet.new.self c.args.least c.args.marks.now n w.outlet.new.marks r k s w.in_default.ensures len
          w.if-not-marks-row.true c.requires.marked c.requires.some w.if-self-row.true)
      | make_room-else-not-marks-row w ↦
          rw (w.self-is, w.marks-is) (row_passed f g c.args.least c.args.marks.now n r k s (λ enough. elim w.else-not-marks-row.branch [
            | make_room-else-not-marks-row-via-then-not-marks-row+else-self-row w' ↦ absurd (omega arith)
            | make_room-else-not-marks-row-via-else-not-marks-row w' ↦ w'.if-not-marks-row.false
          ]))
    ]

pub outlet-loop-column-preserved : goal.outlet-loop-column-preserved
outlet-loop-column-preserved t c =
    let f = c.args.self.now in
    let g = c.loop-column.self in
    let n = c.loop-column.marks in
    let r = c.args.row in
    let k = c.loop-column.column in
    let s = c.loop-column.invariant in
    elim c.if-self-row.branch [
      | outlet-then-self-row+then-not-marks-column+else-make_room w ↦
          let len : k < length n.columns = search rules in
          rw (w.self-is, w.marks-is)
          (column_crowded f g w.make_room.new.self c.args.least c.args.marks.now n w.make_room.new.marks r k s w.if-make_room.ensures len
          w.if-not-marks-column.true c.requires.marked w.if-self-row.true)
      | outlet-else-self-row w ↦
          rw (w.self-is, w.marks-is) (column_passed f g c.args.least c.args.marks.now n r k s (λ ok. elim w.else-self-row.branch [
            | outlet-else-self-row-via-then-self-row+else-not-marks-column w' ↦ w'.if-not-marks-column.false
            | outlet-else-self-row-via-else-self-row w' ↦ absurd (both_ways _ w'.if-self-row.false ok)
          ]))
    ]

pub outlet-returns : goal.outlet-returns
outlet-returns t c =
    let s = c.loop-column.invariant in
    record {
      same = s.same;
      spread = s.spread;
      done = record { along = λ k ok. s.below k (omega (arith, c.args.self.now.task.within c.args.row k ok)) ok };
    }
