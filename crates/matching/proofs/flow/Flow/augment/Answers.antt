-- A search from the rows goes on by one row.
use Rattle.std.proofs.Common.{false, ◌<◌, length, refl, arith}
use Rattle.matching.proofs.Spreads.{marked_here}
use Rattle.matching.proofs.Tables.{amount_le_row, get_or_replicate}
use Rattle.matching.proofs.Turns.{reached_none, start_blocked, start_passed}
use Rattle.matching.proofs.flow.Flow.augment.Goals as goal
use Rattle.matching.proofs.flow.Flow.augment.Goals.{then-not-marks-row+then-self-row+in_default, else-not-marks-row, else-not-marks-row-via-then-not-marks-row+else-self-row, else-not-marks-row-via-else-not-marks-row}

pub loop-row-init : goal.loop-row-init
loop-row-init c =
    record { same = refl; reached = reached_none _ _ _ (λ r. get_or_replicate 64 r false) (λ c. get_or_replicate 64 c false); below = λ j l. absurd (omega arith); wide = refl }

pub outlet-requires-clause-marked : goal.outlet-requires-clause-marked
outlet-requires-clause-marked c = marked_here c.loop-row.marks.rows c.loop-row.row (omega (arith, c.loop-row.invariant.wide))

pub overflow_add-self : goal.overflow_add-self
overflow_add-self c =
    let g = c.outlet.new.self in
    let r = c.loop-row.row in
    let le = amount_le_row g.amounts r c.in-Some.column in
    let sent = g.sends r in
    let most = g.task.supplied r in
    omega arith

pub loop-row-preserved : goal.loop-row-preserved
loop-row-preserved c =
    let f = c.args.self.now in
    let g = c.loop-row.self in
    let n = c.loop-row.marks in
    let r = c.loop-row.row in
    let s = c.loop-row.invariant in
    elim c.if-not-marks-row.branch [
      | then-not-marks-row+then-self-row+in_default w ↦
          let len : r < length n.rows = omega (arith, s.wide) in
          rw (w.self-is, w.marks-is)
          (start_blocked f g w.outlet.new.self c.args.least n n w.outlet.new.marks r s w.in_default.ensures len
          w.if-not-marks-row.true c.requires w.if-self-row.true)
      | else-not-marks-row w ↦
          rw (w.self-is, w.marks-is) (start_passed f g c.args.least n n r s (λ enough. elim w.else-not-marks-row.branch [
            | else-not-marks-row-via-then-not-marks-row+else-self-row w' ↦ absurd (omega arith)
            | else-not-marks-row-via-else-not-marks-row w' ↦ w'.if-not-marks-row.false
          ]))
    ]
