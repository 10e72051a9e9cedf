-- The verdict and what shows it, by whether all is sent.
use Rattle.std.proofs.Common.{sym, ◌∙◌}
use Rattle.matching.proofs.Solving.{matched, parted, posed_again}
use Rattle.matching.proofs.matching.solve.Goals as goal

pub returns-then-is_spent : goal.returns-then-is_spent
returns-then-is_spent g c =
    let R = g.R.Relation.pairs c.args.relation.now in
    let f = c.settle-marks.new.self in
    let posed =
    posed_again R c.args.left.now c.args.right.now c.new.result f.task (c.settle-marks.ensures.task ∙ c.new-flow.ensures)
    (record { supply = c.new.ensures.supply; demand = c.new.ensures.demand; allowed = c.new.ensures.allowed }) in
    let r = matched R 64 c.args.left.now c.args.right.now f c.settle-marks.result posed
    (record { left = c.args.left.now.wide; right = c.args.right.now.wide; high = f.high; wide = f.wide; unsent = f.long })
    c.settle-marks.ensures.stuck (sym c.is_spent.ensures ∙ c.if-is_spent.true) c.if-left-right.false in
    record { verdict = r.0; answer = r.1 }

pub returns-else-is_spent : goal.returns-else-is_spent
returns-else-is_spent g c =
    let R = g.R.Relation.pairs c.args.relation.now in
    let f = c.settle-marks.new.self in
    let posed =
    posed_again R c.args.left.now c.args.right.now c.new.result f.task (c.settle-marks.ensures.task ∙ c.new-flow.ensures)
    (record { supply = c.new.ensures.supply; demand = c.new.ensures.demand; allowed = c.new.ensures.allowed }) in
    let r = parted R 64 c.args.left.now c.args.right.now f c.settle-marks.result posed
    (record { left = c.args.left.now.wide; right = c.args.right.now.wide; high = f.high; wide = f.wide; unsent = f.long })
    c.settle-marks.ensures.stuck (sym c.is_spent.ensures ∙ c.if-is_spent.false) c.if-left-right.false in
    record { verdict = r.0; answer = r.1 }
