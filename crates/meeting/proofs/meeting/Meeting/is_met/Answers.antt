-- Assumes nothing.
use Rattle.std.proofs.Common.{rules, tests}
use Rattle.model.specs.Model.{Model, steps_of}
use Rattle.theory.specs.Matching.{Relation}
use Rattle.meeting.specs.Steps.{is_followed}
use Rattle.meeting.proofs.Firsts.{found}
use Rattle.meeting.proofs.meeting.Meeting.is_met.Goals as goal

pub returns-then-is_none : goal.returns-then-is_none
returns-then-is_none g c =
    let m : Model = g.S.Source.meaning c.args.self.now.source.now in
    let R : Relation = g.R.Relation.pairs c.args.self.now.relation.now in
    let e = found (is_followed m R c.args.t) (steps_of m c.args.s) in
    search (rules, tests, e)

pub returns-else-is_none : goal.returns-else-is_none
returns-else-is_none g c =
    let m : Model = g.S.Source.meaning c.args.self.now.source.now in
    let R : Relation = g.R.Relation.pairs c.args.self.now.relation.now in
    let e = found (is_followed m R c.args.t) (steps_of m c.args.s) in
    search (rules, tests, e)
