-- Assumes nothing.
use Rattle.std.proofs.Common.{Bool, length, refl, get_or, ◌∙◌, arith, rules, tests}
use Rattle.std.proofs.lemmas.Iterator.{YieldsList-from_range}
use Rattle.std.proofs.lemmas.Iterator.Search.{all_from_yields_List}
use Rattle.model.specs.Model.{Model, Step, no_step, steps_of}
use Rattle.model.proofs.Places.{all_place}
use Rattle.meeting.specs.Steps.{is_led}
use Rattle.meeting.proofs.meeting.Meeting.are_led.Goals as goal

pub returns : goal.returns
returns g c =
    let m : Model = g.S.Source.meaning c.args.self.now.source.now in
    let test : Step → Bool = is_led m (g.R.Relation.pairs c.args.self.now.relation.now) c.args.s in
    all_from_yields_List (λ j. test (get_or (steps_of m c.args.t) j no_step)) c.all.new.self _ c.all.result c.all.ensures.ran
    (YieldsList-from_range 0 c.steps.result (length (steps_of m c.args.t)) refl (omega (arith, c.steps.ensures))) (λ x b q k. search (rules, tests))
    ∙ all_place (steps_of m c.args.t) no_step test
