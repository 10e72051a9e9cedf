-- Assumes nothing.
use Rattle.std.proofs.Common.{Bool, length, refl, get_or, ◌∙◌, arith, rules, tests}
use Rattle.std.proofs.lemmas.Iterator.{YieldsList-from_range}
use Rattle.std.proofs.lemmas.Iterator.Search.{any_from_yields_List}
use Rattle.model.specs.Model.{Model, Step, no_step, steps_of}
use Rattle.model.proofs.Places.{any_place}
use Rattle.theory.specs.Matching.{matches}
use Rattle.matching.specs.Steps.{meaning}
use Rattle.meeting.proofs.meeting.Meeting.is_led.Goals as goal

pub returns : goal.returns
returns g c =
    let m : Model = g.S.Source.meaning c.args.self.now.source.now in
    let is_match : Step → Bool = λ a. matches (g.R.Relation.pairs c.args.self.now.relation.now) a (meaning c.args.right.now) in
    any_from_yields_List (λ i. is_match (get_or (steps_of m c.args.s) i no_step)) c.any.new.self _ c.any.result c.any.ensures.ran
    (YieldsList-from_range 0 c.steps.result (length (steps_of m c.args.s)) refl (omega (arith, c.steps.ensures))) (λ x b q k. search (rules, tests))
    ∙ any_place (steps_of m c.args.s) no_step is_match
