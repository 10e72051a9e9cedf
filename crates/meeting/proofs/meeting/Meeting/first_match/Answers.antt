-- Assumes nothing.
use Rattle.std.proofs.Common.{ℕ, Bool, length, refl, ap, get_or, ◌∙◌, arith, rules, tests}
use Rattle.std.specs.List.{position_or_len, range_with_len}
use Rattle.std.proofs.lemmas.Iterator.{YieldsList-from_range}
use Rattle.std.proofs.lemmas.Iterator.Search.{position_from_yields_List}
use Rattle.std.proofs.lemmas.List.FromFn.{length-range_with_len}
use Rattle.model.specs.Model.{Model, Step, no_step, step_at, steps_of}
use Rattle.model.proofs.Places.{first_place}
use Rattle.theory.specs.Matching.{matches}
use Rattle.meeting.specs.Steps.{place_below}
use Rattle.meeting.proofs.meeting.Meeting.first_match.Goals as goal

pub returns : goal.returns
returns g c =
    let m : Model = g.S.Source.meaning c.args.self.now.source.now in
    let is_match : Step → Bool = λ b. matches (g.R.Relation.pairs c.args.self.now.relation.now) (step_at m c.args.s c.args.i) b in
    let n : ℕ = length (steps_of m c.args.t) in
    position_from_yields_List (λ j. is_match (get_or (steps_of m c.args.t) j no_step)) c.position.new.self _ c.position.result c.position.ensures.ran
    (YieldsList-from_range 0 c.steps.result n refl (omega (arith, c.steps.ensures))) (λ x b q k. search (rules, tests))
    ∙ ap (λ k. place_below k (position_or_len (λ j. is_match (get_or (steps_of m c.args.t) j no_step)) (range_with_len 0 n))) (length-range_with_len 0 n)
    ∙ ap (place_below n) (first_place (steps_of m c.args.t) no_step is_match)
