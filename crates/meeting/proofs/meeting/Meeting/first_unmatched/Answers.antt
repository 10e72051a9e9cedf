-- Assumes nothing.
use Rattle.std.proofs.Common.{◌≡◌, ℕ, ◌<◌, ◌≤◌, Bool, true, false, not, length, ap, sym, ◌∙◌, below_more, arith, rules}
use Rattle.std.specs.List.{list_any}
use Rattle.std.proofs.lemmas.List.{take_all}
use Rattle.std.proofs.lemmas.List.Folds.{list_any_at}
use Rattle.std.proofs.lemmas.List.Sums.{position_or_len_is}
use Rattle.model.specs.Model.{Model, no_step, step_at, steps_of}
use Rattle.theory.specs.Matching.{Relation, matches}
use Rattle.theory.specs.Telling.{unmatched}
use Rattle.matching.specs.Steps.{meaning}
use Rattle.meeting.specs.Steps.{is_followed}
use Rattle.meeting.proofs.meeting.Meeting.first_unmatched.Goals as goal

pub moves-preserved : goal.moves-preserved
moves-preserved g c =
    let m : Model = g.S.Source.meaning c.args.self.now.source.now in
    let R : Relation = g.R.Relation.pairs c.args.self.now.relation.now in
    let matched : ℕ → Bool = λ i. is_followed m R c.args.t (step_at m c.args.s i) in
    let here : matched c.moves.i ≡ true =
    list_any_at (λ b. matches R (step_at m c.args.s c.moves.i) b) (steps_of m c.args.t) c.loop-j.j no_step (omega arith)
    (ap (λ a. matches R a (step_at m c.args.t c.loop-j.j)) (sym c.step-left.ensures) ∙ ap (matches R (meaning c.step-left.result)) (sym c.step.ensures) ∙ sym c.is_match.ensures ∙ c.if-is_match.true) in
    below_more (λ k. matched k ≡ true) c.moves.i c.moves.invariant here

-- the place of the first step that no step of t is matched by, where each before i matches one, and i is the last or none
module _ (m : Model) (R : Relation) (s t i : ℕ) (bound : i ≤ length (steps_of m s))
    (before : (k : ℕ) → k < i → is_followed m R t (step_at m s k) ≡ true)
    (here : i < length (steps_of m s) → is_followed m R t (step_at m s i) ≡ false) where
  place : unmatched m R s t ≡ i
  place = position_or_len_is (λ a. not (is_followed m R t a)) (steps_of m s) i no_step bound (λ k h. ap not (before k h)) (λ h. ap not (here h))

pub returns-in-moves : goal.returns-in-moves
returns-in-moves g c =
    let m : Model = g.S.Source.meaning c.args.self.now.source.now in
    let R : Relation = g.R.Relation.pairs c.args.self.now.relation.now in
    let all = take_all c.loop-j.j (steps_of m c.args.t) (omega (arith, c.steps-j-end.ensures)) in
    let e = place m R c.args.s c.args.t c.moves.i (omega arith) c.moves.invariant
    (λ h. sym (ap (list_any (λ b. matches R (step_at m c.args.s c.moves.i) b)) all) ∙ c.loop-j.invariant) in
    search (rules, e)

pub returns : goal.returns
returns g c =
    let m : Model = g.S.Source.meaning c.args.self.now.source.now in
    let R : Relation = g.R.Relation.pairs c.args.self.now.relation.now in
    let e = place m R c.args.s c.args.t c.moves.i (omega arith) c.moves.invariant (λ h. absurd (omega arith)) in
    search (rules, e)
