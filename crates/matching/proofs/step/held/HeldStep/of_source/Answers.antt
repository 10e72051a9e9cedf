-- Each branch of the source's step may be added.
use Rattle.std.proofs.Common.{◌≡◌, ◌<◌, true, Result, None, Ok, Err, is_ok, length, sym, refl, ◌∙◌, arith}
use Rattle.std.specs.Result.{result_err}
use Rattle.std.proofs.lemmas.Bool.{both_ways}
use Rattle.model.specs.Model.{step_at}
use Rattle.matching.specs.Steps.{meaning}
use Rattle.matching.proofs.Sources.{addable, given_fits}
use Rattle.matching.proofs.step.held.HeldStep.of_source.Goals as goal

ok_where_no_err : {T E : Type 0} (r : Result T E) → result_err r ≡ None → is_ok r ≡ true
ok_where_no_err (Ok x) h = refl
ok_where_no_err (Err e) h = absurd (cc)

pub prove-unreachable-requires : goal.prove-unreachable-requires
prove-unreachable-requires g c =
    let m = g.S.Source.meaning c.args.source.now in
    let a = step_at m c.args.state c.args.step in
    let n = c.loop-place.place in
    let inside : n < length a.branches = omega (arith, c.branches-place-end.ensures) in
    let lawful = addable m (g.met.S.Source.obeys c.args.source.now) c.args.state c.args.step in
    let free =
    given_fits a lawful n inside (meaning c.loop-place.held) c.target.result c.weight.result c.loop-place.invariant c.target.ensures c.weight.ensures in
    both_ways _ (sym c.is_ok-added.ensures.value ∙ c.if-prove.true) (ok_where_no_err c.push.result (c.push.ensures.answer ∙ free))
