-- Assumes nothing.
use Rattle.std.proofs.Common.{ℕ, cond, ◌∙◌, length, get_or, refl, arith, rules, tests}
use Rattle.std.specs.List.{range_with_len}
use Rattle.std.proofs.lemmas.Iterator.{YieldsList-from_map, YieldsList-from_range}
use Rattle.std.proofs.lemmas.Iterator.Consumers.{YieldsList-at, fits_by_from_yields_list, sum_by_from_yields_List}
use Rattle.model.specs.Model.{Model, Step, no_branch, step_at}
use Rattle.model.proofs.Laws.{total_bound}
use Rattle.logic.specs.Words.{has}
use Rattle.logic.proofs.Shares.{share_at_most, share_tested}
use Rattle.logic.proofs.sets.Sets.share.Goals as goal

pub sum-requires-clause-fits : goal.sum-requires-clause-fits
sum-requires-clause-fits g c =
    let m : Model = g.S.Source.meaning c.args.self.now.source.now in
    let a : Step = step_at m c.args.state c.args.step in
    let counted : ℕ → ℕ = λ j. cond (has c.args.set (get_or a.branches j no_branch).target) (get_or a.branches j no_branch).weight 0 in
    fits_by_from_yields_list counted (range_with_len 0 (length a.branches)) c.map.result _
    (YieldsList-from_map _ counted
    (YieldsList-at c.map.ensures.source (YieldsList-from_range 0 c.branches.result (length a.branches) refl (omega (arith, c.branches.ensures))))
    c.map.ensures.closure (λ x r q k. search (rules, tests)))
    (omega (
      arith,
      share_tested (has c.args.set) a,
      share_at_most (has c.args.set) a,
      total_bound m (g.met.S.Source.obeys c.args.self.now.source.now) c.args.state c.args.step,
    ))

pub returns : goal.returns
returns g c =
    let m : Model = g.S.Source.meaning c.args.self.now.source.now in
    let a : Step = step_at m c.args.state c.args.step in
    let counted : ℕ → ℕ = λ j. cond (has c.args.set (get_or a.branches j no_branch).target) (get_or a.branches j no_branch).weight 0 in
    sum_by_from_yields_List counted (range_with_len 0 (length a.branches)) c.map.result c.sum.result c.sum.ensures.ran
    (YieldsList-from_map _ counted
    (YieldsList-at c.map.ensures.source (YieldsList-from_range 0 c.branches.result (length a.branches) refl (omega (arith, c.branches.ensures))))
    c.map.ensures.closure (λ x r q k. search (rules, tests)))
    ∙ share_tested (has c.args.set) a
