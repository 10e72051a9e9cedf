-- What becomes of the step, by the weight and the total.
use Rattle.std.proofs.Common.{length-set, ◌<◌, length, sym, ap, ◌∙◌, arith}
use Rattle.std.proofs.lemmas.List.Sums.{sum_by-set}
use Rattle.model.specs.Model.{Step}
use Rattle.matching.specs.Steps.{meaning, rises_above}
use Rattle.matching.proofs.Steps.{branches_push, empty_from, free_from, grown_by, grown_not, held_total, may_be_added, too_heavy}
use Rattle.matching.proofs.step.held.HeldStep.push.Goals as goal

pub returns-then-branch-self-clause-answer : goal.returns-then-branch-self-clause-answer
returns-then-branch-self-clause-answer c =
    let s = c.args.self.now in
    let rises = ap (rises_above (meaning s)) (sym c.from-target.ensures) ∙ (sym c.is_free_from.ensures ∙ c.if-not-is_free_from.false) in
    sym (too_heavy (meaning s) c.args.branch rises (omega arith) (omega (arith, held_total s)))

pub returns-then-branch-self-clause-step : goal.returns-then-branch-self-clause-step
returns-then-branch-self-clause-step c =
    let s = c.args.self.now in
    let rises = ap (rises_above (meaning s)) (sym c.from-target.ensures) ∙ (sym c.is_free_from.ensures ∙ c.if-not-is_free_from.false) in
    sym (grown_not (meaning s) c.args.branch rises (omega arith) (omega (arith, held_total s)))

pub invariant_of-self : goal.invariant_of-self
invariant_of-self c =
    let s = c.args.self.now in
    let free = free_from s c.from-target.result (sym c.is_free_from.ensures ∙ c.if-not-is_free_from.false) in
    let len : c.from-target.result < length s.weights = omega (arith, s.wide) in
    let none = empty_from c.from-target.result s.weights free.1 in
    let change = sum_by-set (λ n. n) s.weights c.from-target.result c.args.branch.weight 0 len in
    record { wide = length-set s.weights c.from-target.result _ ∙ s.wide; counted = omega (arith, s.counted); light = omega arith }

pub returns-clause-answer : goal.returns-clause-answer
returns-clause-answer c =
    let s = c.args.self.now in
    let rises = ap (rises_above (meaning s)) (sym c.from-target.ensures) ∙ (sym c.is_free_from.ensures ∙ c.if-not-is_free_from.false) in
    sym (may_be_added (meaning s) c.args.branch rises (omega arith) (omega (arith, held_total s)))

pub returns-clause-step : goal.returns-clause-step
returns-clause-step c =
    let s = c.args.self.now in
    let rises = ap (rises_above (meaning s)) (sym c.from-target.ensures) ∙ (sym c.is_free_from.ensures ∙ c.if-not-is_free_from.false) in
    let free = free_from s c.from-target.result (sym c.is_free_from.ensures ∙ c.if-not-is_free_from.false) in
    let len : c.from-target.result < length s.weights = omega (arith, s.wide) in
    ap (λ bs. let a : Step = record { action = s.action; branches = bs } in a)
    (branches_push c.args.branch.weight (omega arith) c.from-target.result s.weights 0 c.args.branch.target len free.1 (omega arith))
    ∙ sym (grown_by (meaning s) c.args.branch rises (omega arith) (omega (arith, held_total s)))
