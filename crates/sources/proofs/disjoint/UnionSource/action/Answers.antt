-- The action of the step on the side where the state lies. Assumes nothing.
use Rattle.std.proofs.Common.{refl, rules}
use Rattle.sources.proofs.Sides.{step_by_side}
use Rattle.sources.proofs.disjoint.UnionSource.action.Goals as goal

pub returns : goal.returns
returns g c =
    let u = c.args.self.now in
    let asked = c.ask.ensures in
    step_by_side (g.A.Source.meaning u.left) (g.B.Source.meaning u.right) _ _ _ (λ a. a.action) (λ a. a.action) (λ a. refl) asked.nowhere
    (λ t e. search (rules, asked.left t e)) (λ t e. search (rules, asked.right t e))
