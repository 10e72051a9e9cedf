-- The total of the step on the side where the state lies. Assumes nothing.
use Rattle.std.proofs.Common.{rules}
use Rattle.model.specs.Model.{total}
use Rattle.sources.specs.Moved.{total_moved}
use Rattle.sources.proofs.Sides.{step_by_side}
use Rattle.sources.proofs.disjoint.UnionSource.total.Goals as goal

pub returns : goal.returns
returns g c =
    let u = c.args.self.now in
    let asked = c.ask.ensures in
    step_by_side (g.A.Source.meaning u.left) (g.B.Source.meaning u.right) _ _ _ total total (total_moved _) asked.nowhere
    (λ t e. search (rules, asked.left t e)) (λ t e. search (rules, asked.right t e))
