-- How many branches the step on the side where the state lies has. Assumes nothing.
use Rattle.std.proofs.Common.{length, rules}
use Rattle.sources.specs.Moved.{length_moved}
use Rattle.sources.proofs.Sides.{step_by_side}
use Rattle.sources.proofs.disjoint.UnionSource.branches.Goals as goal

pub returns : goal.returns
returns g c =
    let u = c.args.self.now in
    let asked = c.ask.ensures in
    step_by_side (g.A.Source.meaning u.left) (g.B.Source.meaning u.right) _ _ _ (λ a. length a.branches) (λ a. length a.branches) (length_moved _) asked.nowhere
    (λ t e. search (rules, asked.left t e)) (λ t e. search (rules, asked.right t e))
