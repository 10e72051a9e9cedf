-- Where a branch of the step on the side where the state lies leads. Assumes nothing.
use Rattle.std.proofs.Common.{rules}
use Rattle.model.proofs.Laws.{lawful_parts, target_at_most}
use Rattle.sources.specs.Moved.{target_at, target_moved}
use Rattle.sources.proofs.Sides.{step_by_side}
use Rattle.sources.proofs.disjoint.UnionSource.target.Goals as goal

-- each sum fits
pub ask-requires-clause-right : goal.ask-requires-clause-right
ask-requires-clause-right g c =
    let u = c.args.self.now in
    let left = lawful_parts (g.A.Source.meaning u.left) (g.met.A.Source.obeys u.left) in
    let right = lawful_parts (g.B.Source.meaning u.right) (g.met.B.Source.obeys u.right) in
    search (rules, left.few, right.few, target_at_most _ right)

pub returns : goal.returns
returns g c =
    let u = c.args.self.now in
    let asked = c.ask.ensures in
    step_by_side (g.A.Source.meaning u.left) (g.B.Source.meaning u.right) _ _ _ (target_at c.args.branch) _ (target_moved _ _) asked.nowhere
    (λ t e. search (rules, asked.left t e)) (λ t e. search (rules, asked.right t e))
