-- How many steps a state has on the side where it lies. Assumes nothing.
use Rattle.std.proofs.Common.{length, rules}
use Rattle.std.proofs.lemmas.List.{length-map}
use Rattle.sources.proofs.Sides.{answer_by_side}
use Rattle.sources.proofs.disjoint.UnionSource.steps.Goals as goal

pub returns : goal.returns
returns g c =
    let u = c.args.self.now in
    let asked = c.ask.ensures in
    answer_by_side (g.A.Source.meaning u.left) (g.B.Source.meaning u.right) _ _ length length (λ row. length-map row _) asked.nowhere
    (λ t e. search (rules, asked.left t e)) (λ t e. search (rules, asked.right t e))
