-- What is taken from one column is put into the other.
use Rattle.std.proofs.Common.{◌≡◌, ◌+◌, ◌-◌, ◌<◌, length, get_or, ap, ◌∙◌, arith, rules}
use Rattle.std.proofs.lemmas.List.{get_or-set_same}
use Rattle.matching.specs.Tables.{amount}
use Rattle.matching.proofs.Flows.{set_back}
use Rattle.matching.proofs.Tables.{put_off_column}
use Rattle.matching.proofs.flow.Flow.shift.Goals as goal

pub returns-clause-unsent : goal.returns-clause-unsent
returns-clause-unsent c =
    let f = c.args.self.now in
    let g = c.assign.new.self in
    let lu : c.args.row < length f.unsent = search rules in
    let here : get_or g.unsent c.args.row 0 ≡ get_or f.unsent c.args.row 0 + amount f.amounts c.args.row c.args.from - (amount f.amounts c.args.row c.args.from - c.min-by.result) =
    ap (λ U. get_or U c.args.row 0) c.assign.ensures.unsent ∙ get_or-set_same f.unsent c.args.row _ 0 lu in
    set_back f.unsent g.unsent c.assign-2.new.self.unsent c.args.row _ _ c.assign.ensures.unsent c.assign-2.ensures.unsent (omega arith)

pub returns-clause-others : goal.returns-clause-others
returns-clause-others c =
    let f = c.args.self.now in
    let g = c.assign.new.self in
    let i = c.args.row in
    let lf : i < length f.amounts = search rules in
    let lg : i < length g.amounts = search rules in
    λ k r p q.
    ap (λ A. amount A r k) c.assign-2.ensures.amounts
    ∙ (put_off_column g.amounts i c.args.to _ lg (omega (arith, g.wide i)) r k q
    ∙ (ap (λ A. amount A r k) c.assign.ensures.amounts ∙ put_off_column f.amounts i c.args.from _ lf (omega (arith, f.wide i)) r k p))
