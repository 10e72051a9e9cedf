-- Assumes nothing.
use Rattle.std.proofs.Common.{length, ap, arith}
use Rattle.std.proofs.lemmas.List.{length-append}
use Rattle.table.proofs.new_step.NewStep.append.Goals as goal

pub push-requires : goal.push-requires
push-requires g c =
    let whole = simp length-append at (ap length c.loop-branch.invariant) in
    let next = ap length c.in-Some.ensures.steps in
    omega (arith, whole, next, c.requires)
