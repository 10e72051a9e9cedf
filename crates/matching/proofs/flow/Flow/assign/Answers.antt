-- The amount that is put keeps what holds of the flow.
use Rattle.std.proofs.Common.{[], ◌<◌, length, get_or, length-set, ◌∙◌, arith, rules}
use Rattle.matching.proofs.Flows.{carries_put, receives_put, sends_put, wide_put}
use Rattle.matching.proofs.flow.Flow.assign.Goals as goal

pub invariant_of-self : goal.invariant_of-self
invariant_of-self c =
    let f = c.args.self.now in
    let r = c.args.row in
    let k = c.args.column in
    let x = c.args.sent in
    let lr : r < length f.amounts = omega (arith, f.high) in
    let lc : k < length (get_or f.amounts r []) = omega (arith, f.wide r) in
    let lu : r < length f.unsent = omega (arith, f.long) in
    let lm : k < length f.room = search rules in
    record {
      high = length-set f.amounts r _ ∙ f.high;
      long = length-set f.unsent r _ ∙ f.long;
      wide = wide_put f.amounts r k x lr lc f.wide;
      sends = sends_put f.amounts r k x lr lc f.task.supply f.unsent _ f.sends lu (omega arith);
      receives = receives_put f.amounts r k x lr lc f.task.demand f.room _ f.receives lm (omega arith);
      carries = carries_put f.amounts r k x lr lc f.task.allowed f.carries c.requires.allowed;
    }
