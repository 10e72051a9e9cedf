-- No target is as high where no weight stands from there on.
use Rattle.std.proofs.Common.{◌≡◌, ◌-◌, take, drop, length-drop, take_all, ap, ◌∙◌, arith}
use Rattle.std.proofs.lemmas.Bool.{lt-ltb}
use Rattle.matching.proofs.Steps.{all_below, empty}
use Rattle.matching.proofs.step.held.HeldStep.is_free_from.Goals as goal

pub returns-then-target-lt-STATES : goal.returns-then-target-lt-STATES
returns-then-target-lt-STATES c =
    let t = c.args.target in
    let ws = c.args.self.now.weights in
    let all : take (64 - t) (drop t ws) ≡ drop t ws = take_all _ _ (omega (arith, length-drop t ws)) in
    rw (lt-ltb t 64 c.if-target-lt-STATES.true, all_below t ws 0 t (omega arith)) (c.are_zero.ensures ∙ ap empty all)
