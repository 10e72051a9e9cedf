-- A word has no bit at 64 or above. Assumes nothing.
use Rattle.std.proofs.Common.{◌^◌, ◌<◌, sym, ◌∙◌, arith, pow_mono}
use Rattle.std.proofs.lemmas.Bool.{le-ltb}
use Rattle.logic.proofs.Words.{has_above}
use Rattle.logic.proofs.fault.Verdict.holds_in.Goals as goal

pub returns-else-state-lt64 : goal.returns-else-state-lt64
returns-else-state-lt64 c =
    let below : c.args.self.set < 2 ^ c.args.state = omega (arith, c.well_formed, pow_mono c.if-state-lt64.false) in
    record { answer = le-ltb c.args.state 64 c.if-state-lt64.false ∙ sym (has_above c.args.self.set c.args.state below) }
