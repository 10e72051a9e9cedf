-- Assumes nothing.
use Rattle.std.proofs.Common.{arith}
use Rattle.std.proofs.lemmas.Nat.{one_shl}
use Rattle.logic.proofs.Words.{word_everywhere}
use Rattle.logic.proofs.sets.everywhere.Goals as goal

pub returns-then-states-lt64 : goal.returns-then-states-lt64
returns-then-states-lt64 c =
    let n = c.args.states in
    omega (arith, one_shl n 64 c.if-states-lt64.true, word_everywhere n)
