-- Assumes nothing.
use Rattle.std.proofs.Common.{◌<◌, length, Err, sym, ap, ◌∙◌, arith}
use Rattle.std.proofs.lemmas.Bool.{eqb-false}
use Rattle.std.proofs.lemmas.Result.{err_from_is_err_and}
use Rattle.logic.specs.Judging.{counted}
use Rattle.logic.proofs.Progress.{read_refused, sentence_is_lines}
use Rattle.logic.proofs.judge.count_lines.Goals as goal

pub returns-in_err-read : goal.returns-in_err-read
returns-in_err-read c =
    let p = err_from_is_err_and c.from_residual-in_err-read.result c.from_residual-in_err-read.ensures.1 in
    let some : 0 < length c.args.bytes.now = omega (arith, eqb-false (length c.args.bytes.now) 0 (sym c.if-is_empty.ensures)) in
    let steps = c.in-Some.ensures.steps in
    let taken = rw c.in_ok-field.was at steps.0.2 in
    let here = c.loop-before.invariant.1 ∙ c.loop-before.invariant.2 ∙ sym steps.1 in
    let file = sentence_is_lines c.args.bytes.now some
    ∙ read_refused c.loop-before.invariant.3 _ here _ _ taken.2 _ (rw taken.0 at c.in_err-read.ensures) in
    p.1 ∙ (ap Err p.2 ∙ sym (ap counted file))
