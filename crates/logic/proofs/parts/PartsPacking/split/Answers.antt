-- Assumes nothing.
use Rattle.std.proofs.Common.{◌≤◌, length, arith}
use Rattle.logic.proofs.Fronts.{parts_more, parts_none}
use Rattle.logic.proofs.parts.PartsPacking.split.Goals as goal

pub returns-in_err-m : goal.returns-in_err-m
returns-in_err-m c =
    rw c.from_residual-in_err-m.ensures (parts_none c.args.bytes.now
    (omega (arith, c.in_ok-line.ensures.cases.2, c.in_ok-k.ensures.cases.2, (c.in_err-m.ensures {u = tt}).cases)))

pub returns : goal.returns
returns c =
    let line = c.in_ok-line.ensures.cases in
    let k = c.in_ok-k.ensures.cases in
    let m = c.in_ok-m.ensures.cases in
    let ten : 10 ≤ length c.args.bytes.now = omega (arith, line.2, k.2, m.2) in
    let more = parts_more c.args.bytes.now ten in
    (cc (more, line.0, line.1, k.0, k.1, m.0, m.1, c.from_be_bytes.ensures, c.from_be_bytes-2.ensures, c.from_be_bytes-3.ensures), omega (arith, line.2, k.2, m.2))
