-- As many lines are judged as are counted. Assumes nothing.
use Rattle.std.proofs.Common.{◌≡◌, List, length}
use Rattle.theory.specs.Sentences.{Line}
use Rattle.logic.proofs.Judging.{JudgedTo}
use Rattle.logic.proofs.Progress.{ReadTo}
use Rattle.logic.proofs.judge.evaluate.Given as goal

abbrev pub invariant-loop-before : goal.invariant-loop-before
invariant-loop-before g l =
    let left = l.before-iterator.iter in
    (done : List Line) × (length done ≡ l.before-iterator.count) × ReadTo l.bytes done left.place left.rest.now
    × JudgedTo (g.S.Source.meaning l.source) l.initial.words done l.words l.depths.items l.last
