-- As many lines are done as are counted. Assumes nothing.
use Rattle.std.proofs.Common.{◌≡◌, List, length}
use Rattle.theory.specs.Sentences.{Line}
use Rattle.logic.proofs.Progress.{ReadTo}
use Rattle.logic.proofs.judge.count_lines.Given as goal

abbrev pub invariant-loop-before : goal.invariant-loop-before
invariant-loop-before l =
    let left = l.before-iterator.iter in
    (done : List Line) × (length done ≡ l.count) × (l.count ≡ l.before-iterator.count) × ReadTo l.bytes done left.place left.rest.now
