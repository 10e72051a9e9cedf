-- Assumes nothing.
use Rattle.std.proofs.Common.{◌≡◌, sym}
use Rattle.model.specs.Model.{Model}
use Rattle.logic.specs.File.{sentence_file}
use Rattle.logic.specs.Judging.{verdict}
use Rattle.logic.proofs.Judgement.{sound}
use Rattle.logic.proofs.Outcomes.{counted_lines}
use Rattle.logic.proofs.Progress.{lines_of_sentence, same_ok}
use Rattle.logic.proofs.judge.judge.Goals as goal

pub returns-clause-sound : goal.returns-clause-sound
returns-clause-sound g c =
    let m : Model = g.S.Source.meaning c.args.source.now in
    let lines = counted_lines (sentence_file c.args.bytes.now) c.in_ok-lines.lines (sym c.in_ok-lines.ensures) in
    let told = c.in_ok-evaluate.ensures lines.0 (lines_of_sentence c.args.bytes.now lines.0 lines.1) in
    let verdict_is : c.in_ok-evaluate.field-0 ≡ verdict m lines.0 = same_ok told.0 in
    (lines.0, lines.1, rw (told.1, verdict_is) (sound m c.args.bytes.now lines.0 c.args.words.now lines.1))
