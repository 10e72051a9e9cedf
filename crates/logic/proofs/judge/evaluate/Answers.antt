-- Assumes nothing.
use Rattle.std.proofs.Common.{◌≡◌, ◌<◌, [], ◌∷◌, ◌++◌, length, sym, ap, ◌∙◌, ap₂, arith}
use native.Mathlib.Nat.{sub-zero}
use Rattle.std.proofs.lemmas.List.{length_push}
use Rattle.model.specs.Model.{Model, count}
use Rattle.theory.specs.Sentences.{depths_of, line_depth, line_holds, sets_of}
use Rattle.logic.specs.File.{line_of}
use Rattle.logic.specs.Format.{kind_tag}
use Rattle.logic.specs.Lines.{meant}
use Rattle.logic.specs.Words.{sets_in, word}
use Rattle.logic.proofs.Files.{line_behind_few}
use Rattle.logic.proofs.Judging.{depths_low, length_deep, judged_more, judged_none, line_told, words_low}
use Rattle.logic.proofs.Progress.{read_more, read_none, read_room}
use Rattle.logic.proofs.judge.evaluate.Goals as goal
use Rattle.logic.proofs.judge.evaluate.Goals.{In_ok-line}

pub loop-before-init : goal.loop-before-init
loop-before-init g c =
    let all = c.of.ensures.all in
    let start = c.into_iter-before-iterator.ensures.into_iter_gives in
    let none = read_none c.args.bytes.now in (
      [],
      sym (rw start c.enumerate-before-items.ensures.count),
      rw (start, c.enumerate-before-items.ensures.source, all.0, all.1) none,
      rw c.new-depths.ensures (judged_none (g.S.Source.meaning c.args.source.now) c.args.words.now),
    )

-- the line that is read has its place among the words and the depths
room : (g : _) (c : In_ok-line g) → c.in-Some.before < length c.args.words.now
room g c =
    let steps = c.in-Some.ensures.steps in
    let taken = rw c.in_ok-field.was at steps.0.2 in
    rw steps.1 (read_room c.loop-before.invariant.2 _ c.loop-before.invariant.1 _ _ taken.2 (length c.args.words.now) c.requires)

few : (g : _) (c : In_ok-line g) → c.in-Some.before < 4095
few g c =
    let field = c.in_ok-field.field-0 in
    line_behind_few c.in-Some.before field.place (line_of (kind_tag field.kind) field.value.now) (meant c.in_ok-line.line) c.in_ok-line.ensures

pub slice_bounds-new-end : goal.slice_bounds-new-end
slice_bounds-new-end g c = omega (arith, room g c, c.loop-before.invariant.3.size)

pub new-requires : goal.new-requires
new-requires g c =
    let here = c.loop-before.invariant.1 ∙ sym c.in-Some.ensures.steps.1 in
    rw sub-zero (words_low c.loop-before.invariant.3 c.in-Some.before here)

pub depth-requires : goal.depth-requires
depth-requires g c =
    let here = c.loop-before.invariant.1 ∙ sym c.in-Some.ensures.steps.1 in
    rw c.as_slice.ensures.value (depths_low c.loop-before.invariant.3 c.in-Some.before here (few g (goal.at.depth-requires g c).In_ok-line))

pub bounds-words-before : goal.bounds-words-before
bounds-words-before g c = omega (arith, room g (goal.at.bounds-words-before g c).In_ok-line, c.loop-before.invariant.3.size)

pub push-requires : goal.push-requires
push-requires g c =
    let l = few g (goal.at.push-requires g c).In_ok-line in
    let n = length_deep c.loop-before.invariant.3 c.in-Some.before (c.loop-before.invariant.1 ∙ sym c.in-Some.ensures.steps.1) in
    (omega arith, omega (arith, l, n))

pub loop-before-preserved : goal.loop-before-preserved
loop-before-preserved g c =
    let m : Model = g.S.Source.meaning c.args.source.now in
    let line = meant c.in_ok-line.line in
    let steps = c.in-Some.ensures.steps in
    let taken = rw c.in_ok-field.was at steps.0.2 in
    let done = c.loop-before.invariant.0 in
    let judged = c.loop-before.invariant.3 in
    let here : length done ≡ c.in-Some.before = c.loop-before.invariant.1 ∙ sym steps.1 in
    let at = (goal.at.loop-before-preserved g c).In_ok-line in
    let w_is : c.of_line.result ≡ word (count m) (line_holds m (sets_of m done) line) =
    c.of_line.ensures ∙ ap₂ (λ source ws. word (count (g.S.Source.meaning source)) (line_holds (g.S.Source.meaning source) (sets_in ws) line))
    c.new.ensures.0 c.new.ensures.1 ∙ rw sub-zero (line_told judged c.in-Some.before here (g.met.S.Source.obeys c.args.source.now) line) in
    let d_is : c.depth.result ≡ line_depth (depths_of done) line =
    c.depth.ensures ∙ ap (λ ds. line_depth ds line) (c.as_slice.ensures.value ∙ judged.deep) in (
      done ++ line ∷ [],
      omega (arith, length_push done line, here, steps.1, steps.2),
      rw taken.1 (read_more c.loop-before.invariant.2 c.in-Some.before here _ _ taken.2 line (rw taken.0 at c.in_ok-line.ensures)),
      rw c.push.ensures.items (judged_more judged c.in-Some.before here line c.of_line.result c.depth.result w_is d_is (room g at)),
    )
