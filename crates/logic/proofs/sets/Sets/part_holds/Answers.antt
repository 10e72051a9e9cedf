-- Assumes nothing.
use Rattle.std.proofs.Common.{ap, ◌∙◌}
use Rattle.model.specs.Model.{Model, step_at}
use Rattle.theory.specs.Sentences.{set_of, share}
use Rattle.logic.specs.Words.{has, sets_in}
use Rattle.logic.proofs.Shares.{share_of_word}
use Rattle.logic.proofs.sets.Sets.part_holds.Goals as goal

pub returns : goal.returns
returns g c =
    let m : Model = g.S.Source.meaning c.args.self.now.source.now in
    let share_is = c.share-share.ensures ∙ ap (λ w. share (has w) (step_at m c.args.state c.args.step)) c.named.ensures
    ∙ share_of_word m (g.met.S.Source.obeys c.args.self.now.source.now) c.args.state c.args.step (set_of (sets_in c.args.self.now.words.now) c.args.part.line) in
    rw (c.from.ensures ∙ share_is, c.from-2.ensures, c.from-3.ensures, c.from-4.ensures ∙ c.total-total.ensures)
