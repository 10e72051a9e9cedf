-- Assumes nothing.
use Rattle.std.proofs.Common.{◌-◌, ◌∙◌}
use Rattle.model.specs.Model.{count}
use Rattle.logic.proofs.Gathering.{word_named}
use Rattle.logic.proofs.sets.Sets.named.Goals as goal

pub returns : goal.returns
returns g c =
    c.named.ensures ∙ word_named (count (g.S.Source.meaning c.args.self.now.source.now)) c.args.self.now.words.now c.args.line
    (c.args.self.now.inside (c.args.line - 1))
