-- Assumes nothing.
use Rattle.std.proofs.Common.{sym, ◌∙◌, rules, tests}
use Rattle.std.proofs.lemmas.Bool.{eq-eqb}
use Rattle.std.proofs.lemmas.Iterator.Search.{all_from_yields_List}
use Rattle.model.specs.Model.{Model, Step, step_at}
use Rattle.theory.specs.Sentences.{part_holds}
use Rattle.logic.specs.File.{parts_of}
use Rattle.logic.specs.Words.{sets_in}
use Rattle.fields.proofs.Held.{held_in_turn}
use Rattle.logic.proofs.sets.Sets.passes.Goals as goal

pub returns-then-action : goal.returns-then-action
returns-then-action g c =
    let m : Model = g.S.Source.meaning c.args.self.now.source.now in
    let a : Step = step_at m c.args.state c.args.step in
    let holds = part_holds (sets_in c.args.self.now.words.now) a in
    let told = all_from_yields_List holds c.all.new.self _ c.all.result c.all.ensures.ran
    (held_in_turn parts_of c.args.parts) (λ x b q k. search (rules, tests)) in
    rw (eq-eqb a.action c.args.action (sym c.action.ensures ∙ c.if-action.true)) told
