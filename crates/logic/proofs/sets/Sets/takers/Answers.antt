-- Assumes nothing.
use Rattle.std.proofs.Common.{◌*◌, ◌%◌, ◌^◌, ◌∙◌, refl, arith, rules, tests}
use lib.Bits.{bit_or}
use Rattle.std.proofs.lemmas.Iterator.{YieldsList-from_range}
use Rattle.std.proofs.lemmas.Iterator.Consumers.{YieldsList-at, YieldsList-from_filter, fold_from_yields_List}
use Rattle.model.specs.Model.{Model, count}
use Rattle.model.proofs.Laws.{lawful_parts}
use Rattle.theory.specs.Sentences.{StateSet, step_to, line_holds}
use Rattle.logic.specs.File.{parts_of}
use Rattle.logic.specs.Words.{sets_in}
use Rattle.logic.proofs.Gathering.{states_gathered}
use Rattle.logic.proofs.sets.Sets.takers.Goals as goal

pub returns : goal.returns
returns g c =
    let m : Model = g.S.Source.meaning c.args.self.now.source.now in
    let law = lawful_parts m (g.met.S.Source.obeys c.args.self.now.source.now) in
    let X : StateSet = line_holds m (sets_in c.args.self.now.words.now) (step_to c.args.action (parts_of c.args.parts.bytes.now)) in
    fold_from_yields_List _ (λ w s. bit_or w (1 * 2 ^ s % 2 ^ 64)) 0 c.fold.result c.fold.ensures.ran
    (YieldsList-from_filter _ X
    (YieldsList-at c.filter.ensures.source (YieldsList-from_range 0 c.states.result (count m) refl (omega (arith, c.states.ensures))))
    c.filter.ensures.closure (λ x b q k. search (rules, tests)))
    (λ a x b q k. search (rules, tests))
    ∙ states_gathered X (count m) law.few
