-- Assumes nothing.
use Rattle.std.proofs.Common.{◌&&◌, Bool, eqb, length, refl, get_or, ◌∙◌, arith, rules, tests}
use Rattle.std.proofs.lemmas.Iterator.{YieldsList-from_range}
use Rattle.std.proofs.lemmas.Iterator.Search.{any_from_yields_List}
use Rattle.std.specs.List.{list_all}
use Rattle.model.specs.Model.{Model, Step, no_step, steps_of}
use Rattle.model.proofs.Places.{any_place}
use Rattle.theory.specs.Sentences.{part_holds}
use Rattle.logic.specs.File.{parts_of}
use Rattle.logic.specs.Words.{sets_in}
use Rattle.logic.proofs.sets.Sets.takes.Goals as goal

pub returns : goal.returns
returns g c =
    let m : Model = g.S.Source.meaning c.args.self.now.source.now in
    let passes : Step → Bool = λ a. eqb a.action c.args.action && list_all (part_holds (sets_in c.args.self.now.words.now) a) (parts_of c.args.parts.bytes.now) in
    any_from_yields_List (λ i. passes (get_or (steps_of m c.args.state) i no_step)) c.any.new.self _ c.any.result c.any.ensures.ran
    (YieldsList-from_range 0 c.steps.result (length (steps_of m c.args.state)) refl (omega (arith, c.steps.ensures))) (λ x b q k. search (rules, tests))
    ∙ any_place (steps_of m c.args.state) no_step passes
