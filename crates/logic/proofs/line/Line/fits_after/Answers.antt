-- Assumes nothing.
use Rattle.std.proofs.Common.{◌∙◌, arith, rules, tests}
use Rattle.std.proofs.Math.Bool.{and-true}
use Rattle.std.proofs.lemmas.Bool.{lt-ltb}
use Rattle.std.proofs.lemmas.Iterator.Search.{all_from_yields_List}
use Rattle.fields.specs.Bytes.{numbers}
use Rattle.theory.specs.Sentences.{one_of_first}
use Rattle.logic.specs.File.{parts_of}
use Rattle.logic.specs.Lines.{sound_part}
use Rattle.fields.proofs.Held.{held_in_turn}
use Rattle.logic.proofs.Fronts.{sound_parts}
use Rattle.logic.proofs.line.Line.fits_after.Goals as goal
use Rattle.logic.proofs.line.Line.fits_after.Goals.{in-All, in-All-2}

pub returns-then-action-lt-ACTIONS : goal.returns-then-action-lt-ACTIONS
returns-then-action-lt-ACTIONS c =
    let told = all_from_yields_List (sound_part c.args.before) c.all.new.self _ c.all.result c.all.ensures.ran
    (held_in_turn parts_of c.in-Step.parts) (λ x b q k. search (rules, tests)) in
    rw (c.in-Step.is, lt-ltb c.in-Step.action 32 c.if-action-lt-ACTIONS.true)
    (told ∙ sound_parts c.args.before (parts_of c.in-Step.parts.bytes.now))

pub returns-in-All : goal.returns-in-All
returns-in-All c =
    let told = all_from_yields_List (one_of_first c.args.before) c.all-in-All.new.self _ c.all-in-All.result c.all-in-All.ensures.ran
    (held_in_turn numbers _) (λ x b q k. search (rules, tests)) in
    grind (arith, and-true)
