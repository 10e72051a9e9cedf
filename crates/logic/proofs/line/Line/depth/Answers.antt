-- Assumes nothing.
use Rattle.std.proofs.Common.{arith, rules, tests}
use Rattle.std.proofs.lemmas.Simd.{map-map}
use Rattle.std.proofs.lemmas.Iterator.{YieldsList-from_map}
use Rattle.std.proofs.lemmas.Iterator.Consumers.{YieldsList-at, max_from_yields_List}
use Rattle.fields.specs.Bytes.{numbers}
use Rattle.theory.specs.Sentences.{depth_at}
use Rattle.theory.specs.declared.Part.{Part}
use Rattle.logic.specs.File.{parts_of}
use Rattle.fields.proofs.Held.{held_in_turn}
use Rattle.logic.proofs.Chains.{greatest_is}
use Rattle.logic.proofs.line.Line.depth.Goals as goal
use Rattle.logic.proofs.line.Line.depth.Goals.{in-All, in-All-2}

pub returns-in-Step : goal.returns-in-Step
returns-in-Step c =
    let qs = parts_of c.in-Step.parts.bytes.now in
    let told = max_from_yields_List {v = λ x. x} c.map.result c.max-deepest.result c.max-deepest.ensures.ran
    (YieldsList-from_map _ (λ q. depth_at c.args.depths.now q.line)
    (YieldsList-at c.map.ensures.source (held_in_turn parts_of c.in-Step.parts))
    c.map.ensures.closure (λ x r q k. search (rules, tests))) in
    let same = greatest_is c.max-deepest.result _ told in
    let lines = map-map (depth_at c.args.depths.now) (λ (q : Part). q.line) qs in
    grind arith

pub returns-in-All : goal.returns-in-All
returns-in-All c =
    let told = max_from_yields_List {v = λ x. x} c.map-in-All.result c.max.result c.max.ensures.ran
    (YieldsList-from_map _ (depth_at c.args.depths.now)
    (YieldsList-at c.map-in-All.ensures.source (held_in_turn numbers _))
    c.map-in-All.ensures.closure (λ x r q k. search (rules, tests))) in
    let same = greatest_is c.max.result _ told in
    grind arith
