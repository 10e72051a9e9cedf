-- Assumes nothing.
use Rattle.std.proofs.Common.{ℕ, true, List, sym, ap, ◌∙◌, ap₂, rules, tests}
use lib.Bits.{bit_and, bit_or, bit_xor}
use Rattle.std.proofs.lemmas.Iterator.Consumers.{fold_from_yields_List}
use Rattle.std.specs.List.{fold}
use Rattle.fields.specs.Bytes.{numbers}
use Rattle.model.specs.Model.{Model, count}
use Rattle.theory.specs.Sentences.{StateSet, line_holds, set_of}
use Rattle.logic.specs.Lines.{meant}
use Rattle.logic.specs.Words.{sets_in, word}
use Rattle.fields.proofs.Held.{held_in_turn}
use Rattle.logic.proofs.Gathering.{joined_all, met_all}
use Rattle.logic.proofs.Words.{word_not}
use Rattle.logic.proofs.sets.Sets.of_line.Goals as goal

pub returns-in-Not : goal.returns-in-Not
returns-in-Not g c =
    let m : Model = g.S.Source.meaning c.args.self.now.source.now in
    ap₂ bit_xor (c.everywhere-all.ensures ∙ ap (λ n. word n (λ s. true)) c.states.ensures) c.named.ensures
    ∙ sym (word_not (count m) (set_of (sets_in c.args.self.now.words.now) c.in-Not.line))
    ∙ ap (λ l. word (count m) (line_holds m (sets_in c.args.self.now.words.now) (meant l))) (sym c.in-Not.is)

pub returns-in-All : goal.returns-in-All
returns-in-All g c =
    let m : Model = g.S.Source.meaning c.args.self.now.source.now in
    let named : ℕ → StateSet = set_of (sets_in c.args.self.now.words.now) in
    let lines : List ℕ = numbers c.in-All.lines.bytes.now in
    let told = fold_from_yields_List _ (λ w i. bit_and w (word (count m) (named i))) c.everywhere-all.result c.fold.result c.fold.ensures.ran
    (held_in_turn numbers c.in-All.lines) (λ a x b q k. search (rules, tests)) in
    let all_is = c.everywhere-all.ensures ∙ ap (λ n. word n (λ s. true)) c.states.ensures in
    told ∙ ap (λ w. fold (λ v i. bit_and v (word (count m) (named i))) w lines) all_is ∙ met_all (count m) named lines
    ∙ ap (λ l. word (count m) (line_holds m (sets_in c.args.self.now.words.now) (meant l))) (sym c.in-All.is)

pub returns-in-Any : goal.returns-in-Any
returns-in-Any g c =
    let m : Model = g.S.Source.meaning c.args.self.now.source.now in
    let named : ℕ → StateSet = set_of (sets_in c.args.self.now.words.now) in
    let lines : List ℕ = numbers c.in-Any.lines.bytes.now in
    let told = fold_from_yields_List _ (λ w i. bit_or w (word (count m) (named i))) 0 c.fold-in-Any.result c.fold-in-Any.ensures.ran
    (held_in_turn numbers c.in-Any.lines) (λ a x b q k. search (rules, tests)) in
    told ∙ joined_all (count m) named lines
    ∙ ap (λ l. word (count m) (line_holds m (sets_in c.args.self.now.words.now) (meant l))) (sym c.in-Any.is)
