-- A table without steps keeps every invariant. Assumes nothing.
use Rattle.std.proofs.Common.{◌≡◌, ℕ, ◌≤◌, true, List, [], map, length, replicate, sum_by, sym, refl, ap, ◌∙◌, arith}
use lib.LanesLaws.{map-replicate}
use Rattle.std.proofs.lemmas.List.Folds.{sum_by-replicate}
use Rattle.std.specs.List.{AllByRecursion as All}
use Rattle.model.specs.Lists.{greatest}
use Rattle.model.specs.Model.{Step, lawful, total}
use Rattle.model.specs.declared.Branch.{Branch}
use Rattle.table.specs.Arrays.{Row, branches_in, measured, placed, row_in, states_in, step_in, steps_in}
use Rattle.table.proofs.Arrays.{Inside, no_row, placed_from_parts}
use Rattle.table.proofs.Measures.{all_repeated, greatest_empty, lawful_empty}
use Rattle.table.proofs.table.Table.with_states.Goals as goal

no_steps : (n : ℕ) (rows : List Row) (r : Row) (bs : List Branch) → rows ≡ replicate n r → r.items ≡ [] → states_in rows bs ≡ replicate n []
no_steps n rows r bs e h = ap (map (row_in bs)) e ∙ (map-replicate (row_in bs) n r ∙ ap (λ es. replicate n (map (step_in bs) es)) h)

none_placed : (n : ℕ) (rows : List Row) (r : Row) (bs : List Branch) → rows ≡ replicate n r → r.items ≡ [] → placed rows bs ≡ true
none_placed n rows r bs e h =
    placed_from_parts rows bs (rw e (all_repeated (λ x. All (Inside (length bs)) x.items) n r (rw h tt)))

record Facts (ss : List (List Step)) : Type 0 where
  laws : lawful (measured ss) ≡ true
  steps : 0 ≡ steps_in ss
  branches : 0 ≡ branches_in ss
  most_steps : 0 ≡ (measured ss).p
  most_total : 0 ≡ (measured ss).z

facts : (n : ℕ) (ss : List (List Step)) → n ≤ 64 → ss ≡ replicate n [] → Facts ss
facts n ss h e = rw e (record {
  laws = lawful_empty n h;
  steps = omega (arith, sum_by-replicate {X = List Step} length n []);
  branches = omega (arith, sum_by-replicate {X = List Step} (λ row. sum_by (λ a. length a.branches) row) n []);
  most_steps = sym (greatest_empty length refl n);
  most_total = sym (greatest_empty (λ row. greatest (map total row)) refl n);
})

pub invariant_of-result : goal.invariant_of-result
invariant_of-result c =
    let n : c.loop.counter ≡ c.args.states = omega arith in
    let all = c.loop.invariant ∙ ap (λ k. replicate k no_row) n in
    let f = facts c.args.states _ c.requires (no_steps c.args.states _ no_row _ all refl) in
    record {
      placed = none_placed c.args.states _ no_row _ all refl;
      laws = f.laws;
      steps_counted = f.steps;
      branches_counted = ap length c.new-2.ensures ∙ f.branches;
      steps_measured = f.most_steps;
      total_measured = f.most_total;
    }

pub returns : goal.returns
returns c =
    let n : c.loop.counter ≡ c.args.states = omega arith in
    no_steps c.args.states _ no_row _ (c.loop.invariant ∙ ap (λ k. replicate k no_row) n) refl
