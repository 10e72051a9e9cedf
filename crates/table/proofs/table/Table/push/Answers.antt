-- A table with one more step keeps every invariant. Assumes nothing.
use Rattle.std.proofs.Common.{rules, ◌≡◌, ℕ, ◌+◌, ◌-◌, ◌<◌, max, true, List, [], ◌∷◌, ◌++◌, length, get_or, set, ap, ◌∙◌, arith}
use Rattle.std.proofs.lemmas.List.{get_or_default, length-append, length_push}
use Rattle.arrayvec.proofs.ArrayVecLemmas.{items-with_items}
use Rattle.model.specs.Model.{Step, lawful, lawful_step, total}
use Rattle.model.specs.declared.Branch.{Branch}
use Rattle.model.proofs.Laws.{lawful_parts, step_parts}
use Rattle.table.specs.Arrays.{Row, branches_in, measured, placed, states_in, steps_in, with_step}
use Rattle.table.specs.File.{has_room}
use Rattle.table.specs.Meaning.{states_of, table_of}
use Rattle.table.specs.declared.row.Entry.{Entry}
use Rattle.table.specs.declared.table.Table.{Table}
use Rattle.table.proofs.Arrays.{no_row, placed_from_parts}
use Rattle.table.proofs.Pushing.{branches_in_pushed, lawful_pushed, most_steps_pushed, most_total_pushed, placed_pushed, states_in_pushed, steps_in_pushed}
use Rattle.table.proofs.Tables.{count_is, holds, steps_are_counted}
use Rattle.table.proofs.table.Table.push.Goals as goal

-- what is counted and measured of the states' steps
record Counts (ss : List (List Step)) (steps branches most_steps most_total : ℕ) : Type 0 where
  laws : lawful (measured ss) ≡ true
  steps_counted : steps ≡ steps_in ss
  branches_counted : branches ≡ branches_in ss
  steps_measured : most_steps ≡ (measured ss).p
  total_measured : most_total ≡ (measured ss).z

counts : (t : Table) (s : ℕ) (a : Step) → s < length t.rows.items → has_room (states_of t) s (length a.branches) ≡ true
    → lawful_step (length t.rows.items) 1000000000 a ≡ true
    → Counts (with_step (states_of t) s a) (t.steps + 1) (length t.branches.items + length a.branches)
    (max t.most_steps (length (get_or (states_of t) s []) + 1)) (max t.most_total (total a))
counts t s a known room law =
    let n = count_is t in
    let inside : s < length (states_of t) = omega (arith, n, known) in
    let few = (lawful_parts (table_of t) t.laws).few in
    let short : length (get_or (states_of t) s []) < 300 = grind (arith, room) in
    record {
      laws = lawful_pushed (states_of t) s a inside few short t.laws (rw n (step_parts (length t.rows.items) 1000000000 a law));
      steps_counted = omega (arith, t.steps_counted, steps_in_pushed (states_of t) s a inside);
      branches_counted = omega (arith, t.branches_counted, branches_in_pushed (states_of t) s a inside);
      steps_measured = omega (arith, t.steps_measured, most_steps_pushed (states_of t) s a inside);
      total_measured = omega (arith, t.total_measured, most_total_pushed (states_of t) s a inside);
    }

-- the arrays once all is written
record Written (t : Table) (s : ℕ) (a : Step) (rows : List Row) (bs : List Branch) (r : Row) : Type 0 where
  states : states_in rows bs ≡ with_step (states_of t) s a
  placed : placed rows bs ≡ true
  branches : length bs ≡ length t.branches.items + length a.branches
  steps : length r.items ≡ length (get_or (states_of t) s []) + 1

written : (t : Table) (s action : ℕ) (new bs : List Branch) (xs rows : List Row) (old r : Row) (first last : ℕ)
    → s < length t.rows.items → xs ≡ t.rows.items → old ≡ get_or xs s old
    → first ≡ length t.branches.items → bs ≡ t.branches.items ++ new → last ≡ length bs
    → r.items ≡ old.items ++ record { action = action; first = first; count = last - first } ∷ []
    → rows ≡ set t.rows.items s r
    → Written t s (record { action = action; branches = new }) rows bs r
written t s action new bs xs rows old r first last known these read start grown end more put =
    let branches : length bs ≡ length t.branches.items + length new =
    ap length grown ∙ length-append t.branches.items new in
    let n : last - first ≡ length new = omega arith in
    let row = get_or_default t.rows.items s old no_row known in
    let e : Entry = record { action = action; first = length t.branches.items; count = length new } in
    let longer : r.items ≡ (get_or t.rows.items s no_row).items ++ e ∷ [] = cc in
    record {
      states = rw (put, grown) (states_in_pushed t.rows.items t.branches.items new (holds t) s action r longer);
      placed = placed_from_parts rows bs
          (rw (put, grown) (placed_pushed t.rows.items t.branches.items new (holds t) s action r longer));
      branches = branches;
      steps = omega (arith, ap length longer, length_push (get_or t.rows.items s no_row).items e, steps_are_counted t s);
    }

pub invariant_of-self : goal.invariant_of-self
invariant_of-self c =
    let t : Table = c.args.self.now in
    let put = items-with_items t.rows (set c.deref_mut.result.now c.args.step.now.state c.push.new.self) (search rules) in
    let w = written t c.args.step.now.state c.args.step.now.action _ _ _ _ _ _ _ _ c.requires.state c.deref_mut.ensures.value (ap (λ d. get_or c.deref_mut.result.now c.args.step.now.state d) c.index-deref_mut-step.is)
    c.len-first.ensures.value c.append.ensures c.len.ensures.value c.push.ensures.items (put ∙ ap (λ xs. set xs c.args.step.now.state c.push.new.self) c.deref_mut.ensures.value) in
    let n : Counts (states_in _ c.append.new.branches.items) _ _ _ _ =
    rw w.states (counts t c.args.step.now.state _ c.requires.state c.requires.room c.requires.lawful) in
    record {
      placed = w.placed;
      laws = n.laws;
      steps_counted = n.steps_counted;
      branches_counted = w.branches ∙ n.branches_counted;
      steps_measured = c.max-self.ensures ∙ (ap (max t.most_steps) (c.len-steps.ensures.value ∙ w.steps) ∙ n.steps_measured);
      total_measured = c.max-self-2.ensures ∙ (ap (max t.most_total) c.requires.total ∙ n.total_measured);
    }

pub returns : goal.returns
returns c =
    let t : Table = c.args.self.now in
    let put = items-with_items t.rows (set c.deref_mut.result.now c.args.step.now.state c.push.new.self) (search rules) in
    (written t c.args.step.now.state c.args.step.now.action _ _ _ _ _ _ _ _ c.requires.state c.deref_mut.ensures.value (ap (λ d. get_or c.deref_mut.result.now c.args.step.now.state d) c.index-deref_mut-step.is)
    c.len-first.ensures.value c.append.ensures c.len.ensures.value c.push.ensures.items (put ∙ ap (λ xs. set xs c.args.step.now.state c.push.new.self) c.deref_mut.ensures.value)).states
