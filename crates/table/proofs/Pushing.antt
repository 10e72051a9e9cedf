-- What one more step does to a table's rows and branches, and to what they stand for. Assumes nothing.
use Rattle.std.proofs.Common.{◌≡◌, ℕ, zero, suc, ◌+◌, ◌<◌, ◌≤◌, max, true, List, [], ◌∷◌, ◌++◌, map, length, get_or, take, drop, set, sum_by, ap, ◌∙◌, arith}
use Rattle.std.proofs.Math.Seq.{drop-append_seam}
use Rattle.std.specs.List.{AllByRecursion as All}
use Rattle.std.proofs.ByRecursion.{All-get_or, All-push, All-set, All-weaker}
use Rattle.std.proofs.lemmas.List.{drop-append-le, length-append, length-drop, length-set, length_push, map-set, map_push, take-append-le, take_all}
use Rattle.std.proofs.lemmas.List.Sums.{sum_by-set, sum_by_push}
use Rattle.model.specs.Lists.{greatest}
use Rattle.model.specs.Model.{Step, lawful, total}
use Rattle.model.specs.declared.Branch.{Branch}
use Rattle.model.proofs.Elements.{get_or_map_default, map_same}
use Rattle.model.proofs.Greatest.{greatest_bounds}
use Rattle.model.proofs.Laws.{LawfulStep}
use Rattle.model.proofs.Tests.{all_at}
use Rattle.table.specs.Arrays.{Row, branches_in, measured, row_in, states_in, step_in, steps_in, with_step}
use Rattle.table.specs.declared.row.Entry.{Entry}
use Rattle.table.proofs.Arrays.{Inside, Placed, no_row}
use Rattle.table.proofs.Measures.{SoundRow, lawful_from_sound, row_total, sound_from_lawful}

-- branches behind those that are there, and a step of them as the last of its row
module _ (rows : List Row) (bs new : List Branch) (placed : Placed (length bs) rows) where
  step_kept : (e : Entry) → Inside (length bs) e → step_in (bs ++ new) e ≡ step_in bs e
  step_kept e h =
      let d = drop-append-le e.first bs new (omega arith) in
      let t = take-append-le e.count (drop e.first bs) new (omega (arith, length-drop e.first bs)) in
      ap (λ ys. record { action = e.action; branches = ys }) (ap (take e.count) d ∙ t)

  row_kept : (r : Row) → All (Inside (length bs)) r.items → row_in (bs ++ new) r ≡ row_in bs r
  row_kept r h = map_same (step_in (bs ++ new)) (step_in bs) r.items (All-weaker _ _ step_kept r.items h)

  module _ (s action : ℕ) (r : Row) where
    abbrev pub entry : Entry
    entry = record { action = action; first = length bs; count = length new }

    abbrev pub step : Step
    step = record { action = action; branches = new }

    module _ (more : r.items ≡ (get_or rows s no_row).items ++ entry ∷ []) where
      row_pushed : row_in (bs ++ new) r ≡ get_or (states_in rows bs) s [] ++ step ∷ []
      row_pushed =
          let old : Row = get_or rows s no_row in
          let part : step_in (bs ++ new) entry ≡ step = ap (λ ys. record { action = action; branches = ys })
          (ap (take (length new)) (drop-append_seam bs new) ∙ take_all (length new) new (omega arith)) in
          let kept = row_kept old (all_at _ rows s no_row placed tt) in
          let place = get_or_map_default (row_in bs) rows s no_row in
          ap (map (step_in (bs ++ new))) more ∙ (map_push (step_in (bs ++ new)) old.items entry ∙ cc (part, kept, place))

      pub states_in_pushed : states_in (set rows s r) (bs ++ new) ≡ with_step (states_in rows bs) s step
      states_in_pushed =
          let kept = map_same (row_in (bs ++ new)) (row_in bs) rows (All-weaker _ _ row_kept rows placed) in
          map-set (row_in (bs ++ new)) rows s r ∙ cc (kept, row_pushed)

      pub placed_pushed : Placed (length (bs ++ new)) (set rows s r)
      placed_pushed =
          let n : ℕ = length (bs ++ new) in
          let wider : (es : List Entry) → All (Inside (length bs)) es → All (Inside n) es =
          λ es h. All-weaker _ _ (λ x k. omega (arith, k, length-append bs new)) es h in
          let grown = All-push (Inside n) (get_or rows s no_row).items entry (wider _ (all_at _ rows s no_row placed tt))
          (omega (arith, length-append bs new)) in
          All-set _ rows s r (rw more grown) (All-weaker _ _ (λ x h. wider x.items h) rows placed)

greatest_set : {X : Type 0} (f : X → ℕ) (xs : List X) (i : ℕ) (y d : X) → i < length xs → f (get_or xs i d) ≤ f y
    → greatest (map f (set xs i y)) ≡ max (greatest (map f xs)) (f y)
greatest_set f [] i y d l h = absurd (omega arith)
greatest_set f (x ∷ xs) zero y d l h = omega (arith, h)
greatest_set f (x ∷ xs) (suc i) y d l h = let e = greatest_set f xs i y d (omega arith) h in omega (arith, e)

greatest_push : {X : Type 0} (f : X → ℕ) (xs : List X) (y : X) → greatest (map f (xs ++ y ∷ [])) ≡ max (greatest (map f xs)) (f y)
greatest_push f [] y = omega arith
greatest_push f (x ∷ xs) y = omega (arith, greatest_push f xs y)

module _ (ss : List (List Step)) (s : ℕ) (a : Step) (l : s < length ss) where
  pub steps_in_pushed : steps_in ss + 1 ≡ steps_in (with_step ss s a)
  steps_in_pushed = omega (arith, sum_by-set length ss s (get_or ss s [] ++ a ∷ []) [] l, length_push (get_or ss s []) a)

  pub branches_in_pushed : branches_in ss + length a.branches ≡ branches_in (with_step ss s a)
  branches_in_pushed =
      let f : List Step → ℕ = λ row. sum_by (λ b. length b.branches) row in
      omega (arith, sum_by-set f ss s (get_or ss s [] ++ a ∷ []) [] l, sum_by_push (λ b. length b.branches) (get_or ss s []) a)

  pub most_steps_pushed : max (measured ss).p (length (get_or ss s []) + 1) ≡ (measured (with_step ss s a)).p
  most_steps_pushed =
      let e = length_push (get_or ss s []) a in
      omega (arith, e, greatest_set length ss s (get_or ss s [] ++ a ∷ []) [] l (omega (arith, e)))

  pub most_total_pushed : max (measured ss).z (total a) ≡ (measured (with_step ss s a)).z
  most_total_pushed =
      let e = greatest_push total (get_or ss s []) a in
      omega (
        arith,
        e,
        All-get_or _ ss s [] l (greatest_bounds row_total ss),
        greatest_set row_total ss s (get_or ss s [] ++ a ∷ []) [] l (omega (arith, e)),
      )

  pub lawful_pushed : length ss ≤ 64 → length (get_or ss s []) < 300 → lawful (measured ss) ≡ true → LawfulStep (length ss) 1000000000 a
      → lawful (measured (with_step ss s a)) ≡ true
  lawful_pushed few short law h =
      let old = sound_from_lawful ss law in
      let row : SoundRow (length ss) (get_or ss s []) = All-get_or (SoundRow (length ss)) ss s [] l old in
      let longer : SoundRow (length ss) (get_or ss s [] ++ a ∷ []) =
      (omega (arith, length_push (get_or ss s []) a), All-push (LawfulStep (length ss) 1000000000) (get_or ss s []) a row.1 h) in
      let n = length-set ss s (get_or ss s [] ++ a ∷ []) in
      lawful_from_sound (with_step ss s a) (omega (arith, n)) (rw n (All-set (SoundRow (length ss)) ss s _ longer old))
