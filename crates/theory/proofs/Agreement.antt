-- States that r rounds leave together agree on every sentence of depth at most r. Assumes nothing.
use Rattle.std.proofs.Common.{◌≡◌, ℕ, zero, suc, ◌+◌, ◌-◌, ◌*◌, ◌<◌, ◌≤◌, Bool, true, not, ◌&&◌, eqb, List, [], ◌∷◌, map, get_or, sym, refl, ap, ◌∙◌, subst, inl, inr, arith}
use Rattle.std.specs.List.{AllByRecursion as All, list_all, list_any}
use Rattle.std.proofs.ByRecursion.{All-weaker}
use Rattle.std.proofs.lemmas.Bool.{both_ways, cases_lt, le-leb, leb-true}
use Rattle.model.specs.Lists.{greatest}
use Rattle.model.specs.Model.{Model, Step, count, lawful, steps_of, total}
use Rattle.model.proofs.Tests.{all_true, each_true}
use Rattle.model.proofs.Greatest.{greatest_bounds}
use Rattle.theory.specs.Lists.{AnyByRecursion as Any}
use Rattle.theory.specs.Matching.{matches}
use Rattle.theory.specs.Stages.{levels, stage}
use Rattle.theory.specs.Sentences.{all_of, any_of, Line, not_of, StateSet, step_to, depth, holds, line_depth, line_holds, part_holds, set_of, share}
use Rattle.theory.specs.declared.Part.{Part}
use Rattle.theory.specs.Laws.{Splits, UnpartedExact}
use Rattle.theory.proofs.Tests.{all_same, any_same, any_true, same_bool, some_true, all_unmap}
use Rattle.theory.proofs.Elements.{all_both, some_both, some_of_all}
use Rattle.theory.proofs.Induction.{AllHold, sentence_induction}
use Rattle.theory.proofs.Lawful.{SoundStep, steps_are_sound}
use Rattle.theory.proofs.Dominance.{dominates, matches_action, ratio_through}
use Rattle.theory.proofs.Meeting.{Matching, both_from_met}
use Rattle.theory.proofs.Stages.{stage_equivalence, stage_met, stage_shrinks}
use Rattle.theory.proofs.Levels.{parted_at, stage_from_zero}

module _ (m : Model) (law : lawful m ≡ true) where
  -- X has both or neither of two states that k rounds leave together
  abbrev Invariant : ℕ → StateSet → Type 0
  Invariant k X = (s t : ℕ) → stage m k s t ≡ true → X s ≡ X t

  invariant_deeper : (j k : ℕ) (X : StateSet) → j ≤ k → Invariant j X → Invariant k X
  invariant_deeper j k X l h s t e = h s t (stage_shrinks m law j k s t l e)

  module _ (sets : List StateSet) (depths : List ℕ) (invariant : AllHold Invariant sets depths) where
    abbrev depth_of : ℕ → ℕ
    depth_of i = get_or depths (i - 1) 0

    named_invariant : (is : List ℕ) (k s t : ℕ)
        → greatest (map depth_of is) ≤ k → stage m k s t ≡ true → All (λ i. set_of sets i s ≡ set_of sets i t) is
    named_invariant is k s t l h =
        All-weaker _ _ (λ i le. invariant_deeper (depth_of i) k (set_of sets i) (omega arith) (invariant (i - 1)) s t h) is
        (greatest_bounds depth_of is)

    module _ (act : ℕ) (qs : List Part) (g : ℕ) (deep : All (λ q. depth_of q.line ≤ g) qs) where
      abbrev passes : Step → Bool
      passes a = eqb a.action act && list_all (part_holds sets a) qs

      module _ (a b : Step) (la : SoundStep (count m) a) (lb : SoundStep (count m) b) (match : matches (stage m g) a b ≡ true) where
        part_moves : (q : Part) → depth_of q.line ≤ g → part_holds sets a q ≡ true → part_holds sets b q ≡ true
        part_moves q l h =
            let X : StateSet = set_of sets q.line in
            let same : Invariant g X = invariant_deeper (depth_of q.line) g X l (invariant (q.line - 1)) in
            let more : share X a * total b ≤ share X b * total a =
            dominates (stage m g) a b (count m) la lb match X X (λ u v lu lv x r. sym (same u v r) ∙ x) in
            le-leb _ _ (ratio_through q.k (total a) (share X a) q.m (total b) (share X b) (leb-true _ _ h) more la.heavy)

        step_moves : passes a ≡ true → passes b ≡ true
        step_moves h =
            let each : list_all (part_holds sets a) qs ≡ true = grind arith in
            let all : list_all (part_holds sets b) qs ≡ true = all_true _ qs (all_both _ _ _ part_moves qs deep (each_true _ qs each)) in
            grind (arith, matches_action (stage m g) a b match)

      some_moves : (s t : ℕ) → stage m (suc g) s t ≡ true → list_any passes (steps_of m s) ≡ true → list_any passes (steps_of m t) ≡ true
      some_moves s t h k =
          let forth = (both_from_met m (stage m g) s t (stage_met m law g s t h)).0 in
          let both : All (λ a. SoundStep (count m) a × Any (Matching (stage m g) a) (steps_of m t)) (steps_of m s) =
          all_both _ _ _ (λ a la e. (la, e)) (steps_of m s) (steps_are_sound m law s) forth in
          let r = some_of_all _ _ (steps_of m s) both (some_true passes (steps_of m s) k) in
          any_true passes (steps_of m t)
          (some_both _ _ _ (λ b lb e. step_moves r.0 b r.1.0 lb e r.2) (steps_of m t) (steps_are_sound m law t) r.1.1)

      step_invariant : Invariant (suc g) (λ s. list_any passes (steps_of m s))
      step_invariant s t h = same_bool _ _ (some_moves s t h) (some_moves t s ((stage_equivalence m law (suc g)).mirror s t h))

    line_invariant : (l : Line) → Invariant (line_depth depths l) (line_holds m sets l)
    line_invariant (not_of i) s t h = ap not (named_invariant (i ∷ []) (line_depth depths (not_of i)) s t (omega arith) h).0
    line_invariant (all_of is) s t h = all_same _ _ is (named_invariant is (line_depth depths (all_of is)) s t (omega arith) h)
    line_invariant (any_of is) s t h = any_same _ _ is (named_invariant is (line_depth depths (any_of is)) s t (omega arith) h)
    line_invariant (step_to act qs) s t h =
        let is : List ℕ = map (λ q. q.line) qs in
        let g : ℕ = greatest (map depth_of is) in
        let e : g + 1 ≡ suc g = omega arith in
        let deep : All (λ q. depth_of q.line ≤ g) qs = all_unmap (λ i. depth_of i ≤ g) (λ q. q.line) qs (greatest_bounds depth_of is) in
        step_invariant act qs g deep s t (subst (λ k. stage m k s t ≡ true) e h)

  pub sentence_invariant : (φ : List Line) (s t : ℕ) → stage m (depth φ) s t ≡ true → holds m φ s ≡ holds m φ t
  sentence_invariant = sentence_induction Invariant m (λ s t h. refl) (λ sets depths l h. line_invariant sets depths h l)

-- a sentence that splits two states is deeper than every stage that has them together
no_split : (m : Model) → lawful m ≡ true → (r s t : ℕ)
    → stage m r s t ≡ true → (φ : List Line) → depth φ ≤ r → Splits m s t φ → ⊥
no_split m law r s t h φ d split =
    let same : holds m φ s ≡ holds m φ t = sentence_invariant m law φ s t (stage_shrinks m law (depth φ) r s t d h) in
    elim split [
      | inl tells ↦ both_ways (holds m φ t) tells.not_in_t (sym same ∙ tells.in_s)
      | inr tells ↦ both_ways (holds m φ s) tells.not_in_t (same ∙ tells.in_s)
    ]

pub unparted_exact : UnpartedExact
unparted_exact m law r s t ls lt e φ d split = no_split m law r s t (stage_from_zero m law r s t ls lt e) φ d split

pub none_shallower : (m : Model) → lawful m ≡ true → (r s t d : ℕ) → s < count m → t < count m
    → 0 < d → levels m r s t ≡ d → (φ : List Line) → Splits m s t φ → d ≤ depth φ
none_shallower m law r s t zero ls lt pos e φ split = absurd (omega arith)
none_shallower m law r s t (suc d) ls lt pos e φ split =
    elim (cases_lt (depth φ) (suc d)) [
      | inl less ↦ absurd (no_split m law d s t (parted_at m law r s t d ls lt e).1 φ (omega arith) split)
      | inr le ↦ le
    ]
