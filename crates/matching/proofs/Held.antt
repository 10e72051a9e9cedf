-- What holds of every held step: the laws of a step of a model of 64 states, but for the number of branches. Assumes nothing.
use Rattle.std.proofs.Common.{◌≡◌, ℕ, ◌+◌, ◌<◌, ◌≤◌, true, List, [], ◌∷◌, nat_le, refl, inl, inr, arith}
use Rattle.std.specs.List.{AllByRecursion as All}
use Rattle.std.proofs.lemmas.Bool.{and_from, cases_lt, le-leb}
use Rattle.model.specs.Model.{rising, total}
use Rattle.matching.specs.Steps.{branches_from, meaning}
use Rattle.matching.specs.declared.step.held.HeldStep.{HeldStep}
use Rattle.matching.proofs.Sets.{each_all}
use Rattle.matching.proofs.Steps.{branches_none, branches_some, held_total}
use Rattle.matching.proofs.Tables.{inside}

branches_rise : (ws : List ℕ) (low first : ℕ) → low ≤ first → rising low (branches_from first ws) ≡ true
branches_rise [] low first l = refl
branches_rise (w ∷ ws) low first l =
    elim (cases_lt 0 w) [
      | inl some ↦
          rw (branches_some first w ws some)
          (and_from (nat_le low first) _ (le-leb low first l) (branches_rise ws (first + 1) (first + 1) (omega arith)))
      | inr none ↦ rw (branches_none first w ws none) (branches_rise ws low (first + 1) (omega arith))
    ]

module _ (s : HeldStep) where
  pub held_rises : rising 0 (meaning s).branches ≡ true
  held_rises = branches_rise s.weights 0 0 (omega arith)

  pub held_sound : All (λ b. (b.target < 64) × (0 < b.weight)) (meaning s).branches
  held_sound = each_all _ s.weights (λ i pos. (omega (arith, inside s.weights i pos, s.wide), pos))

  pub held_light : total (meaning s) ≤ 1000000000
  held_light = omega (arith, held_total s, s.light)
