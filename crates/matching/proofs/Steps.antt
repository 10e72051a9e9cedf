-- The branches whose weights stand by target. Assumes nothing.
use Rattle.std.proofs.Common.{◌≡◌, ℕ, zero, suc, ◌+◌, ◌*◌, ◌<◌, ◌≤◌, Bool, true, ◌==◌, eqb, ltb, List, [], ◌∷◌, ◌++◌, length, get_or, set, drop, None, Some, refl, sym, ap, inl, inr, ◌∙◌, mul-le-mul, arith}
use Rattle.std.specs.List.{list_all, sum}
use Rattle.std.proofs.lemmas.List.Sums.{get_or-le-sum_by, sum_by-cons}
use Rattle.std.proofs.lemmas.List.{get_or_past}
use Rattle.std.proofs.lemmas.Bool.{cases_lt, eq-eqb, le-ltb, lt-ltb, ne_eqb, and_parts, eqb-true, ltb-true}
use Rattle.model.specs.Model.{Step, mass, total}
use Rattle.model.specs.declared.Branch.{Branch}
use Rattle.matching.specs.Steps.{branches_from, grown, meaning, refusal, rises_above, with_branch}
use Rattle.matching.specs.declared.step.held.HeldStep.{HeldStep}
use Rattle.matching.specs.declared.step.held.Refusal.TheVariants.{Total}

-- a branch that may be added, and one that makes the total too large
module _ (a : Step) (b : Branch) (rises : rises_above a b.target ≡ true) (pos : 0 < b.weight) where
  pub may_be_added : total a + b.weight ≤ 1000000000 → refusal a b ≡ None
  may_be_added light = rw (rises, ne_eqb b.weight 0 (λ e. absurd (omega arith)), le-ltb 1000000000 (total a + b.weight) light) refl

  pub too_heavy : 1000000000 < total a + b.weight → refusal a b ≡ Some Total
  too_heavy heavy = rw (rises, ne_eqb b.weight 0 (λ e. absurd (omega arith)), lt-ltb 1000000000 (total a + b.weight) heavy) refl

  pub grown_by : total a + b.weight ≤ 1000000000 → grown a b ≡ with_branch a b
  grown_by light = rw (may_be_added light) refl

  pub grown_not : 1000000000 < total a + b.weight → grown a b ≡ a
  grown_not heavy = rw (too_heavy heavy) refl

-- whether all of some weights are 0
abbrev pub empty : List ℕ → Bool
empty ws = list_all (λ w. w == 0) ws

abbrev pub below : ℕ → List Branch → Bool
below t bs = list_all (λ c. ltb c.target t) bs

-- the two kinds of weights
pub branches_some : (low w : ℕ) (ws : List ℕ) → 0 < w
    → branches_from low (w ∷ ws) ≡ record { target = low; weight = w } ∷ branches_from (low + 1) ws
branches_some low w ws pos = rw (lt-ltb 0 w pos) refl

pub branches_none : (low w : ℕ) (ws : List ℕ) → w ≤ 0 → branches_from low (w ∷ ws) ≡ branches_from (low + 1) ws
branches_none low w ws z = rw (le-ltb 0 w z) refl

-- no target is below the first
pub none_below : (ws : List ℕ) (low t : ℕ) → t ≤ low → below t (branches_from low ws) ≡ empty ws
none_below [] low t l = refl
none_below (w ∷ ws) low t l =
    elim (cases_lt 0 w) [
      | inl pos ↦ rw (branches_some low w ws pos, le-ltb low t l, ne_eqb w 0 (λ e. absurd (omega arith))) refl
      | inr z ↦ rw (branches_none low w ws z, eq-eqb w 0 (omega arith)) (none_below ws (low + 1) t (omega arith))
    ]

-- all targets are below t where the weights from t on are 0
pub all_below : (k : ℕ) (ws : List ℕ) (low t : ℕ) → t ≡ low + k → below t (branches_from low ws) ≡ empty (drop k ws)
all_below zero ws low t e = none_below ws low t (omega arith)
all_below (suc k) [] low t e = refl
all_below (suc k) (w ∷ ws) low t e =
    elim (cases_lt 0 w) [
      | inl pos ↦ rw (branches_some low w ws pos, lt-ltb low t (omega arith)) (all_below k ws (low + 1) t (omega arith))
      | inr z ↦ rw (branches_none low w ws z) (all_below k ws (low + 1) t (omega arith))
    ]

pub empty_branches : (ws : List ℕ) (low : ℕ) → empty ws ≡ true → branches_from low ws ≡ []
empty_branches [] low h = refl
empty_branches (w ∷ ws) low h =
    let s = and_parts (eqb w 0) (empty ws) h in
    let z : w ≡ 0 = eqb-true w 0 s.0 in
    branches_none low w ws (omega arith) ∙ empty_branches ws (low + 1) s.1

-- a weight behind all others
module _ (x : ℕ) (pos : 0 < x) where
  pub branches_push : (k : ℕ) (ws : List ℕ) (low t : ℕ) → k < length ws → empty (drop k ws) ≡ true → t ≡ low + k
      → branches_from low (set ws k x) ≡ branches_from low ws ++ record { target = t; weight = x } ∷ []
  branches_push k [] low t l h e = absurd (omega arith)
  branches_push zero (w ∷ ws) low t l h e =
      let s = and_parts (eqb w 0) (empty ws) h in
      let z : w ≡ 0 = eqb-true w 0 s.0 in
      rw (branches_some low x ws pos, branches_none low w ws (omega arith), empty_branches ws (low + 1) s.1) (ap (λ n. record { target = n; weight = x } ∷ []) (omega arith))
  branches_push (suc k) (w ∷ ws) low t l h e =
      elim (cases_lt 0 w) [
        | inl p ↦
            rw (branches_some low w (set ws k x) p, branches_some low w ws p)
            (ap (λ bs. record { target = low; weight = w } ∷ bs) (branches_push k ws (low + 1) t (omega arith) h (omega arith)))
        | inr z ↦
            rw (branches_none low w (set ws k x) z, branches_none low w ws z) (branches_push k ws (low + 1) t (omega arith) h (omega arith))
      ]

pub empty_from : (k : ℕ) (ws : List ℕ) → empty (drop k ws) ≡ true → get_or ws k 0 ≡ 0
empty_from k [] h = refl
empty_from zero (w ∷ ws) h = eqb-true w 0 (and_parts (eqb w 0) (empty ws) h).0
empty_from (suc k) (w ∷ ws) h = empty_from k ws h

pub branches_mass : (ws : List ℕ) (low : ℕ) → mass (branches_from low ws) ≡ sum ws
branches_mass [] low = refl
branches_mass (w ∷ ws) low =
    elim (cases_lt 0 w) [
      | inl pos ↦
          rw (branches_some low w ws pos, sum_by-cons (λ (b : Branch). b.weight) (record { target = low; weight = w }) (branches_from (low + 1) ws))
          (omega (arith, branches_mass ws (low + 1), sum_by-cons (λ n. n) w ws))
      | inr z ↦ rw (branches_none low w ws z) (omega (arith, branches_mass ws (low + 1), sum_by-cons (λ n. n) w ws))
    ]

pub weight_le : (ws : List ℕ) (t : ℕ) → get_or ws t 0 ≤ sum ws
weight_le ws t =
    elim (cases_lt t (length ws)) [
      | inl l ↦ get_or-le-sum_by (λ n. n) ws t 0 l
      | inr past ↦ omega (arith, get_or_past ws t 0 past)
    ]

-- a weight times a total, where both totals are bounded
pub weight_bound : (ws : List ℕ) (t by : ℕ) → sum ws ≤ 1000000000 → by ≤ 1000000000 → get_or ws t 0 * by ≤ 1000000000000000000
weight_bound ws t by h k =
    let le : get_or ws t 0 ≤ 1000000000 = omega (arith, weight_le ws t) in
    mul-le-mul le k

-- what it says of the weights that a target is above those of the branches
pub free_from : (s : HeldStep) (t : ℕ) → rises_above (meaning s) t ≡ true → (t < 64) × (empty (drop t s.weights) ≡ true)
free_from s t h =
    let parts = and_parts (ltb t 64) (below t (branches_from 0 s.weights)) h in
    (ltb-true t 64 parts.0, sym (all_below t s.weights 0 t (omega arith)) ∙ parts.1)

pub held_total : (s : HeldStep) → total (meaning s) ≡ s.total
held_total s = branches_mass s.weights 0 ∙ sym s.counted
