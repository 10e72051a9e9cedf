-- The cut is the smallest set of greatest surplus. Assumes nothing.
use Rattle.std.proofs.Common.{◌≡◌, ℕ, ◌-◌, ◌*◌, ◌<◌, ◌≤◌, Bool, true, false, ◌&&◌, ◌||◌, ltb, List, [], ◌∷◌, length, filter, sym, ap, ◌∙◌, subst, inl, inr, arith}
use mathlib.Core.Bool.{and_assoc}
use mathlib.Core.Path.{fun_ext}
use Rattle.std.specs.List.{AllByRecursion as All, list_all}
use Rattle.std.proofs.lemmas.Bool.Decides.{nat_tests}
use Rattle.std.proofs.ByRecursion.{All-weaker}
use Rattle.std.proofs.lemmas.Bool.{cases_Bool, ltb-false, ltb-true}
use Rattle.model.specs.Lists.{parts}
use Rattle.model.specs.Model.{Step, mass, rising, total}
use Rattle.model.specs.declared.Branch.{Branch}
use Rattle.model.proofs.Tests.{each_true}
use Rattle.model.proofs.Greatest.{greatest_least, greatest_bounds}
use Rattle.theory.specs.Matching.{Relation, cut, image, matches, most, surplus}
use Rattle.theory.specs.Laws.{CutExact}
use Rattle.theory.proofs.Tests.{filter_same}
use Rattle.theory.proofs.Elements.{all_both, some_of_all}
use Rattle.theory.proofs.Sums.{filter_least, sum_of}
use Rattle.theory.proofs.Parts.{FilteredByTargets, Rising, among, among_filter, filter_fails, parts_are_filtered, part_filter, rising_is}
use Rattle.theory.proofs.Demand.{demand, demand_submodular, meet, sum_modular, union}
use Rattle.theory.proofs.Surplus.{some_surplus, surplus_is}

module _ (R : Relation) (a b : Step) where
  -- p keeps a set of greatest surplus
  abbrev Best : (Branch → Bool) → Type 0
  Best p = surplus R a b (filter p a.branches) ≡ most R a b

  surplus_le_most : All (λ U. surplus R a b U ≤ most R a b) (parts a.branches)
  surplus_le_most = greatest_bounds (surplus R a b) (parts a.branches)

  no_larger : (p : Branch → Bool) → surplus R a b (filter p a.branches) ≤ most R a b
  no_larger p = part_filter _ p a.branches surplus_le_most

  -- some set is of greatest surplus
  best_exists : Rising a.branches → (p : Branch → Bool) × Best p
  best_exists rises =
      let test : List Branch → Bool = λ U. ltb (surplus R a b U) (most R a b) in
      elim (cases_Bool (list_all test (parts a.branches))) [
        | inl passes ↦
            let smaller : All (λ U. surplus R a b U < most R a b) (parts a.branches) =
            All-weaker _ _ (λ U h. ltb-true _ _ h) (parts a.branches) (each_true test (parts a.branches) passes) in
            let l : surplus R a b (filter (λ u. true) a.branches) < most R a b = part_filter _ (λ u. true) a.branches smaller in
            let below : most R a b ≤ most R a b - 1 =
            greatest_least (surplus R a b) (most R a b - 1) (parts a.branches)
            (All-weaker _ _ (λ U h. omega arith) (parts a.branches) smaller) in
            absurd (omega arith)
        | inr fails ↦
            let r : (p : Branch → Bool) × (test (filter p a.branches) ≡ false) = filter_fails test a.branches rises fails in
            (r.0, omega (arith, ltb-false _ _ r.1, no_larger r.0))
      ]

  -- two sets of greatest surplus meet in one
  best_meet : (p q : Branch → Bool) → Best p → Best q → Best (meet p q)
  best_meet p q bp bq =
      let s : Branch → ℕ = λ u. u.weight * total b in
      let e : Branch → ℕ = λ v. v.weight * total a in
      let K : (Branch → Bool) → List Branch = λ p. filter p a.branches in
      let is : (p : Branch → Bool) → surplus R a b (K p) ≡ sum_of s (K p) - demand R b.branches e (K p) = λ p. surplus_is R a b (K p) in
      omega (
        arith,
        is p,
        is q,
        is (union p q),
        is (meet p q),
        no_larger (union p q),
        no_larger (meet p q),
        sum_modular p q s a.branches,
        demand_submodular R b.branches e p q a.branches,
        bp,
        bq,
      )

  -- in every one of the sets of Us that is of greatest surplus
  abbrev common : List (List Branch) → Branch → Bool
  common Us u = list_all (λ U. ltb (surplus R a b U) (most R a b) || among U u) Us

  best_common : (p : Branch → Bool) → Best p → (Us : List (List Branch))
      → All (FilteredByTargets a.branches) Us → All (λ U. surplus R a b U ≤ most R a b) Us → Best (λ u. common Us u && p u)
  best_common p bp [] kept under = bp
  best_common p bp (U ∷ Us) kept under =
      let rest : Best (λ u. common Us u && p u) = best_common p bp Us kept.1 under.1 in
      let With : Bool → Type 0 = λ t. Best (λ u. ((t || among U u) && common Us u) && p u) in
      elim (cases_Bool (ltb (surplus R a b U) (most R a b))) [
        | inl smaller ↦ subst With (sym smaller) rest
        | inr full ↦
            let bU : Best (among U) = ap (surplus R a b) kept.0 ∙ omega (arith, ltb-false _ _ full, under.0) in
            let both = best_meet (among U) (λ u. common Us u && p u) bU rest in
            subst With (sym full) (subst Best (fun_ext (λ u. sym (and_assoc (among U u) (common Us u) (p u)))) both)
      ]

  -- a set of greatest surplus holds what is common to all
  common_in_best : (p : Branch → Bool) → Best p → Rising a.branches
      → All (λ u. common (parts a.branches) u ≡ true → p u ≡ true) a.branches
  common_in_best p bp rises =
      All-weaker _ _ (λ u e c.
      let among_or = part_filter _ p a.branches (each_true _ (parts a.branches) c) in grind (arith, nat_tests)) a.branches
      (among_filter p a.branches rises)

  cut_best : Rising a.branches → Best (common (parts a.branches))
  cut_best rises =
      let r : (p : Branch → Bool) × Best p = best_exists rises in
      let c : Branch → Bool = common (parts a.branches) in
      let same : filter c a.branches ≡ filter (λ u. c u && r.0 u) a.branches =
      filter_same _ _ a.branches
      (All-weaker _ _ (λ u h. grind arith) a.branches (common_in_best r.0 r.1 rises)) in
      ap (surplus R a b) same
      ∙ best_common r.0 r.1 (parts a.branches) (parts_are_filtered a.branches rises) surplus_le_most

  -- so it has all targets of the cut, as many elements at least, and those of the cut where it has as many
  cut_smallest : (p : Branch → Bool) → Best p → Rising a.branches
      → All (λ u. among (cut R a b) u ≡ true → p u ≡ true) a.branches
      × (length (cut R a b) ≤ length (filter p a.branches))
      × (length (filter p a.branches) ≡ length (cut R a b) → filter p a.branches ≡ cut R a b)
  cut_smallest p bp rises =
      let c : Branch → Bool = common (parts a.branches) in
      let inside : All (λ u. c u ≡ true → p u ≡ true) a.branches = common_in_best p bp rises in
      let least = filter_least c p a.branches inside in
      (all_both _ _ _ (λ u e g t. g (sym e ∙ t)) a.branches (among_filter c a.branches rises) inside, least.0, least.1)

pub cut_exact : CutExact
cut_exact R a b rise =
    let rises : Rising a.branches = rising_is a.branches rise in
    (cut_best R a b rises, no_larger R a b, λ keep best. cut_smallest R a b keep best rises)

-- where a and b have one action and do not match, the cut outweighs what it stands to
pub cut_outweighs : (R : Relation) (a b : Step) → rising 0 a.branches ≡ true
    → a.action ≡ b.action → matches R a b ≡ false → mass (image R (cut R a b) b) * total a < mass (cut R a b) * total b
cut_outweighs R a b rise same h =
    let most_is : surplus R a b (cut R a b) ≡ most R a b = (cut_exact R a b rise).0 in
    let k = some_of_all _ _ (parts a.branches) (surplus_le_most R a b) (some_surplus R a b same h) in
    omega (arith, k.1, k.2)
