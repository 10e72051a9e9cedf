-- A surplus is supply less demand, and a match is an equal action and no surplus. Assumes nothing.
use Rattle.std.proofs.Common.{◌≡◌, ℕ, ◌-◌, ◌*◌, ◌<◌, true, false, eqb, List, sym, ap, ◌∙◌, arith}
use Rattle.std.specs.List.{AllByRecursion as All, list_all}
use Rattle.std.proofs.lemmas.Bool.Decides.{nat_tests}
use Rattle.std.proofs.ByRecursion.{All-weaker}
use Rattle.std.proofs.lemmas.Bool.{and_from, eq-eqb, eqb-true}
use Rattle.model.specs.Lists.{parts}
use Rattle.model.specs.Model.{Step, mass, total}
use Rattle.model.specs.declared.Branch.{Branch}
use Rattle.model.proofs.Tests.{all_true, each_true}
use Rattle.theory.specs.Lists.{AnyByRecursion as Any}
use Rattle.theory.specs.Matching.{Relation, image, matches, surplus}
use Rattle.theory.proofs.Tests.{some_false}
use Rattle.theory.proofs.Elements.{some_weaker}
use Rattle.theory.proofs.Sums.{sum_filter, sum_mul, sum_of, sum_by_is}
use Rattle.theory.proofs.Parts.{FilteredByTargets, Rising, parts_are_filtered}
use Rattle.theory.proofs.Demand.{demand, hit}

pub mass_mul : (U : List Branch) (c : ℕ) → mass U * c ≡ sum_of (λ u. u.weight * c) U
mass_mul U c = ap (λ n. n * c) (sum_by_is (λ u. u.weight) U) ∙ sym (sum_mul (λ u. u.weight) c U)

-- the surplus, as supply less demand
pub surplus_is : (R : Relation) (a b : Step) (U : List Branch)
    → surplus R a b U ≡ sum_of (λ u. u.weight * total b) U - demand R b.branches (λ v. v.weight * total a) U
surplus_is R a b U =
    rw (mass_mul U (total b), mass_mul (image R U b) (total a), sum_filter (λ v. v.weight * total a) (hit R U) b.branches)

module _ (R : Relation) (a b : Step) where
  pub matches_parts : matches R a b ≡ true → (a.action ≡ b.action) × All (λ U. surplus R a b U ≡ 0) (parts a.branches)
  matches_parts h =
      let each : list_all (λ U. eqb (surplus R a b U) 0) (parts a.branches) ≡ true = grind (arith, nat_tests) in
      (grind (arith, nat_tests), All-weaker _ _ (λ U e. eqb-true _ _ e) (parts a.branches) (each_true _ (parts a.branches) each))

  -- it is enough to look at what the tests for targets keep
  pub matches_from_kept : Rising a.branches → a.action ≡ b.action
      → ((U : List Branch) → FilteredByTargets a.branches U → surplus R a b U ≡ 0) → matches R a b ≡ true
  matches_from_kept rises e none =
      and_from _ _ (eq-eqb a.action b.action e) (all_true _ (parts a.branches)
      (All-weaker _ _ (λ U kept. eq-eqb _ 0 (none U kept)) (parts a.branches) (parts_are_filtered a.branches rises)))

  -- where the actions are equal and there is no match, some set has a surplus
  pub some_surplus : a.action ≡ b.action → matches R a b ≡ false → Any (λ U. 0 < surplus R a b U) (parts a.branches)
  some_surplus same h =
      let some : list_all (λ U. eqb (surplus R a b U) 0) (parts a.branches) ≡ false = grind (arith, nat_tests) in
      some_weaker _ _ (λ U k. grind (arith, nat_tests)) (parts a.branches) (some_false _ (parts a.branches) some)
