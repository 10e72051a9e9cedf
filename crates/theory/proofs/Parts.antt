-- The parts of a list, and those of a list of branches with rising targets. Assumes nothing.
use Rattle.std.proofs.Common.{◌≡◌, ℕ, ◌+◌, ◌<◌, ◌≤◌, Bool, true, false, cond, eqb, List, [], ◌∷◌, map, filter, refl, ap, ◌∙◌, arith}
use Rattle.std.specs.List.{AllByRecursion as All, list_all}
use Rattle.std.proofs.lemmas.Bool.Decides.{nat_tests}
use Rattle.std.proofs.ByRecursion.{All-append, all_kept_by, All-map, All-weaker}
use Rattle.model.specs.Lists.{parts}
use Rattle.model.specs.Model.{rising}
use Rattle.model.specs.declared.Branch.{Branch}
use Rattle.theory.specs.Matching.{has_target}
use Rattle.theory.proofs.Tests.{filter_same, some_false, all_unmap}
use Rattle.theory.proofs.Elements.{all_both, all_split, some_of_all}
use Rattle.theory.proofs.Sums.{sum_of, sum_same, sum_zero}

-- what a filter keeps is a part
pub part_filter : {X : Type 0} (P : List X → Type 0) (p : X → Bool) (xs : List X) → All P (parts xs) → P (filter p xs)
part_filter P p [] h = h.0
part_filter P p (x ∷ xs) h =
    let r = all_split P (parts xs) (map (λ U. x ∷ U) (parts xs)) h in
    elim (p x) as (λ b. P (cond b (x ∷ filter p xs) (filter p xs))) [
      | true ↦ part_filter _ p xs (all_unmap P (λ U. x ∷ U) (parts xs) r.1)
      | false ↦ part_filter P p xs r.0
    ]

-- parts hold elements of the list only
all_parts : {X : Type 0} (P : X → Type 0) (xs : List X) → All P xs → All (All P) (parts xs)
all_parts P [] h = (tt, tt)
all_parts P (x ∷ xs) h =
    let r : All (All P) (parts xs) = all_parts P xs h.1 in
    All-append (All P) (parts xs) (map (λ U. x ∷ U) (parts xs)) r
    (All-map (All P) (λ U. x ∷ U) (parts xs) (All-weaker _ _ (λ U k. (h.0, k)) (parts xs) r))

-- each target is below those behind it
abbrev pub Rising : List Branch → Type 0
Rising [] = Unit {0}
Rising (x ∷ xs) = All (λ u. x.target < u.target) xs × Rising xs

rising_above : (low : ℕ) (xs : List Branch) → rising low xs ≡ true → All (λ u. low ≤ u.target) xs × Rising xs
rising_above low [] h = (tt, tt)
rising_above low (x ∷ xs) h =
    let l : low ≤ x.target = grind (arith, nat_tests) in
    let i = rising_above (x.target + 1) xs (grind (arith, nat_tests)) in
    ((l, All-weaker _ _ (λ u k. omega arith) xs i.0), (All-weaker _ _ (λ u k. omega arith) xs i.0, i.1))

pub rising_is : (xs : List Branch) → rising 0 xs ≡ true → Rising xs
rising_is xs h = (rising_above 0 xs h).1

-- the test for the targets of a list
abbrev pub among : List Branch → Branch → Bool
among U u = has_target u.target U

among_none : (t : ℕ) (U : List Branch) → All (λ u. t < u.target) U → has_target t U ≡ false
among_none t [] h = refl
among_none t (u ∷ U) h = grind (arith, nat_tests, among_none t U h.1)

among_first : (x : Branch) (U : List Branch) → among (x ∷ U) x ≡ true
among_first x U = grind (arith, nat_tests)

among_rest : (x u : Branch) (U : List Branch) → x.target < u.target → among (x ∷ U) u ≡ among U u
among_rest x u U h = grind (arith, nat_tests)

-- a part is what the test for its targets keeps
abbrev pub FilteredByTargets : List Branch → List Branch → Type 0
FilteredByTargets xs U = filter (among U) xs ≡ U

pub parts_are_filtered : (xs : List Branch) → Rising xs → All (FilteredByTargets xs) (parts xs)
parts_are_filtered [] h = (refl, tt)
parts_are_filtered (x ∷ xs) h =
    let r : All (FilteredByTargets xs) (parts xs) = parts_are_filtered xs h.1 in
    let without : All (FilteredByTargets (x ∷ xs)) (parts xs) =
    all_both (All (λ u. x.target < u.target)) _ (FilteredByTargets (x ∷ xs)) (λ U k e. rw (among_none x.target U k) e) (parts xs)
    (all_parts _ xs h.0) r in
    let rest : (U : List Branch) → filter (among (x ∷ U)) xs ≡ filter (among U) xs =
    λ U. filter_same _ _ xs (All-weaker _ _ (λ u k. among_rest x u U k) xs h.0) in
    let with : All (λ U. FilteredByTargets (x ∷ xs) (x ∷ U)) (parts xs) =
    All-weaker (FilteredByTargets xs) (λ U. FilteredByTargets (x ∷ xs) (x ∷ U)) (λ U e. rw (among_first x U) (ap (λ V. x ∷ V) (rest U ∙ e)))
    (parts xs) r in
    All-append _ (parts xs) (map (λ U. x ∷ U) (parts xs)) without (All-map _ (λ U. x ∷ U) (parts xs) with)

-- what a filter keeps has just the targets of what passes
pub among_filter : (p : Branch → Bool) (xs : List Branch) → Rising xs → All (λ u. among (filter p xs) u ≡ p u) xs
among_filter p [] h = tt
among_filter p (x ∷ xs) h =
    let K : List Branch = filter p xs in
    let none : has_target x.target K ≡ false = among_none x.target K (all_kept_by p (λ u. x.target < u.target) xs h.0) in
    (grind (arith, nat_tests), all_both _ _ _ (λ u l e. grind (arith, among_rest x u K)) xs h.0 (among_filter p xs h.1))

-- where some part fails a test, so does what some filter keeps
pub filter_fails : (test : List Branch → Bool) (xs : List Branch)
    → Rising xs → list_all test (parts xs) ≡ false → (p : Branch → Bool) × (test (filter p xs) ≡ false)
filter_fails test xs h e =
    let r = some_of_all _ _ (parts xs) (parts_are_filtered xs h) (some_false test (parts xs) e) in
    (among r.0, ap test r.1 ∙ r.2)

-- a sum over the branches of ys with the target of u is the term of u
abbrev pub Single : List Branch → Branch → Type 0
Single ys u = (f : Branch → ℕ) → sum_of (λ z. cond (eqb z.target u.target) (f z) 0) ys ≡ f u

pub all_single : (xs : List Branch) → Rising xs → All (Single xs) xs
all_single [] h = tt
all_single (x ∷ xs) h = (
  λ f.
      let none : sum_of (λ z. cond (eqb z.target x.target) (f z) 0) xs ≡ 0 =
      sum_same _ _ xs (All-weaker _ _ (λ u l. grind (arith, nat_tests)) xs h.0) ∙ sum_zero xs in
      grind (arith, nat_tests),
  all_both _ _ _ (λ u l one f. grind (arith, nat_tests, one f)) xs h.0 (all_single xs h.1),
)
