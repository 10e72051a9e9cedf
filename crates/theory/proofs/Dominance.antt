-- A match as an inequality of shares over sets of states: mirrored, composed, widened. Assumes nothing.
use Rattle.std.proofs.lemmas.Bool.Decides.{nat_tests}
use Rattle.std.proofs.Common.{◌≡◌, ℕ, ◌+◌, ◌*◌, ◌<◌, ◌≤◌, Bool, true, not, ◌&&◌, List, filter, refl, ap, mul-le-mul_right, mul_comm, add-mul, le_of_mul-le-mul_right, arith}
use Rattle.std.specs.List.{range_with_len, AllByRecursion as All, list_any}
use Rattle.std.proofs.ByRecursion.{all_kept_by, All-weaker, kept_by_passes}
use Rattle.std.proofs.lemmas.List.Filters.{sum_by-filter_both}
use Rattle.model.specs.Model.{Step, mass, total}
use Rattle.model.specs.declared.Branch.{Branch}
use Rattle.theory.specs.Matching.{Relation, has_target, image, matches, surplus}
use Rattle.theory.specs.Sentences.{StateSet, share}
use Rattle.theory.proofs.Tests.{any_true, some_true}
use Rattle.theory.proofs.Elements.{all_both, some_of_all, some_weaker}
use Rattle.theory.proofs.Counting.{any_below, some_below}
use Rattle.theory.proofs.Sums.{sum_by_filter_le}
use Rattle.theory.proofs.Parts.{FilteredByTargets, among, part_filter, rising_is}
use Rattle.theory.proofs.Surplus.{matches_from_kept, matches_parts}
use Rattle.theory.proofs.Lawful.{SoundStep}

-- what stands to X, among the numbers below n, lies in Y
abbrev Carries : ℕ → Relation → StateSet → StateSet → Type 0
Carries n R X Y = (u v : ℕ) → u < n → v < n → X u ≡ true → R u v ≡ true → Y v ≡ true

abbrev pub Dominates : ℕ → Relation → Step → Step → Type 0
Dominates n R a b = (X Y : StateSet) → Carries n R X Y → share X a * total b ≤ share Y b * total a

share_le : (n : ℕ) (X Y : StateSet) (a : Step)
    → SoundStep n a → ((u : ℕ) → u < n → X u ≡ true → Y u ≡ true) → share X a ≤ share Y a
share_le n X Y a la h = sum_by_filter_le _ _ _ a.branches (All-weaker _ _ (λ b l. h b.target l) a.branches la.inside)

share_both : (X : StateSet) (a : Step) → share (λ u. not (X u)) a + share X a ≡ total a
share_both X a =
    omega (arith, sum_by-filter_both (λ b. X b.target) (λ b. not (X b.target)) (λ b. refl) (λ b. b.weight) a.branches)

-- a ratio of at least k to m goes through a middle one
pub ratio_through : (k a x m b y : ℕ) → k * a ≤ x * m → x * b ≤ y * a → 0 < a → k * b ≤ y * m
ratio_through k a x m b y h g pos =
    let low : k * a * b ≤ x * m * b = mul-le-mul_right b h in
    let high : x * b * m ≤ y * a * m = mul-le-mul_right m g in
    le_of_mul-le-mul_right {k = a} (omega arith) pos

-- a smaller share of the rest is a greater share of the part
ratio_of_rest : (a b x x' y y' : ℕ) → x' + x ≡ a → y' + y ≡ b → x' * b ≤ y' * a → y * a ≤ x * b
ratio_of_rest a b x x' y y' ea eb h = omega (arith, add-mul x' x b, add-mul y' y a, mul_comm a b, ap (λ n. n * b) ea, ap (λ n. n * a) eb)

module _ (R : Relation) (a b : Step) where
  pub matches_action : matches R a b ≡ true → a.action ≡ b.action
  matches_action h = (matches_parts R a b h).0

  -- from the test to the inequality
  pub dominates : (n : ℕ) → SoundStep n a → SoundStep n b → matches R a b ≡ true → Dominates n R a b
  dominates n la lb h X Y carries =
      let in_X : Branch → Bool = λ u. X u.target in
      let U : List Branch = filter in_X a.branches in
      let none : surplus R a b U ≡ 0 = part_filter _ in_X a.branches (matches_parts R a b h).1 in
      let below : All (λ u. u.target < n) U = all_kept_by in_X (λ u. u.target < n) a.branches la.inside in
      let of_U : All (λ u. (u.target < n) × (X u.target ≡ true)) U =
      all_both _ _ _ (λ u l x. (l, x)) U below (kept_by_passes in_X a.branches) in
      let hit_in_Y : (v : Branch) → v.target < n → list_any (λ u. R u.target v.target) U ≡ true → Y v.target ≡ true =
      λ v lv e. let k = some_of_all _ _ U of_U (some_true _ U e) in carries k.0.target v.target k.1.0 lv k.1.1 k.2 in
      let i : mass (image R U b) ≤ share Y b = sum_by_filter_le _ _ _ b.branches (All-weaker _ _ hit_in_Y b.branches lb.inside) in
      omega (arith, none, mul-le-mul_right (total a) i)

  -- and back
  no_surplus : (n : ℕ) → Dominates n R a b → (U : List Branch) → FilteredByTargets a.branches U → surplus R a b U ≡ 0
  no_surplus n h U kept =
      let Y : StateSet = λ v. list_any (λ u. R u.target v) U in
      let carries : Carries n R (λ t. has_target t U) Y =
      λ u v lu lv x r. any_true _ U (some_weaker _ _ (λ w e. grind (arith, nat_tests)) U (some_true _ U x)) in
      let weighs : mass (filter (among U) a.branches) * total b ≤ mass (image R U b) * total a = h (λ t. has_target t U) Y carries in
      grind arith

  pub matches_from : (n : ℕ) → SoundStep n a → a.action ≡ b.action → Dominates n R a b → matches R a b ≡ true
  matches_from n la e h = matches_from_kept R a b (rising_is a.branches la.rises) e (no_surplus n h)

-- under a wider relation, of a step and itself, the other way round, and through a middle step
pub dominates_wider : (n : ℕ) (R S : Relation) (a b : Step)
    → ((u v : ℕ) → u < n → v < n → R u v ≡ true → S u v ≡ true) → Dominates n R a b → Dominates n S a b
dominates_wider n R S a b sub h X Y carries = h X Y (λ u v lu lv x r. carries u v lu lv x (sub u v lu lv r))

module _ (n : ℕ) (R : Relation) where
  pub dominates_itself : (a : Step) → SoundStep n a → ((u : ℕ) → u < n → R u u ≡ true) → Dominates n R a a
  dominates_itself a la same X Y carries = mul-le-mul_right (total a) (share_le n X Y a la (λ u l x. carries u u l l x (same u l)))

  pub dominates_back : (a b : Step)
      → ((u v : ℕ) → u < n → v < n → R u v ≡ true → R v u ≡ true) → Dominates n R a b → Dominates n R b a
  dominates_back a b mirror h X Y carries =
      let not_X : StateSet = λ v. not (X v) in
      let not_Y : StateSet = λ u. not (Y u) in
      let back : Carries n R not_Y not_X = λ u v lu lv y r. grind (arith, mirror u v, carries v u) in
      ratio_of_rest (total a) (total b) (share Y a) (share not_Y a) (share X b) (share not_X b) (share_both Y a) (share_both X b)
      (h not_Y not_X back)

  pub dominates_through : (a b c : Step) → 0 < total b
      → ((u v w : ℕ) → R u v ≡ true → R v w ≡ true → R u w ≡ true) → Dominates n R a b → Dominates n R b c → Dominates n R a c
  dominates_through a b c pos join h g X Z carries =
      let Y : StateSet = λ v. list_any (λ u. X u && R u v) (range_with_len 0 n) in
      let into : Carries n R X Y = λ u v lu lv x r. any_below _ n u lu (grind arith) in
      let out : Carries n R Y Z =
      λ v w lv lw y r. let from = some_below (λ u. X u && R u v) n y in grind (arith, join from.0 v w, carries from.0 w) in
      ratio_through (share X a) (total b) (share Y b) (total a) (total c) (share Z c) (h X Y into) (g Y Z out) pos
