-- The demand of what a set of branches stands to is submodular: of the union and the meet of two sets. Assumes nothing.
use Rattle.std.proofs.Common.{◌≡◌, ℕ, ◌+◌, ◌≤◌, Bool, true, cond, ◌&&◌, ◌||◌, List, [], ◌∷◌, filter, sym, refl, ap, ◌∙◌, arith}
use Rattle.std.specs.List.{AllByRecursion as All, list_any}
use Rattle.std.proofs.ByRecursion.{All-weaker}
use Rattle.std.proofs.lemmas.Bool.{false≢true}
use Rattle.model.specs.declared.Branch.{Branch}
use Rattle.theory.specs.Matching.{Relation}
use Rattle.theory.proofs.Tests.{all_always}
use Rattle.theory.proofs.Sums.{sum_add, sum_filter, sum_le, sum_of, sum_same}

-- whether v is related to a member of U
abbrev pub hit : Relation → List Branch → Branch → Bool
hit R U v = list_any (λ u. R u.target v.target) U

-- the sum of e over what U stands to
abbrev pub demand : Relation → List Branch → (Branch → ℕ) → List Branch → ℕ
demand R ys e U = sum_of (λ v. cond (hit R U v) (e v) 0) ys

abbrev pub union : {X : Type 0} → (X → Bool) → (X → Bool) → X → Bool
union p q x = p x || q x

abbrev pub meet : {X : Type 0} → (X → Bool) → (X → Bool) → X → Bool
meet p q x = p x && q x

cond_modular : (a b : Bool) (n : ℕ) → cond (a || b) n 0 + cond (a && b) n 0 ≡ cond a n 0 + cond b n 0
cond_modular a b n = grind arith

module _ {X : Type 0} (p q : X → Bool) where
  pub sum_modular : (s : X → ℕ) (xs : List X)
      → sum_of s (filter (union p q) xs) + sum_of s (filter (meet p q) xs) ≡ sum_of s (filter p xs) + sum_of s (filter q xs)
  sum_modular s xs =
      let modular = sum_same _ _ xs (all_always _ (λ x. cond_modular (p x) (q x) (s x)) xs) in
      simp sum_filter (sym (sum_add _ _ xs) ∙ modular ∙ sum_add _ _ xs)

  pub any_union : (g : X → Bool) (xs : List X) → list_any g (filter (union p q) xs) ≡ (list_any g (filter p xs) || list_any g (filter q xs))
  any_union g [] = refl
  any_union g (x ∷ xs) = grind (arith, any_union g xs)

  any_meet : (g : X → Bool) (xs : List X)
      → list_any g (filter (meet p q) xs) ≡ true → (list_any g (filter p xs) && list_any g (filter q xs)) ≡ true
  any_meet g [] e = absurd (false≢true e)
  any_meet g (x ∷ xs) e = grind (arith, any_meet g xs)

  any_submodular : (g : X → Bool) (xs : List X) (n : ℕ)
      → cond (list_any g (filter (union p q) xs)) n 0 + cond (list_any g (filter (meet p q) xs)) n 0
      ≤ cond (list_any g (filter p xs)) n 0 + cond (list_any g (filter q xs)) n 0
  any_submodular g xs n = grind (arith, any_union g xs, any_meet g xs)

module _ (R : Relation) (ys : List Branch) where
  pub demand_submodular : (e : Branch → ℕ) (p q : Branch → Bool) (xs : List Branch)
      → demand R ys e (filter (union p q) xs) + demand R ys e (filter (meet p q) xs)
      ≤ demand R ys e (filter p xs) + demand R ys e (filter q xs)
  demand_submodular e p q xs =
      rw (← sum_add _ _ ys, ← sum_add _ _ ys)
      (sum_le _ _ ys (all_always _ (λ v. any_submodular p q (λ u. R u.target v.target) xs (e v)) ys))

  pub demand_same : (e f : Branch → ℕ) (U : List Branch) → All (λ v. e v ≡ f v) ys → demand R ys e U ≡ demand R ys f U
  demand_same e f U h = sum_same _ _ ys (All-weaker _ _ (λ v k. ap (λ n. cond (hit R U v) n 0) k) ys h)
