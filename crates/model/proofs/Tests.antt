-- A test of every element, what holds of every element, and what holds at any place. Assumes nothing.
use Rattle.std.proofs.Common.{◌≡◌, ℕ, zero, suc, Bool, true, List, [], ◌∷◌, get_or, refl}
use Rattle.std.specs.List.{AllByRecursion as All, list_all}
use Rattle.std.proofs.lemmas.Bool.{and_from, and_parts}

module _ {X : Type 0} (p : X → Bool) where
  pub each_true : (xs : List X) → list_all p xs ≡ true → All (λ x. p x ≡ true) xs
  each_true [] h = tt
  each_true (x ∷ xs) h = let r = and_parts (p x) (list_all p xs) h in (r.0, each_true xs r.1)

  pub all_true : (xs : List X) → All (λ x. p x ≡ true) xs → list_all p xs ≡ true
  all_true [] h = refl
  all_true (x ∷ xs) h = and_from (p x) (list_all p xs) h.0 (all_true xs h.1)

-- an element, or the default past the end
pub all_at : {X : Type 0} (P : X → Type 0) (xs : List X) (i : ℕ) (d : X) → All P xs → P d → P (get_or xs i d)
all_at P [] i d h k = k
all_at P (x ∷ xs) zero d h k = h.0
all_at P (x ∷ xs) (suc i) d h k = all_at P xs i d h.1 k
