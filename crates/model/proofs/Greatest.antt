-- The greatest number of a list. Assumes nothing.
use Rattle.std.proofs.Common.{ℕ, ◌≤◌, List, [], ◌∷◌, map, arith}
use Rattle.std.specs.List.{AllByRecursion as All}
use Rattle.std.proofs.ByRecursion.{All-weaker}
use Rattle.model.specs.Lists.{greatest}

module _ {X : Type 0} (f : X → ℕ) where
  pub greatest_bounds : (xs : List X) → All (λ x. f x ≤ greatest (map f xs)) xs
  greatest_bounds [] = tt
  greatest_bounds (x ∷ xs) = (omega arith, All-weaker _ _ (λ y h. omega arith) xs (greatest_bounds xs))

  pub greatest_least : (n : ℕ) (xs : List X) → All (λ x. f x ≤ n) xs → greatest (map f xs) ≤ n
  greatest_least n [] h = omega arith
  greatest_least n (x ∷ xs) h = omega (arith, h.0, greatest_least n xs h.1)
