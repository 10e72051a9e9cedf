-- An element of a list, or what stands for one past its end, and the numbers that are counted. Assumes nothing.
use Rattle.std.proofs.Common.{◌≡◌, ℕ, zero, suc, ◌+◌, ◌<◌, List, [], ◌∷◌, ◌++◌, map, get_or, refl, arith}
use Rattle.std.specs.List.{range_with_len, AllByRecursion as All}
use Rattle.std.proofs.ByRecursion.{All-weaker}

module _ {X : Type 0} where
  pub get_or_push_default : (xs : List X) (i : ℕ) (d : X) → get_or (xs ++ d ∷ []) i d ≡ get_or xs i d
  get_or_push_default [] zero d = refl
  get_or_push_default [] (suc i) d = refl
  get_or_push_default (x ∷ xs) zero d = refl
  get_or_push_default (x ∷ xs) (suc i) d = get_or_push_default xs i d

  pub get_or_map_default : {Y : Type 0} (f : X → Y) (xs : List X) (i : ℕ) (d : X) → get_or (map f xs) i (f d) ≡ f (get_or xs i d)
  get_or_map_default f [] i d = refl
  get_or_map_default f (x ∷ xs) zero d = refl
  get_or_map_default f (x ∷ xs) (suc i) d = get_or_map_default f xs i d

pub map_same : {X Y : Type 0} (f g : X → Y) (xs : List X) → All (λ x. f x ≡ g x) xs → map f xs ≡ map g xs
map_same f g [] h = refl
map_same f g (x ∷ xs) h = rw (h.0, map_same f g xs h.1)

pub all_counting : (a n : ℕ) → All (λ i. i < a + n) (range_with_len a n)
all_counting a zero = tt
all_counting a (suc n) = (omega arith, All-weaker _ _ (λ i h. omega arith) (range_with_len (a + 1) n) (all_counting (a + 1) n))
