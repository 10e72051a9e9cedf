-- A chain's result in std's words on lists, and the greatest in ours; lists that are gone through by place. Assumes nothing.
use Rattle.std.proofs.Common.{◌≡◌, ℕ, ◌+◌, max, Bool, true, false, cond, List, [], ◌∷◌, map, length, get_or, filter, None, Some, Option, refl, ap, ◌∙◌, arith}
use Rattle.std.specs.List.{fold, range_with_len, reduce, sum_by}
use Rattle.std.specs.Option.{option_map, unwrap_or}
use Rattle.std.proofs.lemmas.List.Sums.{sum_by-cons}
use Rattle.model.specs.Lists.{greatest}
use Rattle.model.proofs.Places.{elements}

greatest_from : (n : ℕ) (xs : List ℕ) → fold max n xs ≡ max n (greatest xs)
greatest_from n [] = omega arith
greatest_from n (x ∷ xs) = omega (arith, greatest_from (max n x) xs)

pub greatest_is : (r : Option ℕ) (xs : List ℕ) → option_map (λ x. x) r ≡ reduce max xs → unwrap_or r 0 ≡ greatest xs
greatest_is None [] h = refl
greatest_is None (x ∷ xs) h = cc
greatest_is (Some y) [] h = cc
greatest_is (Some y) (x ∷ xs) h = let e : y ≡ fold max x xs = cc in e ∙ greatest_from x xs

-- what is summed with 0 where a test fails is the sum over what passes it
pub sum_tested : {X : Type 0} (f : X → ℕ) (p : X → Bool) (xs : List X) → sum_by (λ x. cond (p x) (f x) 0) xs ≡ sum_by f (filter p xs)
sum_tested f p [] = refl
sum_tested {X} f p (x ∷ xs) =
    let more = sum_tested f p xs in
    let behind : List X = filter p xs in
    let front = sum_by-cons f x behind in
    sum_by-cons (λ y. cond (p y) (f y) 0) x xs
    ∙ elim (p x) as (λ b. cond b (f x) 0 + sum_by (λ y. cond (p y) (f y) 0) xs ≡ sum_by f (cond b (x ∷ behind) behind)) [
      | true ↦ omega arith
      | false ↦ omega arith
    ]

module _ {X : Type 0} (xs : List X) (d : X) where
  module _ (w : X → ℕ) (p : X → Bool) where
    sum-map-filter : {Y : Type 0} (f : Y → X) (ys : List Y)
        → sum_by (λ y. w (f y)) (filter (λ y. p (f y)) ys) ≡ sum_by w (filter p (map f ys))
    sum-map-filter f [] = refl
    sum-map-filter {Y} f (y ∷ ys) =
        let more = sum-map-filter f ys in
        let front : List Y = filter (λ z. p (f z)) ys in
        let behind : List X = filter p (map f ys) in
        let one = sum_by-cons (λ z. w (f z)) y front in
        let other = sum_by-cons w (f y) behind in
        elim (p (f y)) as (λ b. sum_by (λ z. w (f z)) (cond b (y ∷ front) front) ≡ sum_by w (cond b (f y ∷ behind) behind)) [
          | true ↦ omega arith
          | false ↦ more
        ]

    pub sum_places : sum_by (λ i. w (get_or xs i d)) (filter (λ i. p (get_or xs i d)) (range_with_len 0 (length xs))) ≡ sum_by w (filter p xs)
    sum_places = sum-map-filter (λ i. get_or xs i d) (range_with_len 0 (length xs)) ∙ ap (λ ys. sum_by w (filter p ys)) (elements xs d)
