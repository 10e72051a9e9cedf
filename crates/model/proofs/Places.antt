-- A list that is gone through by place: what is asked of its places is asked of its elements. Assumes nothing.
use Rattle.std.proofs.Common.{◌≡◌, ℕ, Bool, ◌||◌, List, [], ◌∷◌, map, length, get_or, refl, sym, ap, ◌∙◌, arith}
use Rattle.std.specs.List.{list_all, list_any, position_or_len, range_with_len}
use Rattle.std.proofs.lemmas.List.{get_or_default, same_lists}
use Rattle.std.proofs.lemmas.List.Folds.{list_all-map}
use Rattle.std.proofs.lemmas.List.FromFn.{get_or-map-range_with_len, length-map-range_with_len}

module _ {X : Type 0} (xs : List X) (d : X) where
  -- the elements at all places
  pub elements : map (λ i. get_or xs i d) (range_with_len 0 (length xs)) ≡ xs
  elements =
      let at : ℕ → X = λ i. get_or xs i d in
      let long : length (map at (range_with_len 0 (length xs))) ≡ length xs = length-map-range_with_len at 0 (length xs) in
      same_lists _ xs long
      (λ k e h. get_or-map-range_with_len at 0 (length xs) k k e (omega arith) (omega arith) ∙ get_or_default xs k d e (omega arith))

  any-map : {Y : Type 0} (p : X → Bool) (f : Y → X) (ys : List Y) → list_any (λ y. p (f y)) ys ≡ list_any p (map f ys)
  any-map p f [] = refl
  any-map p f (y ∷ ys) = ap (λ b. p (f y) || b) (any-map p f ys)

  pub any_place : (p : X → Bool) → list_any (λ i. p (get_or xs i d)) (range_with_len 0 (length xs)) ≡ list_any p xs
  any_place p = any-map p (λ i. get_or xs i d) (range_with_len 0 (length xs)) ∙ ap (list_any p) elements

  pub all_place : (p : X → Bool) → list_all (λ i. p (get_or xs i d)) (range_with_len 0 (length xs)) ≡ list_all p xs
  all_place p = sym (list_all-map p (λ i. get_or xs i d) (range_with_len 0 (length xs))) ∙ ap (list_all p) elements

  position-map : {Y : Type 0} (p : X → Bool) (f : Y → X) (ys : List Y) → position_or_len (λ y. p (f y)) ys ≡ position_or_len p (map f ys)
  position-map p f [] = refl
  position-map p f (y ∷ ys) = rw (position-map p f ys)

  pub first_place : (p : X → Bool) → position_or_len (λ i. p (get_or xs i d)) (range_with_len 0 (length xs)) ≡ position_or_len p xs
  first_place p = position-map p (λ i. get_or xs i d) (range_with_len 0 (length xs)) ∙ ap (position_or_len p) elements
