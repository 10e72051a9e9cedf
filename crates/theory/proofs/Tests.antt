-- What a test of every element, or of some, says of the elements, tests and functions that agree on
-- them, and what holds of all. Assumes nothing.
use Rattle.std.proofs.Common.{◌≡◌, Bool, true, false, List, [], ◌∷◌, map, filter, refl, ap, arith}
use Rattle.std.specs.List.{AllByRecursion as All, list_all, list_any}
use Rattle.std.proofs.lemmas.Bool.{false≢true, true≢false}
use Rattle.model.specs.Model.{Step, mass}
use Rattle.theory.specs.Lists.{AnyByRecursion as Any}
use Rattle.theory.specs.Sentences.{StateSet, share}

pub same_bool : (x y : Bool) → (x ≡ true → y ≡ true) → (y ≡ true → x ≡ true) → x ≡ y
same_bool x y f g = grind arith

module _ {X : Type 0} (p : X → Bool) where
  pub any_true : (xs : List X) → Any (λ x. p x ≡ true) xs → list_any p xs ≡ true
  any_true [] h = absurd h
  any_true (x ∷ xs) h = grind (arith, any_true xs)

  pub some_true : (xs : List X) → list_any p xs ≡ true → Any (λ x. p x ≡ true) xs
  some_true [] h = absurd (false≢true h)
  some_true (x ∷ xs) h = grind (arith, some_true xs)

  pub all_false : (xs : List X) → Any (λ x. p x ≡ false) xs → list_all p xs ≡ false
  all_false [] h = absurd h
  all_false (x ∷ xs) h = grind (arith, all_false xs)

  pub some_false : (xs : List X) → list_all p xs ≡ false → Any (λ x. p x ≡ false) xs
  some_false [] h = absurd (true≢false h)
  some_false (x ∷ xs) h = grind (arith, some_false xs)

  pub any_false : (xs : List X) → All (λ x. p x ≡ false) xs → list_any p xs ≡ false
  any_false [] h = refl
  any_false (x ∷ xs) h = grind (arith, any_false xs)

  pub each_false : (xs : List X) → list_any p xs ≡ false → All (λ x. p x ≡ false) xs
  each_false [] h = tt
  each_false (x ∷ xs) h = grind (arith, each_false xs)

module _ {X : Type 0} (p q : X → Bool) where
  pub all_same : (xs : List X) → All (λ x. p x ≡ q x) xs → list_all p xs ≡ list_all q xs
  all_same [] h = refl
  all_same (x ∷ xs) h = rw (h.0, all_same xs h.1)

  pub any_same : (xs : List X) → All (λ x. p x ≡ q x) xs → list_any p xs ≡ list_any q xs
  any_same [] h = refl
  any_same (x ∷ xs) h = rw (h.0, any_same xs h.1)

  pub filter_same : (xs : List X) → All (λ x. p x ≡ q x) xs → filter p xs ≡ filter q xs
  filter_same [] h = refl
  filter_same (x ∷ xs) h = rw (h.0, filter_same xs h.1)

pub share_same : (X Y : StateSet) (a : Step) → All (λ b. X b.target ≡ Y b.target) a.branches → share X a ≡ share Y a
share_same X Y a h = ap mass (filter_same (λ b. X b.target) (λ b. Y b.target) a.branches h)

pub all_unmap : {X Y : Type 0} (P : X → Type 0) (f : Y → X) (ys : List Y) → All P (map f ys) → All (λ y. P (f y)) ys
all_unmap P f [] h = tt
all_unmap P f (y ∷ ys) h = (h.0, all_unmap P f ys h.1)

pub all_always : {X : Type 0} (P : X → Type 0) → ((x : X) → P x) → (xs : List X) → All P xs
all_always P f [] = tt
all_always P f (x ∷ xs) = (f x, all_always P f xs)
