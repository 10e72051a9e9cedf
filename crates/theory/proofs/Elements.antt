-- What holds of all elements of a list, or of some. Assumes nothing.
use Rattle.std.proofs.Common.{false, ◌≤◌, ◌≡◌, ℕ, zero, suc, ◌<◌, Bool, true, ◌⊎◌, List, [], ◌∷◌, ◌++◌, map, length, get_or, filter, inl, inr, arith, flat_map}
use mathlib.Core.List.{reverse_aux}
use Rattle.std.specs.List.{AllByRecursion as All, position_or_len}
use Rattle.std.proofs.ByRecursion.{All-append, All-weaker}
use Rattle.std.proofs.lemmas.Bool.{cases_lt}
use Rattle.std.proofs.lemmas.List.Elements.{recursion_from_All}
use Rattle.std.proofs.lemmas.List.Sums.{fails_before_first, passes_at_first}
use Rattle.theory.specs.Lists.{AnyByRecursion as Any}

module _ {X : Type 0} (P : X → Type 0) where
  pub all_split : (xs ys : List X) → All P (xs ++ ys) → All P xs × All P ys
  all_split [] ys h = (tt, h)
  all_split (x ∷ xs) ys h = let r = all_split xs ys h.1 in ((h.0, r.0), r.1)

  pub all_flat_map : {Y : Type 0} (f : Y → List X) (ys : List Y) → All (λ y. All P (f y)) ys → All P (flat_map f ys)
  all_flat_map f [] h = tt
  all_flat_map f (y ∷ ys) h = All-append P (f y) (flat_map f ys) h.0 (all_flat_map f ys h.1)

  pub all_flat_map_parts : {Y : Type 0} (f : Y → List X) (ys : List Y) → All P (flat_map f ys) → All (λ y. All P (f y)) ys
  all_flat_map_parts f [] h = tt
  all_flat_map_parts f (y ∷ ys) h = let r = all_split (f y) (flat_map f ys) h in (r.0, all_flat_map_parts f ys r.1)

  -- what holds of all that a filter keeps holds of each that passes
  pub all_unfiltered : (p : X → Bool) (xs : List X) → All P (filter p xs) → All (λ x. p x ≡ true → P x) xs
  all_unfiltered p [] h = tt
  all_unfiltered p (x ∷ xs) h = grind (arith, all_unfiltered p xs)

  pub all_reverse : (xs done : List X) → All P xs → All P done → All P (reverse_aux xs done)
  all_reverse [] done h k = k
  all_reverse (x ∷ xs) done h k = all_reverse xs (x ∷ done) h.1 (h.0, k)

  pub some_get_or : (d : X) (xs : List X) (k : ℕ) → k < length xs → P (get_or xs k d) → Any P xs
  some_get_or d [] k l e = absurd (omega arith)
  some_get_or d (x ∷ xs) zero l e = inl e
  some_get_or d (x ∷ xs) (suc k) l e = inr (some_get_or d xs k (omega arith) e)

  pub some_left : (xs ys : List X) → Any P xs → Any P (xs ++ ys)
  some_left [] ys h = absurd h
  some_left (x ∷ xs) ys h = grind (arith, some_left xs ys)

  pub some_right : (xs ys : List X) → Any P ys → Any P (xs ++ ys)
  some_right [] ys h = h
  some_right (x ∷ xs) ys h = inr (some_right xs ys h)

  pub some_map : {Y : Type 0} (f : Y → X) (ys : List Y) → Any (λ y. P (f y)) ys → Any P (map f ys)
  some_map f [] h = absurd h
  some_map f (y ∷ ys) h = grind (arith, some_map f ys)

  pub some_flat_map : {Y : Type 0} (f : Y → List X) (ys : List Y) → Any (λ y. Any P (f y)) ys → Any P (flat_map f ys)
  some_flat_map f [] h = absurd h
  some_flat_map f (y ∷ ys) (inl e) = some_left (f y) (flat_map f ys) e
  some_flat_map f (y ∷ ys) (inr h) = some_right (f y) (flat_map f ys) (some_flat_map f ys h)

  pub some_filter : (p : X → Bool) (xs : List X) → Any (λ x. P x × (p x ≡ true)) xs → Any P (filter p xs)
  some_filter p [] h = absurd h
  some_filter p (x ∷ xs) h = grind (arith, some_filter p xs)

  pub some_reverse : (xs done : List X) → Any P xs ⊎ Any P done → Any P (reverse_aux xs done)
  some_reverse [] done h = grind arith
  some_reverse (x ∷ xs) done h = grind (arith, some_reverse xs (x ∷ done))

module _ {X : Type 0} (P Q : X → Type 0) where
  pub some_weaker : ((x : X) → P x → Q x) → (xs : List X) → Any P xs → Any Q xs
  some_weaker f [] h = absurd h
  some_weaker f (x ∷ xs) h = grind (arith, some_weaker f xs)

  -- an element of which Q holds, with what holds of all
  pub some_of_all : (xs : List X) → All P xs → Any Q xs → (x : X) × P x × Q x
  some_of_all [] h k = absurd k
  some_of_all (x ∷ xs) h (inl e) = (x, h.0, e)
  some_of_all (x ∷ xs) h (inr k) = some_of_all xs h.1 k

module _ {X : Type 0} (P Q S : X → Type 0) (f : (x : X) → P x → Q x → S x) where
  pub all_both : (xs : List X) → All P xs → All Q xs → All S xs
  all_both [] h k = tt
  all_both (x ∷ xs) h k = (f x h.0 k.0, all_both xs h.1 k.1)

  pub some_both : (xs : List X) → All P xs → Any Q xs → Any S xs
  some_both [] h k = absurd k
  some_both (x ∷ xs) h (inl e) = inl (f x h.0 e)
  some_both (x ∷ xs) h (inr k) = inr (some_both xs h.1 k)

-- each element stands to itself
pub all_self : {X : Type 0} (R : X → X → Type 0) → ((x : X) → R x x) → (xs : List X) → All (λ x. Any (R x) xs) xs
all_self R f [] = tt
all_self R f (x ∷ xs) = (inl (f x), All-weaker _ _ (λ y h. inr h) xs (all_self R f xs))

pub all_swap : {A X : Type 0} (R : A → X → Type 0) (xs : List X) → ((a : A) → All (R a) xs) → All (λ x. (a : A) → R a x) xs
all_swap R [] h = tt
all_swap R (x ∷ xs) h = (λ a. (h a).0, all_swap R xs (λ a. (h a).1))

-- the first that passes stands at its place, or none passes
pub first_cases : {X : Type 0} (p : X → Bool) (d : X) (xs : List X)
    → ((position_or_len p xs < length xs) × (p (get_or xs (position_or_len p xs) d) ≡ true))
    ⊎ ((length xs ≤ position_or_len p xs) × All (λ x. p x ≡ false) xs)
first_cases p d xs =
    elim (cases_lt (position_or_len p xs) (length xs)) [
      | inl here ↦ inl (here, passes_at_first p xs d here)
      | inr none ↦ inr (none, recursion_from_All _ xs (λ k d l. fails_before_first p xs k d (omega arith)))
    ]
