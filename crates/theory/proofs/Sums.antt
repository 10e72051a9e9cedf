-- Sums over a list by recursion, and sums over what a filter keeps. Assumes nothing.
use Rattle.std.proofs.Common.{◌≡◌, ℕ, ◌+◌, ◌*◌, ◌<◌, ◌≤◌, Bool, true, false, cond, not, List, [], ◌∷◌, length, sum_by, count_by, filter, sym, refl, ap, ◌∙◌, inl, inr, add-mul, zero-mul, arith}
use Rattle.std.specs.List.{AllByRecursion as All}
use Rattle.std.proofs.ByRecursion.{All-weaker}
use Rattle.std.proofs.lemmas.List.Filters.{sum_by-filter_both}
use Rattle.std.proofs.lemmas.List.Sums.{length-filter, sum_by-cons}
use Rattle.theory.specs.Lists.{AnyByRecursion as Any}
use Rattle.theory.proofs.Tests.{filter_same}
use Rattle.theory.proofs.Elements.{some_weaker}

abbrev pub sum_of : {X : Type 0} → (X → ℕ) → List X → ℕ
sum_of f [] = 0
sum_of f (x ∷ xs) = f x + sum_of f xs

pub cond_le : (a b : Bool) (n : ℕ) → (a ≡ true → b ≡ true) → cond a n 0 ≤ cond b n 0
cond_le a b n h = grind arith

same_test : (a b : Bool) → ◌≡◌ {A = ℕ} (cond a 1 0) (cond b 1 0) → a ≡ b
same_test a b e = grind arith

module _ {X : Type 0} where
  pub sum_by_is : (f : X → ℕ) (xs : List X) → sum_by f xs ≡ sum_of f xs
  sum_by_is f [] = refl
  sum_by_is f (x ∷ xs) = sum_by-cons f x xs ∙ ap (λ n. f x + n) (sum_by_is f xs)

  pub sum_zero : (xs : List X) → sum_of (λ x. 0) xs ≡ 0
  sum_zero [] = refl
  sum_zero (x ∷ xs) = omega (arith, sum_zero xs)

  pub sum_mul : (f : X → ℕ) (c : ℕ) (xs : List X) → sum_of (λ x. f x * c) xs ≡ sum_of f xs * c
  sum_mul f c [] = sym (zero-mul c)
  sum_mul f c (x ∷ xs) = ap (λ n. f x * c + n) (sum_mul f c xs) ∙ sym (add-mul (f x) (sum_of f xs) c)

  pub sum_filter : (f : X → ℕ) (p : X → Bool) (xs : List X) → sum_of f (filter p xs) ≡ sum_of (λ x. cond (p x) (f x) 0) xs
  sum_filter f p [] = refl
  sum_filter f p (x ∷ xs) = grind (arith, sum_filter f p xs)

  pub filter_none : (xs : List X) → filter (λ x. false) xs ≡ []
  filter_none [] = refl
  filter_none (x ∷ xs) = filter_none xs

module _ {X : Type 0} (f g : X → ℕ) where
  pub sum_add : (xs : List X) → sum_of (λ x. f x + g x) xs ≡ sum_of f xs + sum_of g xs
  sum_add [] = refl
  sum_add (x ∷ xs) = omega (arith, sum_add xs)

  pub sum_same : (xs : List X) → All (λ x. f x ≡ g x) xs → sum_of f xs ≡ sum_of g xs
  sum_same [] h = refl
  sum_same (x ∷ xs) h = omega (arith, sum_same xs h.1)

  pub sum_le : (xs : List X) → All (λ x. f x ≤ g x) xs → sum_of f xs ≤ sum_of g xs
  sum_le [] h = omega arith
  sum_le (x ∷ xs) h = omega (arith, sum_le xs h.1)

  pub sum_lt : (xs : List X) → All (λ x. f x ≤ g x) xs → Any (λ x. f x < g x) xs → sum_of f xs < sum_of g xs
  sum_lt [] h k = absurd k
  sum_lt (x ∷ xs) h (inl e) = omega (arith, sum_le xs h.1)
  sum_lt (x ∷ xs) h (inr k) = omega (arith, sum_lt xs h.1 k)

  -- where no term is larger and the sums are equal, each term is equal
  pub same_from_sum : (xs : List X) → All (λ x. f x ≤ g x) xs → sum_of f xs ≡ sum_of g xs → All (λ x. f x ≡ g x) xs
  same_from_sum [] h e = tt
  same_from_sum (x ∷ xs) h e =
      let k : sum_of f xs ≤ sum_of g xs = sum_le xs h.1 in
      (omega arith, same_from_sum xs h.1 (omega arith))

pub sum_swap : {X Y : Type 0} (f : X → Y → ℕ) (xs : List X) (ys : List Y)
    → sum_of (λ x. sum_of (f x) ys) xs ≡ sum_of (λ y. sum_of (λ x. f x y) xs) ys
sum_swap f [] ys = sym (sum_zero ys)
sum_swap f (x ∷ xs) ys =
    ap (λ n. sum_of (f x) ys + n) (sum_swap f xs ys) ∙ sym (sum_add (f x) (λ y. sum_of (λ x. f x y) xs) ys)

-- a filter keeps no more than a wider one
pub sum_by_filter_le : {X : Type 0} (f : X → ℕ) (p q : X → Bool) (xs : List X)
    → All (λ x. p x ≡ true → q x ≡ true) xs → sum_by f (filter p xs) ≤ sum_by f (filter q xs)
sum_by_filter_le f p q xs h =
    rw (sum_by_is f (filter p xs), sum_by_is f (filter q xs), sum_filter f p xs, sum_filter f q xs)
    (sum_le _ _ xs (All-weaker _ _ (λ x k. cond_le (p x) (q x) (f x) k) xs h))

pub sum_by_filter_part : {X : Type 0} (f : X → ℕ) (p : X → Bool) (xs : List X) → sum_by f (filter p xs) ≤ sum_by f xs
sum_by_filter_part f p xs = omega (arith, sum_by-filter_both p (λ x. not (p x)) (λ x. refl) f xs)

-- how many pass, of two tests of which the second passes all that the first does, and one element more
pub count_by_lt : {X : Type 0} (p q : X → Bool) (xs : List X)
    → All (λ x. p x ≡ true → q x ≡ true) xs → Any (λ x. (p x ≡ false) × (q x ≡ true)) xs → count_by p xs < count_by q xs
count_by_lt p q xs h k =
    rw (sum_by_is (λ x. cond (p x) 1 0) xs, sum_by_is (λ x. cond (q x) 1 0) xs)
    (sum_lt _ _ xs (All-weaker _ _ (λ x i. cond_le (p x) (q x) 1 i) xs h) (some_weaker _ _ (λ x e. rw (e.0, e.1) (omega arith)) xs k))

module _ {X : Type 0} (p q : X → Bool) where
  -- where the second of two tests passes all that the first does, it keeps as many elements at least, and where it keeps as
  -- many, it keeps the same
  pub filter_least : (xs : List X) → All (λ x. p x ≡ true → q x ≡ true) xs
      → (length (filter p xs) ≤ length (filter q xs)) × (length (filter q xs) ≡ length (filter p xs) → filter q xs ≡ filter p xs)
  filter_least xs h =
      let counts : (p : X → Bool) → length (filter p xs) ≡ sum_of (λ x. cond (p x) 1 0) xs = λ p. length-filter p xs ∙ sum_by_is _ xs in
      let le = All-weaker _ _ (λ x k. cond_le (p x) (q x) 1 k) xs h in (
        rw (counts p, counts q) (sum_le _ _ xs le),
        λ e. filter_same q p xs (All-weaker _ _ (λ x k. same_test (q x) (p x) (sym k)) xs
            (same_from_sum _ _ xs le (sym (counts p) ∙ sym e ∙ counts q))),
      )
