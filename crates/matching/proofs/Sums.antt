-- Sums over the numbers below n. Assumes nothing.
use Rattle.std.proofs.Common.{◌≡◌, ℕ, zero, suc, ◌+◌, ◌*◌, ◌<◌, ◌≤◌, Bool, true, false, cond, List, [], ◌∷◌, length, get_or, sum_by, add-mul, refl, sym, ap, ◌∙◌, inl, inr, arith}
use Rattle.std.proofs.lemmas.Bool.{cases_eq}
use Rattle.std.proofs.lemmas.List.Sums.{sum_by-cons}

-- f 0 + .. + f (n - 1)
abbrev pub Sum : ℕ → (ℕ → ℕ) → ℕ
Sum zero f = 0
Sum (suc n) f = Sum n f + f n

pub sum_same : (n : ℕ) (f g : ℕ → ℕ) → ((i : ℕ) → i < n → f i ≡ g i) → Sum n f ≡ Sum n g
sum_same zero f g h = refl
sum_same (suc n) f g h = omega (arith, sum_same n f g (λ i l. h i (omega arith)), h n (omega arith))

pub sum_le : (n : ℕ) (f g : ℕ → ℕ) → ((i : ℕ) → i < n → f i ≤ g i) → Sum n f ≤ Sum n g
sum_le zero f g h = omega arith
sum_le (suc n) f g h = omega (arith, sum_le n f g (λ i l. h i (omega arith)), h n (omega arith))

pub sum_none : (n : ℕ) → Sum n (λ i. 0) ≡ 0
sum_none zero = refl
sum_none (suc n) = omega (arith, sum_none n)

pub sum_add : (n : ℕ) (f g : ℕ → ℕ) → Sum n (λ i. f i + g i) ≡ Sum n f + Sum n g
sum_add zero f g = refl
sum_add (suc n) f g = omega (arith, sum_add n f g)

pub sum_part : (n k : ℕ) (f : ℕ → ℕ) → k < n → f k ≤ Sum n f
sum_part zero k f l = absurd (omega arith)
sum_part (suc n) k f l =
    elim (cases_eq k n) [
      | inl e ↦ rw e (omega arith)
      | inr ne ↦ omega (arith, sum_part n k f (omega arith))
    ]

pub sum_swap : (m n : ℕ) (A : ℕ → ℕ → ℕ) → Sum m (λ i. Sum n (λ j. A i j)) ≡ Sum n (λ j. Sum m (λ i. A i j))
sum_swap zero n A = sym (sum_none n)
sum_swap (suc m) n A = ap (λ x. x + Sum n (λ j. A m j)) (sum_swap m n A) ∙ sym (sum_add n (λ j. Sum m (λ i. A i j)) (λ j. A m j))

pub sum_cond : (b : Bool) (n : ℕ) (f : ℕ → ℕ) → cond b (Sum n f) 0 ≡ Sum n (λ i. cond b (f i) 0)
sum_cond true n f = refl
sum_cond false n f = sym (sum_none n)

pub sum_scaled : (n : ℕ) (f : ℕ → ℕ) (k : ℕ) → Sum n (λ i. f i * k) ≡ Sum n f * k
sum_scaled zero f k = omega arith
sum_scaled (suc n) f k = omega (arith, sum_scaled n f k, add-mul (Sum n f) (f n) k)

-- from the front
pub sum_front : (n : ℕ) (f : ℕ → ℕ) → Sum (suc n) f ≡ f 0 + Sum n (λ i. f (suc i))
sum_front zero f = omega arith
sum_front (suc n) f = omega (arith, sum_front n f)

-- over a list
pub sum_by_at : {X : Type 0} (f : X → ℕ) (d : X) (xs : List X) → sum_by f xs ≡ Sum (length xs) (λ i. f (get_or xs i d))
sum_by_at f d [] = refl
sum_by_at f d (x ∷ xs) =
    omega (arith, sum_by-cons f x xs, sum_by_at f d xs, sum_front (length xs) (λ i. f (get_or (x ∷ xs) i d)))
