-- Counted numbers: what holds of all of them or of some, and the least that passes a test. Assumes nothing.
use Rattle.std.proofs.Common.{◌≡◌, ℕ, zero, suc, ◌+◌, ◌<◌, ◌≤◌, Bool, true, false, ◌⊎◌, refl, inl, inr, arith}
use Rattle.std.specs.List.{range_with_len, AllByRecursion as All, list_all, list_any}
use Rattle.std.proofs.lemmas.Bool.{both_ways, cases_Bool, cases_eq}
use Rattle.model.proofs.Tests.{all_true, each_true}
use Rattle.theory.specs.Lists.{AnyByRecursion as Any}
use Rattle.theory.proofs.Tests.{any_false, any_true, some_true}
use Rattle.theory.proofs.Elements.{some_of_all}

module _ (P : ℕ → Type 0) where
  pub all_range : (a n : ℕ) → ((u : ℕ) → a ≤ u → u < a + n → P u) → All P (range_with_len a n)
  all_range a zero h = tt
  all_range a (suc n) h = (h a (omega arith) (omega arith), all_range (a + 1) n (λ u l k. h u (omega arith) (omega arith)))

  all_range_at : (a n : ℕ) → All P (range_with_len a n) → (u : ℕ) → a ≤ u → u < a + n → P u
  all_range_at a zero h u l k = absurd (omega arith)
  all_range_at a (suc n) h u l k = grind (arith, all_range_at (a + 1) n h.1)

  pub some_range : (a n u : ℕ) → a ≤ u → u < a + n → P u → Any P (range_with_len a n)
  some_range a zero u l k h = absurd (omega arith)
  some_range a (suc n) u l k h = grind (arith, some_range (a + 1) n u)

-- tests of the numbers below n
module _ (p : ℕ → Bool) where
  pub all_below : (n : ℕ) → ((u : ℕ) → u < n → p u ≡ true) → list_all p (range_with_len 0 n) ≡ true
  all_below n h = all_true p (range_with_len 0 n) (all_range _ 0 n (λ u l k. h u (omega arith)))

  pub each_below : (n : ℕ) → list_all p (range_with_len 0 n) ≡ true → (u : ℕ) → u < n → p u ≡ true
  each_below n h u l = all_range_at _ 0 n (each_true p (range_with_len 0 n) h) u (omega arith) (omega arith)

  pub any_below : (n u : ℕ) → u < n → p u ≡ true → list_any p (range_with_len 0 n) ≡ true
  any_below n u l h = any_true p (range_with_len 0 n) (some_range _ 0 n u (omega arith) (omega arith) h)

  pub some_below : (n : ℕ) → list_any p (range_with_len 0 n) ≡ true → (u : ℕ) × (u < n) × (p u ≡ true)
  some_below n h =
      some_of_all _ _ (range_with_len 0 n) (all_range (λ u. u < n) 0 n (λ u l k. omega arith)) (some_true p (range_with_len 0 n) h)

  pub none_below : (n : ℕ) → ((u : ℕ) → u < n → p u ≡ false) → list_any p (range_with_len 0 n) ≡ false
  none_below n h = any_false p (range_with_len 0 n) (all_range _ 0 n (λ u l k. h u (omega arith)))

-- the least number that passes
pub least_exists : (p : ℕ → Bool) (s : ℕ) → p s ≡ true → (r : ℕ) × (p r ≡ true) × (list_any p (range_with_len 0 r) ≡ false)
least_exists p s h = elim (from (suc s)) [ inl k ↦ k | inr none ↦ absurd (both_ways _ none (any_below p (suc s) s (omega arith) h)) ]
  where
    from : (n : ℕ) → ((r : ℕ) × (p r ≡ true) × (list_any p (range_with_len 0 r) ≡ false)) ⊎ (list_any p (range_with_len 0 n) ≡ false)
    from zero = inr refl
    from (suc n) =
        elim (from n) [
          | inl k ↦ inl k
          | inr none ↦ elim (cases_Bool (p n)) [
            | inl here ↦ inl (n, here, none)
            | inr past ↦ inr (none_below p (suc n) (λ u l. grind (arith, cases_eq u n, cases_Bool (p u), any_below p n u)))
          ]
        ]
