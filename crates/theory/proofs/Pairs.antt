-- Pairs of states, and the laws of the levels from which a sentence is made. Assumes nothing.
use Rattle.std.proofs.Common.{◌≡◌, ℕ, ◌<◌, ◌≤◌, true, false, ◌⊎◌, ap, arith}
use Rattle.std.proofs.lemmas.Bool.Decides.{nat_tests}
use Rattle.model.specs.Model.{Model, count, lawful}
use Rattle.theory.specs.Stages.{Levels, before, levels, met}
use Rattle.theory.specs.Telling.{Pair, level_of, pair, same_pair}
use Rattle.theory.proofs.Levels.{level_inside, level_itself, level_le, level_mirror, level_unmet}

pub pair_path : (p q : Pair) → p.small ≡ q.small → p.large ≡ q.large → p ≡ q
pair_path p q e f = λ i. record { small = e i; large = f i }

pub same_pair_true : (p q : Pair) → same_pair p q ≡ true → p ≡ q
same_pair_true p q h = pair_path p q (grind (arith, nat_tests)) (grind (arith, nat_tests))

pub same_pair_from : (p q : Pair) → p ≡ q → same_pair p q ≡ true
same_pair_from p q h = grind (arith, nat_tests)

-- one pair, written in two ways
pub pair_cases : (h o u v : ℕ) → pair h o ≡ pair u v → ((h ≡ u) × (v ≡ o)) ⊎ ((h ≡ u → ⊥) × (u ≡ o) × (v ≡ h))
pair_cases h o u v e = grind (arith, ap (λ x. x.small) e, ap (λ x. x.large) e)

-- What the sentence is made from: levels with these laws.
pub record Sound (m : Model) (r : ℕ) (L : Levels) : Type 0 where
  pub mirror : (u v : ℕ) → L u v ≡ L v u
  pub itself : (u : ℕ) → L u u ≡ 0
  pub bounded : (u v : ℕ) → L u v ≤ r
  pub inside : (u v : ℕ) → 0 < L u v → (u < count m) × (v < count m)
  pub unmet : (u v : ℕ) → 0 < L u v → met m (before L (L u v)) u v ≡ false

-- a pair of two states, parted in some round
pub record Proper (L : Levels) (q : Pair) : Type 0 where
  pub two : q.small < q.large
  pub parted : 0 < level_of L q

pub level_of_pair : {m : Model} {r : ℕ} (L : Levels) → Sound m r L → (u v : ℕ) → level_of L (pair u v) ≡ L u v
level_of_pair L sound u v = grind (arith, sound.mirror u v)

-- parted before round d
pub before_false : (L : Levels) (d u v : ℕ) → before L d u v ≡ false → (0 < L u v) × (L u v < d)
before_false L d u v h = (grind (arith, nat_tests), grind (arith, nat_tests))

pub proper_pair : {m : Model} {r : ℕ} (L : Levels) → Sound m r L → (u v : ℕ) → 0 < L u v → Proper L (pair u v)
proper_pair L sound u v h =
    let differ : u ≡ v → ⊥ = λ e. grind (arith, sound.itself u) in
    record { two = omega arith; parted = omega (arith, level_of_pair L sound u v) }

pub levels_sound : (m : Model) → lawful m ≡ true → (r : ℕ) → Sound m r (levels m r)
levels_sound m law r =
    record {
      mirror = level_mirror m law r;
      itself = level_itself m law r;
      bounded = level_le m law r;
      inside = level_inside m law r;
      unmet = level_unmet m law r;
    }
