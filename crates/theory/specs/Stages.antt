-- The stages of a model, and what a comparison keeps of them: for each pair the round that parted it. Assumes nothing.
use Rattle.std.specs.Prelude.{ℕ, zero, suc, ◌+◌, ◌<◌, Bool, true, false, cond, not, ◌&&◌, ◌||◌, List, [], map, ◌==◌, nat_le, nat_lt, slice_index_or}
use Rattle.std.specs.List.{range_with_len, AllByRecursion, list_all, list_any}
use Rattle.model.specs.Model.{Model, count, steps_of}
use Rattle.theory.specs.Lists.{AnyByRecursion}
use Rattle.theory.specs.Matching.{Matches, Relation, matches}

-- A pair is met under R: each step of s matches a step of t, and each step of t is matched by a step of s.
pub record Met (m : Model) (R : ℕ → ℕ → Type 0) (s t : ℕ) : Type 0 where
  pub forth : AllByRecursion (λ a. AnyByRecursion (λ b. Matches R a b) (steps_of m t)) (steps_of m s)
  pub back : AllByRecursion (λ b. AnyByRecursion (λ a. Matches R a b) (steps_of m s)) (steps_of m t)

-- A set of pairs of the model's states that meets all its pairs.
pub record Bisimulation (m : Model) (R : ℕ → ℕ → Type 0) : Type 0 where
  pub inside : (s t : ℕ) → R s t → (s < count m) × (t < count m)
  pub met : (s t : ℕ) → R s t → Met m R s t

-- the test for a met pair
abbrev pub met : Model → Relation → ℕ → ℕ → Bool
met m R s t =
    list_all (λ a. list_any (λ b. matches R a b) (steps_of m t)) (steps_of m s)
    && list_all (λ b. list_any (λ a. matches R a b) (steps_of m s)) (steps_of m t)

abbrev pub states : Model → List ℕ
states m = range_with_len 0 (count m)

-- A table, read as a function, with d past its end.
abbrev pub read : {X : Type 0} → X → List (List X) → ℕ → ℕ → X
read d rows s t = slice_index_or (slice_index_or rows s []) t d

-- A function on the model's states as it is read from its table: so that each stage is computed once.
abbrev pub tabled : {X : Type 0} → Model → X → (ℕ → ℕ → X) → ℕ → ℕ → X
tabled m d f = read d (map (λ s. map (f s) (states m)) (states m))

-- the pairs of R that are met under R
abbrev pub narrowed : Model → Relation → Relation
narrowed m R = tabled m false (λ s t. R s t && met m R s t)

-- the pairs of the model's states that the first k rounds leave together
abbrev pub stage : Model → ℕ → Relation
stage m zero = tabled m false (λ s t. true)
stage m (suc k) = narrowed m (stage m k)

-- The round that parted each pair, 0 where none did.
abbrev pub Levels : Type 0
Levels = ℕ → ℕ → ℕ

-- the pairs that no round parted
abbrev pub unparted : Levels → Relation
unparted L s t = L s t == 0

-- the pairs unparted before round d
abbrev pub before : Levels → ℕ → Relation
before L d s t = (L s t == 0) || nat_le d (L s t)

-- The levels after one round more: round r + 1 parts the pairs that stood together and are not met.
abbrev pub refined : Model → ℕ → Levels → Levels
refined m r L = tabled m 0 (λ s t. cond (unparted L s t && not (met m (unparted L) s t)) (r + 1) (L s t))

-- the levels after r rounds
abbrev pub levels : Model → ℕ → Levels
levels m zero = tabled m 0 (λ s t. 0)
levels m (suc r) = refined m r (levels m r)

-- At least one of r rounds was made, and the last one parted nothing.
abbrev pub settled : Model → ℕ → Levels → Bool
settled m r L = nat_lt 0 r && list_all (λ s. list_all (λ t. not (L s t == r)) (states m)) (states m)
