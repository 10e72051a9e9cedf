-- The levels hold the stages: which pairs the rounds leave together, and when each other pair was parted. Assumes nothing.
use Rattle.std.proofs.Common.{◌≡◌, ℕ, zero, suc, ◌+◌, ◌<◌, ◌≤◌, true, false, cond, not, ◌&&◌, ◌⊎◌, subst, inl, inr, arith}
use Rattle.std.proofs.lemmas.Bool.Decides.{nat_tests}
use Rattle.std.proofs.lemmas.Bool.{cases_Bool, cases_lt, cases_order}
use Rattle.model.specs.Model.{Model, count, lawful}
use Rattle.theory.specs.Stages.{before, levels, met, stage, unparted}
use Rattle.theory.specs.Laws.{LevelsExact}
use Rattle.theory.proofs.Tables.{tabled_cases, tabled_in}
use Rattle.theory.proofs.Meeting.{met_same}
use Rattle.theory.proofs.Stages.{stage_equivalence, stage_inside, stage_met, stage_shrinks, stage_up}

-- after r rounds a pair stands together, or round j + 1 parted it
pub data Level (m : Model) (r s t : ℕ) : Type 0 where
  Together : levels m r s t ≡ 0 → stage m r s t ≡ true → Level m r s t
  Parted : (j : ℕ) → levels m r s t ≡ suc j → j < r → stage m j s t ≡ true → stage m (suc j) s t ≡ false → Level m r s t

-- the level that round r + 1 gives to a pair
abbrev next_level : Model → ℕ → ℕ → ℕ → ℕ
next_level m r s t = cond (unparted (levels m r) s t && not (met m (unparted (levels m r)) s t)) (r + 1) (levels m r s t)

module _ (m : Model) (law : lawful m ≡ true) where
  abbrev Known : ℕ → Type 0
  Known r = (s t : ℕ) → s < count m → t < count m → Level m r s t

  lost_stays_lost : (j k s t : ℕ) → j ≤ k → stage m j s t ≡ false → stage m k s t ≡ false
  lost_stays_lost j k s t le h = grind (arith, stage_shrinks m law j k s t)

  unparted_is : (r : ℕ) → Known r → (s t : ℕ) → s < count m → t < count m → unparted (levels m r) s t ≡ stage m r s t
  unparted_is r known s t ls lt =
      elim (known s t ls lt) [
        | Together zero_level here ↦ grind (arith, nat_tests)
        | Parted j e low here past ↦ grind (arith, nat_tests, lost_stays_lost (suc j) r s t)
      ]

  level_next : (r : ℕ) → Known r → Known (suc r)
  level_next r known s t ls lt =
      let is : levels m (suc r) s t ≡ next_level m r s t = tabled_in m 0 (next_level m r) s t ls lt in
      let same : met m (unparted (levels m r)) s t ≡ met m (stage m r) s t =
      met_same m law (unparted (levels m r)) (stage m r) (unparted_is r known) s t in
      elim (known s t ls lt) [
        | Together e here ↦ elim (cases_Bool (met m (stage m r) s t)) [
          | inl meets ↦ Together (grind (arith, nat_tests)) (stage_up m law r s t here meets)
          | inr fails ↦ Parted r (grind (arith, nat_tests)) (omega arith) here (grind (arith, stage_met m law r s t))
        ]
        | Parted j e low here past ↦ Parted j (grind (arith, nat_tests)) (omega arith) here past
      ]

  pub level_is : (r s t : ℕ) → s < count m → t < count m → Level m r s t
  level_is zero s t ls lt = Together (tabled_in m 0 (λ u v. 0) s t ls lt) (tabled_in m false (λ u v. true) s t ls lt)
  level_is (suc r) s t ls lt = level_next r (level_is r) s t ls lt

  pub unparted_is_stage : (r s t : ℕ) → s < count m → t < count m → unparted (levels m r) s t ≡ stage m r s t
  unparted_is_stage r = unparted_is r (level_is r)

  pub stage_from_zero : (r s t : ℕ) → s < count m → t < count m → levels m r s t ≡ 0 → stage m r s t ≡ true
  stage_from_zero r s t ls lt e = grind (arith, nat_tests, unparted_is_stage r s t)

  pub zero_from_stage : (r s t : ℕ) → stage m r s t ≡ true → levels m r s t ≡ 0
  zero_from_stage r s t h = grind (arith, nat_tests, unparted_is_stage r s t, stage_inside m law r s t h)

  pub before_is_stage : (r k s t : ℕ) → k ≤ r → s < count m → t < count m → before (levels m r) (suc k) s t ≡ stage m k s t
  before_is_stage r k s t le ls lt =
      elim (level_is r s t ls lt) [
        | Together e here ↦ grind (arith, nat_tests, stage_shrinks m law k r s t)
        | Parted j e low here past ↦ grind (arith, nat_tests, cases_lt j k, lost_stays_lost (suc j) k s t, stage_shrinks m law k j s t)
      ]

  -- the level of a parted pair says where the stages lost it, and the stages say the level
  pub parted_at : (r s t d : ℕ) → s < count m → t < count m
      → levels m r s t ≡ suc d → (d < r) × (stage m d s t ≡ true) × (stage m (suc d) s t ≡ false)
  parted_at r s t d ls lt h =
      elim (level_is r s t ls lt) [
        | Together e here ↦ absurd (omega arith)
        | Parted j e low here past ↦
            let same : j ≡ d = omega arith in
            subst (λ i. (i < r) × (stage m i s t ≡ true) × (stage m (suc i) s t ≡ false)) same (low, here, past)
      ]

  pub level_from : (r s t d : ℕ) → d < r → stage m d s t ≡ true → stage m (suc d) s t ≡ false → levels m r s t ≡ suc d
  level_from r s t d low here past =
      let l = stage_inside m law d s t here in
      elim (level_is r s t l.0 l.1) [
        | Together e here' ↦ grind (arith, lost_stays_lost (suc d) r s t)
        | Parted j e low' here' past' ↦ grind (arith, cases_order j d, lost_stays_lost (suc j) d s t, lost_stays_lost (suc d) j s t)
      ]

  pub level_stays : (r q s t d : ℕ) → s < count m → t < count m → r ≤ q → levels m r s t ≡ suc d → levels m q s t ≡ suc d
  level_stays r q s t d ls lt le h =
      let x = parted_at r s t d ls lt h in
      let low = x.0 in
      level_from q s t d (omega arith) x.1 x.2

  -- outside the states all levels are 0
  level_cases : (r s t : ℕ) → ((s < count m) × (t < count m)) ⊎ (levels m r s t ≡ 0)
  level_cases zero s t = tabled_cases m 0 (λ u v. 0) s t
  level_cases (suc r) s t = tabled_cases m 0 (next_level m r) s t

  pub level_le : (r s t : ℕ) → levels m r s t ≤ r
  level_le r s t =
      elim (level_cases r s t) [
        | inl l ↦ elim (level_is r s t l.0 l.1) [ Together e here ↦ omega arith | Parted j e low here past ↦ omega arith ]
        | inr e ↦ omega arith
      ]

  pub level_inside : (r s t : ℕ) → 0 < levels m r s t → (s < count m) × (t < count m)
  level_inside r s t h = grind (arith, level_cases r s t)

  pub level_itself : (r s : ℕ) → levels m r s s ≡ 0
  level_itself r s = grind (arith, level_cases r s s, zero_from_stage r s s, (stage_equivalence m law r).itself s)

  mirror_inside : (r s t : ℕ) → s < count m → t < count m → levels m r s t ≡ levels m r t s
  mirror_inside r s t ls lt =
      let back : (k u v : ℕ) → stage m k u v ≡ true → stage m k v u ≡ true = λ k. (stage_equivalence m law k).mirror in
      elim (level_is r s t ls lt) [
        | Together e here ↦ grind (arith, zero_from_stage r t s, back r s t)
        | Parted j e low here past ↦ grind (arith, back (suc j) t s, back j s t, level_from r t s j)
      ]

  pub level_mirror : (r s t : ℕ) → levels m r s t ≡ levels m r t s
  level_mirror r s t = grind (arith, level_cases r s t, level_cases r t s, mirror_inside r s t, mirror_inside r t s)

  -- a parted pair is not met under what stood together before its round
  pub level_unmet : (r s t : ℕ) → 0 < levels m r s t → met m (before (levels m r) (levels m r s t)) s t ≡ false
  level_unmet r s t pos =
      let l = level_inside r s t pos in
      elim (level_is r s t l.0 l.1) [
        | Together e here ↦ absurd (omega arith)
        | Parted j e low here past ↦
            let same = met_same m law (before (levels m r) (suc j)) (stage m j) (λ u v. before_is_stage r j u v (omega arith)) s t in
            grind (arith, stage_up m law j s t)
      ]

pub levels_exact : LevelsExact
levels_exact m law r s t ls lt = (
  unparted_is_stage m law r s t ls lt,
  λ k le. before_is_stage m law r k s t le ls lt,
  level_le m law r s t,
  λ q d le h. level_stays m law r q s t d ls lt le h,
)
