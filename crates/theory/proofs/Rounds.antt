-- There are at most as many rounds as states: each round that parts something makes a new leader. Assumes nothing.
use Rattle.std.proofs.Common.{◌≡◌, ℕ, zero, suc, ◌+◌, ◌<◌, ◌≤◌, Bool, true, false, not, ◌&&◌, ◌⊎◌, count_by, refl, inl, inr, arith}
use Rattle.std.specs.List.{range_with_len, list_any}
use Rattle.std.proofs.lemmas.List.FromFn.{length-range_with_len}
use Rattle.std.proofs.lemmas.List.Sums.{count_by-le-length}
use Rattle.std.proofs.lemmas.Bool.{cases_Bool, cases_order, false≢true}
use Rattle.model.specs.Model.{Model, count, lawful}
use Rattle.theory.specs.Matching.{Relation}
use Rattle.theory.specs.Stages.{stage, states}
use Rattle.theory.specs.Laws.{RoundsBounded}
use Rattle.theory.proofs.Tests.{all_always}
use Rattle.theory.proofs.Counting.{any_below, least_exists, none_below, some_below, some_range}
use Rattle.theory.proofs.Sums.{count_by_lt}
use Rattle.theory.proofs.Stages.{Equivalence, Stable, stable_next, stage_down, stage_equivalence, stage_inside}
use Rattle.theory.proofs.Settled.{settled_from_stable}

-- a state that stands to no smaller one leads
abbrev leads : Relation → ℕ → Bool
leads R s = not (list_any (λ u. R u s) (range_with_len 0 s))

leads_not : (R : Relation) (u s : ℕ) → u < s → R u s ≡ true → leads R s ≡ false
leads_not R u s l h = grind (arith, any_below (λ v. R v s) s u)

leads_narrower : (R S : Relation) → ((u v : ℕ) → S u v ≡ true → R u v ≡ true) → (s : ℕ) → leads R s ≡ true → leads S s ≡ true
leads_narrower R S sub s h =
    grind (arith, some_below (λ u. S u s) s, leads_not R, sub)

module _ (m : Model) where
  leader_exists : (R : Relation) → Equivalence m R → (s : ℕ) → s < count m → (r : ℕ) × (R r s ≡ true) × (leads R r ≡ true)
  leader_exists R eq s ls =
      let x = least_exists (λ u. R u s) s (eq.itself s ls) in
      let none : (u : ℕ) → u < x.0 → R u x.0 ≡ false =
      λ u l. grind (arith, cases_Bool (R u x.0), any_below (λ u. R u s) x.0 u, eq.through u x.0 s) in
      (x.0, x.1, grind (arith, none_below _ x.0 none))

  -- where S parts a pair of R, a state leads in S that did not in R
  module _ (R S : Relation) (eR : Equivalence m R) (eS : Equivalence m S) (sub : (u v : ℕ) → S u v ≡ true → R u v ≡ true) where
    new_leader_exists : (s t : ℕ) → R s t ≡ true → S s t ≡ false → (u : ℕ) × (u < count m) × ((leads R u ≡ false) × (leads S u ≡ true))
    new_leader_exists s t h lost =
        let l = eR.inside s t h in
        let a = leader_exists S eS s l.0 in
        let b = leader_exists S eS t l.1 in
        let at : R a.0 t ≡ true = eR.through a.0 s t (sub a.0 s a.1) h in
        let ab : R a.0 b.0 ≡ true = eR.through a.0 t b.0 at (eR.mirror b.0 t (sub b.0 t b.1)) in
        elim (cases_order a.0 b.0) [
          | inl e ↦ grind (arith, eS.mirror a.0 s, eS.through s a.0 t)
          | inr (inl lt) ↦ (b.0, (eS.inside b.0 t b.1).0, (leads_not R a.0 b.0 lt ab, b.2))
          | inr (inr gt) ↦ (a.0, (eS.inside a.0 s a.1).0, (leads_not R b.0 a.0 gt (eR.mirror a.0 b.0 ab), a.2))
        ]

  abbrev leaders : Relation → ℕ
  leaders R = count_by (leads R) (states m)

  leaders_le : (R : Relation) → leaders R ≤ count m
  leaders_le R = omega (arith, count_by-le-length (leads R) (states m), length-range_with_len 0 (count m))

  leaders_more : (R S : Relation) → Equivalence m R → Equivalence m S → ((u v : ℕ) → S u v ≡ true → R u v ≡ true)
      → (s t : ℕ) → R s t ≡ true → S s t ≡ false → leaders R < leaders S
  leaders_more R S eR eS sub s t h lost =
      let x = new_leader_exists R S eR eS sub s t h lost in
      let top = x.1 in
      count_by_lt (leads R) (leads S) (states m) (all_always _ (leads_narrower R S sub) (states m))
      (some_range _ 0 (count m) x.0 (omega arith) (omega arith) x.2)

  -- state 0 leads
  leaders_some : (R : Relation) → 0 < count m → 0 < leaders R
  leaders_some R pos =
      let k : count_by (λ (u : ℕ). false) (states m) < leaders R =
      count_by_lt _ (leads R) (states m) (all_always _ (λ u e. absurd (false≢true e)) (states m))
      (some_range _ 0 (count m) 0 (omega arith) (omega arith) (refl, refl)) in
      omega arith

module _ (m : Model) (law : lawful m ≡ true) where
  -- a round parts nothing, or it parts a pair
  stable_or_parts : (k : ℕ) → Stable m k ⊎ ((s : ℕ) × (t : ℕ) × (stage m k s t ≡ true) × (stage m (suc k) s t ≡ false))
  stable_or_parts k =
      let lost : ℕ → ℕ → Bool = λ s t. stage m k s t && not (stage m (suc k) s t) in
      let loses : ℕ → Bool = λ s. list_any (lost s) (states m) in
      elim (cases_Bool (list_any loses (states m))) [
        | inl some ↦
            let x = some_below loses (count m) some in
            let y = some_below (lost x.0) (count m) x.2 in
            inr (x.0, y.0, grind arith, grind arith)
        | inr none ↦ inl (λ s t h.
            let l = stage_inside m law k s t h in
            grind (arith, any_below loses (count m) s l.0, any_below (lost s) (count m) t l.1))
      ]

  stable_or_more : (k : ℕ) → Stable m k ⊎ (leaders m (stage m k) < leaders m (stage m (suc k)))
  stable_or_more k =
      elim (stable_or_parts k) [
        | inl stable ↦ inl stable
        | inr x ↦
            let eq = stage_equivalence m law in
            inr (leaders_more m (stage m k) (stage m (suc k)) (eq k) (eq (suc k)) (stage_down m law k) x.0 x.1 x.2 x.3)
      ]

  stable_or_many : 0 < count m → (k : ℕ) → Stable m k ⊎ (k + 2 ≤ leaders m (stage m (suc k)))
  stable_or_many pos zero =
      elim (stable_or_more 0) [ inl stable ↦ inl stable | inr more ↦ inr (omega (arith, leaders_some m (stage m 0) pos)) ]
  stable_or_many pos (suc k) =
      elim (stable_or_many pos k) [
        | inl stable ↦ inl (stable_next m law k stable)
        | inr many ↦ elim (stable_or_more (suc k)) [ inl stable ↦ inl stable | inr more ↦ inr (omega arith) ]
      ]

pub rounds_bounded : RoundsBounded
rounds_bounded m law pos zero le = absurd (omega arith)
rounds_bounded m law pos (suc q) le =
    elim (stable_or_many m law pos q) [
      | inl stable ↦ settled_from_stable m law q stable
      | inr many ↦ absurd (omega (arith, leaders_le m (stage m (suc q))))
    ]
