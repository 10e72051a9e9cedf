-- Each stage of a lawful model is an equivalence on the states, inside the one before. Assumes nothing.
use Rattle.std.proofs.Common.{◌≡◌, ℕ, zero, suc, ◌<◌, ◌≤◌, true, false, ◌&&◌, ◌∙◌, arith}
use Rattle.std.proofs.lemmas.Bool.{and_from, and_parts, cases_eq}
use Rattle.model.specs.Model.{Model, count, lawful}
use Rattle.theory.specs.Matching.{Relation}
use Rattle.theory.specs.Stages.{met, narrowed, stage}
use Rattle.theory.specs.Laws.{StagesExact}
use Rattle.theory.proofs.Tables.{tabled_in, tabled_true}
use Rattle.theory.proofs.Meeting.{met_back, met_itself, met_through, met_wider}

-- an equivalence on the states of a model
pub record Equivalence (m : Model) (R : Relation) : Type 0 where
  pub inside : (s t : ℕ) → R s t ≡ true → (s < count m) × (t < count m)
  pub itself : (s : ℕ) → s < count m → R s s ≡ true
  pub mirror : (s t : ℕ) → R s t ≡ true → R t s ≡ true
  pub through : (s t u : ℕ) → R s t ≡ true → R t u ≡ true → R s u ≡ true

-- round k + 1 parts nothing
abbrev pub Stable : Model → ℕ → Type 0
Stable m k = (s t : ℕ) → stage m k s t ≡ true → stage m (suc k) s t ≡ true

-- the pairs that the next stage keeps
module _ (m : Model) (R : Relation) (s t : ℕ) where
  narrowed_parts : narrowed m R s t ≡ true → (R s t ≡ true) × (met m R s t ≡ true)
  narrowed_parts h = and_parts (R s t) (met m R s t) (tabled_true m (λ u v. R u v && met m R u v) s t h).2

  narrowed_from : s < count m → t < count m → R s t ≡ true → met m R s t ≡ true → narrowed m R s t ≡ true
  narrowed_from ls lt r k = tabled_in m false (λ u v. R u v && met m R u v) s t ls lt ∙ and_from (R s t) (met m R s t) r k

module _ (m : Model) (law : lawful m ≡ true) where
  narrowed_equivalence : (R : Relation) → Equivalence m R → Equivalence m (narrowed m R)
  narrowed_equivalence R eq =
      let parts = narrowed_parts m R in
      record {
        inside = λ s t h. eq.inside s t (parts s t h).0;
        itself = λ s l. narrowed_from m R s s l l (eq.itself s l) (met_itself m law R eq.itself s);
        mirror = λ s t h.
            let back = met_back m law R (λ u v lu lv. eq.mirror u v) s t in
            grind (arith, parts s t, eq.inside s t, eq.mirror s t, back, narrowed_from m R t s);
        through = λ s t u h g.
            let meets = met_through m law R eq.through s t u in
            let join = eq.through s t u in
            grind (arith, parts s t, parts t u, eq.inside s t, eq.inside t u, join, meets, narrowed_from m R s u);
      }

  stage_first : Equivalence m (stage m 0)
  stage_first =
      let all_in : (s t : ℕ) → s < count m → t < count m → stage m 0 s t ≡ true = tabled_in m false (λ s t. true) in
      let in_all : (s t : ℕ) → stage m 0 s t ≡ true → (s < count m) × (t < count m) =
      λ s t h. let k = tabled_true m (λ s t. true) s t h in (k.0, k.1) in
      record {
        inside = in_all;
        itself = λ s l. all_in s s l l;
        mirror = λ s t h. grind (arith, in_all s t, all_in t s);
        through = λ s t u h g. grind (arith, in_all s t, in_all t u, all_in s u);
      }

  pub stage_equivalence : (k : ℕ) → Equivalence m (stage m k)
  stage_equivalence zero = stage_first
  stage_equivalence (suc k) = narrowed_equivalence (stage m k) (stage_equivalence k)

  pub stage_inside : (k s t : ℕ) → stage m k s t ≡ true → (s < count m) × (t < count m)
  stage_inside k = (stage_equivalence k).inside

  pub stage_down : (k s t : ℕ) → stage m (suc k) s t ≡ true → stage m k s t ≡ true
  stage_down k s t h = (narrowed_parts m (stage m k) s t h).0

  pub stage_met : (k s t : ℕ) → stage m (suc k) s t ≡ true → met m (stage m k) s t ≡ true
  stage_met k s t h = (narrowed_parts m (stage m k) s t h).1

  pub stage_up : (k s t : ℕ) → stage m k s t ≡ true → met m (stage m k) s t ≡ true → stage m (suc k) s t ≡ true
  stage_up k s t h g = let l = stage_inside k s t h in narrowed_from m (stage m k) s t l.0 l.1 h g

  pub stage_shrinks : (j k s t : ℕ) → j ≤ k → stage m k s t ≡ true → stage m j s t ≡ true
  stage_shrinks j zero s t l h = grind arith
  stage_shrinks j (suc k) s t l h = grind (arith, cases_eq (suc k) j, stage_shrinks j k s t, stage_down k s t)

  -- a round that parts nothing is followed by such rounds
  pub stable_next : (k : ℕ) → Stable m k → Stable m (suc k)
  stable_next k h s t e =
      stage_up (suc k) s t e (met_wider m law (stage m k) (stage m (suc k)) (λ u v lu lv. h u v) s t (stage_met k s t e))

pub stages_exact : StagesExact
stages_exact m law k =
    let eq = stage_equivalence m law k in
    (eq.inside, eq.itself, eq.mirror, eq.through, λ j s t le h. stage_shrinks m law j k s t le h)
