-- Met pairs: under a wider relation, of a state and itself, the other way round, through a third state. Assumes nothing.
use Rattle.std.proofs.Common.{arith, ◌≡◌, ℕ, ◌<◌, Bool, true, sym, refl, ◌∙◌, subst}
use Rattle.std.specs.List.{AllByRecursion as All, list_all, list_any}
use Rattle.std.proofs.ByRecursion.{All-weaker}
use Rattle.std.proofs.lemmas.Bool.{and_from}
use Rattle.model.specs.Model.{Model, Step, count, lawful, steps_of}
use Rattle.model.proofs.Tests.{all_true, each_true}
use Rattle.theory.specs.Lists.{AnyByRecursion as Any}
use Rattle.theory.specs.Matching.{Relation, matches}
use Rattle.theory.specs.Stages.{met}
use Rattle.theory.proofs.Tests.{any_true, same_bool, some_true}
use Rattle.theory.proofs.Elements.{all_both, all_self, some_both, some_of_all, some_weaker}
use Rattle.theory.proofs.Lawful.{SoundStep, steps_are_sound}
use Rattle.theory.proofs.Dominance.{dominates, dominates_back, dominates_itself, dominates_through, dominates_wider, matches_action, matches_from}

-- each step of s has its like at t
abbrev pub Forth : Model → (Step → Step → Type 0) → ℕ → ℕ → Type 0
Forth m P s t = All (λ a. Any (λ b. P a b) (steps_of m t)) (steps_of m s)

-- and each of t at s
abbrev pub Both : Model → (Step → Step → Type 0) → ℕ → ℕ → Type 0
Both m P s t = Forth m P s t × Forth m (λ b a. P a b) t s

abbrev pub Matching : Relation → Step → Step → Type 0
Matching R a b = matches R a b ≡ true

module _ (m : Model) where
  -- the test for all of s and some of t
  forth_from : (p : Step → Step → Bool) (s t : ℕ)
      → list_all (λ a. list_any (p a) (steps_of m t)) (steps_of m s) ≡ true → Forth m (λ a b. p a b ≡ true) s t
  forth_from p s t h = All-weaker _ _ (λ a k. some_true (p a) (steps_of m t) k) (steps_of m s) (each_true _ (steps_of m s) h)

  from_forth : (p : Step → Step → Bool) (s t : ℕ)
      → Forth m (λ a b. p a b ≡ true) s t → list_all (λ a. list_any (p a) (steps_of m t)) (steps_of m s) ≡ true
  from_forth p s t h = all_true _ (steps_of m s) (All-weaker _ _ (λ a k. any_true (p a) (steps_of m t) k) (steps_of m s) h)

  pub both_from_met : (R : Relation) (s t : ℕ) → met m R s t ≡ true → Both m (Matching R) s t
  both_from_met R s t h = (forth_from (matches R) s t (grind arith), forth_from (λ b a. matches R a b) t s (grind arith))

  pub met_from_both : (R : Relation) (s t : ℕ) → Both m (Matching R) s t → met m R s t ≡ true
  met_from_both R s t h = and_from _ _ (from_forth (matches R) s t h.0) (from_forth (λ b a. matches R a b) t s h.1)

module _ (m : Model) (law : lawful m ≡ true) where
  abbrev Sound : Step → Type 0
  Sound = SoundStep (count m)

  sound_steps : (s : ℕ) → All Sound (steps_of m s)
  sound_steps = steps_are_sound m law

  pub forth_weaker : (P Q : Step → Step → Type 0)
      → ((a b : Step) → SoundStep (count m) a → SoundStep (count m) b → P a b → Q a b) → (s t : ℕ) → Forth m P s t → Forth m Q s t
  forth_weaker P Q go s t h =
      all_both _ _ _ (λ a la k. some_both _ _ _ (λ b lb p. go a b la lb p) (steps_of m t) (sound_steps t) k) (steps_of m s) (sound_steps s) h

  forth_itself : (P : Step → Step → Type 0) → ((a : Step) → Sound a → P a a) → (s : ℕ) → Forth m P s s
  forth_itself P go s =
      all_both _ _ _ (λ a la k. some_weaker _ _ (λ b e. subst (P a) (sym e) (go a la)) (steps_of m s) k) (steps_of m s) (sound_steps s)
      (all_self (λ a b. b ≡ a) (λ a. refl) (steps_of m s))

  forth_through : (P : Step → Step → Type 0)
      → ((a b c : Step) → Sound a → Sound b → Sound c → P a b → P b c → P a c)
      → (s t u : ℕ) → Forth m P s t → Forth m P t u → Forth m P s u
  forth_through P go s t u h g =
      let next : All (λ b. Sound b × Any (λ c. P b c) (steps_of m u)) (steps_of m t) =
      all_both _ _ _ (λ b lb k. (lb, k)) (steps_of m t) (sound_steps t) g in
      all_both _ _ _ (λ a la k.
      let r = some_of_all _ _ (steps_of m t) next k in
      some_both _ _ _ (λ c lc q. go a r.0 c la r.1.0 lc r.2 q) (steps_of m u) (sound_steps u) r.1.1) (steps_of m s) (sound_steps s) h

  pub both_weaker : (P Q : Step → Step → Type 0)
      → ((a b : Step) → SoundStep (count m) a → SoundStep (count m) b → P a b → Q a b) → (s t : ℕ) → Both m P s t → Both m Q s t
  both_weaker P Q go s t h =
      (forth_weaker P Q go s t h.0, forth_weaker (λ b a. P a b) (λ b a. Q a b) (λ b a lb la p. go a b la lb p) t s h.1)

  -- what is related among the states
  abbrev Within : Relation → Relation → Type 0
  Within R S = (u v : ℕ) → u < count m → v < count m → R u v ≡ true → S u v ≡ true

  matches_wider : (R S : Relation) → Within R S → (a b : Step) → Sound a → Sound b → Matching R a b → Matching S a b
  matches_wider R S sub a b la lb p =
      matches_from S a b (count m) la (matches_action R a b p)
      (dominates_wider (count m) R S a b sub (dominates R a b (count m) la lb p))

  pub met_wider : (R S : Relation) → ((u v : ℕ) → u < count m → v < count m → R u v ≡ true → S u v ≡ true)
      → (s t : ℕ) → met m R s t ≡ true → met m S s t ≡ true
  met_wider R S sub s t h =
      met_from_both m S s t (both_weaker _ _ (matches_wider R S sub) s t (both_from_met m R s t h))

  -- relations that agree on the states meet the same pairs
  pub met_same : (R S : Relation) → ((u v : ℕ) → u < count m → v < count m → R u v ≡ S u v) → (s t : ℕ) → met m R s t ≡ met m S s t
  met_same R S same s t =
      same_bool _ _ (met_wider R S (λ u v lu lv r. sym (same u v lu lv) ∙ r) s t)
      (met_wider S R (λ u v lu lv r. same u v lu lv ∙ r) s t)

  -- under a relation that goes both ways
  module _ (R : Relation) (mirror : (u v : ℕ) → u < count m → v < count m → R u v ≡ true → R v u ≡ true) where
    pub matches_back : (a b : Step)
        → SoundStep (count m) a → SoundStep (count m) b → matches R a b ≡ true → matches R b a ≡ true
    matches_back a b la lb p =
        matches_from R b a (count m) lb (sym (matches_action R a b p))
        (dominates_back (count m) R a b mirror (dominates R a b (count m) la lb p))

    pub met_back : (s t : ℕ) → met m R s t ≡ true → met m R t s ≡ true
    met_back s t h =
        let k = both_from_met m R s t h in
        met_from_both m R t s (
          forth_weaker _ (Matching R) (λ b a lb la p. matches_back a b la lb p) t s k.1,
          forth_weaker _ (λ a b. Matching R b a) (λ a b la lb p. matches_back a b la lb p) s t k.0,
        )

  pub met_itself : (R : Relation) → ((u : ℕ) → u < count m → R u u ≡ true) → (s : ℕ) → met m R s s ≡ true
  met_itself R itself s =
      let same : (a : Step) → Sound a → Matching R a a =
      λ a la. matches_from R a a (count m) la refl (dominates_itself (count m) R a la itself) in
      met_from_both m R s s (forth_itself (Matching R) same s, forth_itself (λ b a. Matching R a b) same s)

  pub met_through : (R : Relation) → ((u v w : ℕ) → R u v ≡ true → R v w ≡ true → R u w ≡ true)
      → (s t u : ℕ) → met m R s t ≡ true → met m R t u ≡ true → met m R s u ≡ true
  met_through R join s t u h g =
      let through : (a b c : Step) → Sound a → Sound b → Sound c → Matching R a b → Matching R b c → Matching R a c =
      λ a b c la lb lc p q. matches_from R a c (count m) la (matches_action R a b p ∙ matches_action R b c q)
      (dominates_through (count m) R a b c lb.heavy join (dominates R a b (count m) la lb p) (dominates R b c (count m) lb lc q)) in
      let k = both_from_met m R s t h in
      let l = both_from_met m R t u g in
      met_from_both m R s u (
        forth_through (Matching R) through s t u k.0 l.0,
        forth_through (λ b a. Matching R a b) (λ c b a lc lb la q p. through a b c la lb lc p q) u t s l.1 k.1,
      )
