-- In a pair that is not met, one state has a step that matches no step of the other. Assumes nothing.
use Rattle.std.proofs.Common.{◌≡◌, ℕ, ◌<◌, ◌≤◌, Bool, true, false, not, ◌⊎◌, length, get_or, refl, inl, inr, arith}
use Rattle.std.specs.List.{AllByRecursion as All, list_any}
use Rattle.std.proofs.ByRecursion.{All-weaker}
use Rattle.std.proofs.lemmas.Bool.{both_ways, le-ltb, lt-ltb, not-false, not-true}
use Rattle.model.specs.Model.{Model, Step, count, lawful, steps_of, no_step}
use Rattle.theory.specs.Lists.{AnyByRecursion as Any}
use Rattle.theory.specs.Matching.{Relation, matches}
use Rattle.theory.specs.Stages.{met}
use Rattle.theory.specs.Telling.{Pair, move, mover, other, pair, small_moves, unmatched}
use Rattle.theory.proofs.Tests.{each_false, some_true}
use Rattle.theory.proofs.Elements.{first_cases, some_get_or}
use Rattle.theory.proofs.Meeting.{Forth, Matching, forth_weaker, matches_back, met_from_both}
use Rattle.theory.proofs.Pairs.{pair_path}

-- a is a step of h that matches no step of o
pub record Alone (m : Model) (R : Relation) (h o : ℕ) (a : Step) : Type 0 where
  pub moves : Any (λ b. b ≡ a) (steps_of m h)
  pub unmatched : All (λ b. matches R a b ≡ false) (steps_of m o)

module _ (m : Model) (R : Relation) (h o : ℕ) where
  -- the first such step stands at its place, or there is none
  alone_cases : ((unmatched m R h o < length (steps_of m h)) × Alone m R h o (get_or (steps_of m h) (unmatched m R h o) no_step))
      ⊎ ((length (steps_of m h) ≤ unmatched m R h o) × Forth m (Matching R) h o)
  alone_cases =
      let none : Step → Bool = λ a. not (list_any (λ b. matches R a b) (steps_of m o)) in
      elim (first_cases none no_step (steps_of m h)) [
        | inl k ↦ inl (
          k.0,
          record {
            moves = some_get_or _ no_step (steps_of m h) (unmatched m R h o) k.0 refl;
            unmatched = each_false _ (steps_of m o) (not-true _ k.1);
          },
        )
        | inr k ↦ inr (k.0, All-weaker _ _ (λ a e. some_true _ (steps_of m o) (not-false _ e)) (steps_of m h) k.1)
      ]

-- the mover of a pair has a step that matches none of the other's
pub record Mover (m : Model) (R : Relation) (q : Pair) : Type 0 where
  pub between : q ≡ pair (mover m R q) (other m R q)
  pub alone : Alone m R (mover m R q) (other m R q) (move m R q)

pub mover_is_alone : (m : Model) → lawful m ≡ true → (R : Relation)
    → ((u v : ℕ) → u < count m → v < count m → R u v ≡ true → R v u ≡ true)
    → (q : Pair) → q.small < q.large → met m R q.small q.large ≡ false → Mover m R q
mover_is_alone m law R mirror q differ unmet =
    let s : ℕ = q.small in
    let l : ℕ = q.large in
    elim (alone_cases m R s l) [
      | inl k ↦
          let e : small_moves m R q ≡ true = lt-ltb _ _ k.0 in
          record { between = rw e (pair_path q (pair s l) (omega arith) (omega arith)); alone = rw e k.1 }
      | inr k ↦
          let e : small_moves m R q ≡ false = le-ltb _ _ k.0 in
          elim (alone_cases m R l s) [
            | inl k' ↦ record { between = rw e (pair_path q (pair l s) (omega arith) (omega arith)); alone = rw e k'.1 }
            | inr k' ↦
                let back : Forth m (λ b a. Matching R a b) l s =
                forth_weaker m law _ _ (λ b a fb fa p. matches_back m law R mirror b a fb fa p) l s k'.1 in
                absurd (both_ways _ unmet (met_from_both m R s l (k.1, back)))
          ]
    ]
