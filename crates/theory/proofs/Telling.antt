-- The sentence for a parted pair tells its states apart, at the pair's level, and none does at less. Assumes nothing.
use Rattle.std.proofs.Common.{◌≡◌, ℕ, ◌+◌, ◌-◌, ◌<◌, ◌≤◌, true, ◌⊎◌, List, [], ◌∷◌, ◌++◌, length, sym, refl, inl, inr, arith}
use Rattle.std.specs.List.{AllByRecursion as All}
use Rattle.std.proofs.ByRecursion.{All-weaker}
use Rattle.std.proofs.lemmas.List.{length_push}
use Rattle.std.proofs.lemmas.Bool.{and_from, lt-ltb}
use Rattle.model.specs.Model.{Model, lawful}
use Rattle.theory.specs.Lists.{AnyByRecursion as Any}
use Rattle.theory.specs.Stages.{Levels, levels}
use Rattle.theory.specs.Sentences.{all_of, Line, depth}
use Rattle.theory.specs.Telling.{Pair, Place, Written, level_of, line_for, mover, needed, pair, pair_lines, refers, sentence, until, written}
use Rattle.theory.specs.Laws.{PartedExact, Tells}
use Rattle.theory.proofs.Agreement.{none_shallower}
use Rattle.theory.proofs.Saying.{Formed, Says, says_at, says_deeper}
use Rattle.theory.proofs.Texts.{well_formed_push}
use Rattle.theory.proofs.Lines.{Only, Pushed, push_all}
use Rattle.theory.proofs.Pairs.{Proper, Sound, level_of_pair, levels_sound}
use Rattle.theory.proofs.Places.{HasPlace, Placed, line_says, pair_placed, placed_grown}
use Rattle.theory.proofs.Needed.{Member, Ordered, needed_has, needed_ordered, needed_proper}

-- a text so far, with the places of its pairs
record WellWritten (m : Model) (L : Levels) (w : Written) : Type 0 where
  formed : Formed w.lines
  placed : All (Placed m L w.lines) w.places

module _ (m : Model) (r : ℕ) (L : Levels) (sound : Sound m r L) (law : lawful m ≡ true) where
  well_written : (qs : List Pair) (P : Pair → Type 0) (places : List Place) (ls : List Line)
      → All (Proper L) qs → Ordered m L P qs → ((p : Pair) → P p → HasPlace places p) → Formed ls → All (Placed m L ls) places
      → WellWritten m L (written m L places ls qs)
      × ((p : Pair) → HasPlace places p ⊎ Member p qs → HasPlace (written m L places ls qs).places p)
  well_written [] P places ls pr ord has formed placed = (record { formed = formed; placed = placed }, λ p h. grind arith)
  well_written (q ∷ qs) P places ls pr ord has formed placed =
      let new : List Line = pair_lines m L places (length ls) q in
      let place : Place = record { of = q; number = length ls + length new - 1; holds_in = mover m (until L q) q } in
      let refs : All (HasPlace places) (refers m (until L q) q) = All-weaker _ _ has _ ord.0 in
      let one = pair_placed m r L sound law places ls formed placed q pr.0 refs new refl in
      let grown : All (Placed m L (ls ++ new)) places = All-weaker _ _ (λ x k. placed_grown new k) places placed in
      let rest =
      well_written qs (λ p. P p ⊎ (q ≡ p)) (place ∷ places) (ls ++ new) pr.1 ord.1
      (λ p k. elim k [ inl x ↦ inr (has p x) | inr x ↦ inl x ]) one.0 (one.1, grown) in
      (rest.0, λ p h. rest.1 p (grind arith))

  sentence_tells : (s t : ℕ) → 0 < L s t → Tells m s t (sentence m r L s t) × (depth (sentence m r L s t) ≤ L s t)
  sentence_tells s t h =
      let w : Written = written m L [] [] (needed m r L s t) in
      let good =
      well_written (needed m r L s t) (λ p. ⊥) [] [] (needed_proper m r L sound s t) (needed_ordered m r L sound s t)
      (λ p k. absurd k) refl tt in
      let ls : List Line = w.lines in
      let d : ℕ = level_of L (pair s t) in
      let says : Says m ls (line_for w.places s t) (Only s) (Only t) d =
      line_says m L ls s t w.places good.0.placed (good.1 (pair s t) (inr (needed_has m r L sound s t h))) in
      let last : Line = all_of (line_for w.places s t ∷ []) in
      let p : Pushed m ls last (Only s) (λ z. Any (λ v. z ≡ v) (t ∷ [])) d =
      push_all m ls (λ (v : ℕ). line_for w.places s v) (λ (v : ℕ). v) s d (t ∷ []) (says, tt) in
      let φ : List Line = ls ++ last ∷ [] in
      let long : length ls + 1 ≡ length φ = sym (length_push ls last) in
      let last_says : Says m φ (length φ) (Only s) (λ z. Any (λ v. z ≡ v) (t ∷ [])) (L s t) =
      says_at (length φ) (says_deeper (L s t) p.says (omega (arith, level_of_pair L sound s t))) long in (
        record {
          formed = and_from _ _ (lt-ltb 0 (length φ) (omega arith)) (well_formed_push ls last good.0.formed p.fits);
          in_s = last_says.holds s refl;
          not_in_t = last_says.fails t (inl refl);
        },
        last_says.named.shallow,
      )

pub parted_exact : PartedExact
parted_exact m law r s t d ls lt pos is =
    let sound : Sound m r (levels m r) = levels_sound m law r in
    let φ : List Line = sentence m r (levels m r) s t in
    let got = sentence_tells m r (levels m r) sound law s t (omega arith) in
    let least_depth = none_shallower m law r s t d ls lt pos is in
    let deep : d ≤ depth φ = least_depth φ (inl got.0) in
    (omega (arith, sound.bounded s t), got.0, omega (arith, got.1), least_depth)
