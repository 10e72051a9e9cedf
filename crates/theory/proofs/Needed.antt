-- The pairs that a sentence needs, each after those to which it refers. Assumes nothing.
use Rattle.std.proofs.Common.{◌≡◌, ℕ, zero, suc, ◌+◌, ◌<◌, Bool, true, false, not, ◌&&◌, eqb, ltb, ◌⊎◌, List, [], ◌∷◌, ◌++◌, reverse, filter, sym, refl, ◌∙◌, subst, inl, inr, arith, flat_map}
use mathlib.Core.List.{reverse_aux, reverse_aux-append}
use Rattle.std.specs.List.{range_with_len, AllByRecursion as All, list_any}
use Rattle.std.proofs.lemmas.Bool.Decides.{nat_tests}
use Rattle.std.proofs.ByRecursion.{All-map, All-weaker, kept_by_passes}
use Rattle.std.proofs.lemmas.Bool.{both_ways, cases_Bool, cases_eq, not-true}
use Rattle.model.specs.Model.{Model, count}
use Rattle.model.specs.declared.Branch.{Branch}
use Rattle.theory.specs.Lists.{AnyByRecursion as Any}
use Rattle.theory.specs.Matching.{Relation, cut}
use Rattle.theory.specs.Stages.{Levels, states}
use Rattle.theory.specs.Telling.{Pair, apart, keep, level_of, move, needed, pair, parted, parted_in, refers, rivals, same_pair, until}
use Rattle.theory.proofs.Tests.{any_true, all_always}
use Rattle.theory.proofs.Elements.{all_both, all_flat_map, all_reverse, all_self, some_flat_map, some_filter, some_left, some_map, some_reverse, some_right, some_weaker}
use Rattle.theory.proofs.Counting.{all_range, some_range}
use Rattle.theory.proofs.Pairs.{Proper, Sound, before_false, level_of_pair, pair_path, proper_pair, same_pair_from}

abbrev pub Member : Pair → List Pair → Type 0
Member p xs = Any (λ x. x ≡ p) xs

-- each pair refers only to what P has, or to a pair in front of it
abbrev pub Ordered : Model → Levels → (Pair → Type 0) → List Pair → Type 0
Ordered m L P [] = Unit {0}
Ordered m L P (q ∷ qs) = All P (refers m (until L q) q) × Ordered m L (λ p. P p ⊎ (q ≡ p)) qs

ordered_weaker : (m : Model) (L : Levels) (P Q : Pair → Type 0)
    → ((p : Pair) → P p → Q p) → (qs : List Pair) → Ordered m L P qs → Ordered m L Q qs
ordered_weaker m L P Q f [] h = tt
ordered_weaker m L P Q f (q ∷ qs) h = (
  All-weaker P Q f (refers m (until L q) q) h.0,
  ordered_weaker m L (λ p. P p ⊎ (q ≡ p)) (λ p. Q p ⊎ (q ≡ p)) (λ p k. grind (arith, f p)) qs h.1,
)

-- behind each pair stand all that were parted before it
abbrev Complete : Levels → List Pair → Type 0
Complete L [] = Unit {0}
Complete L (q ∷ qs) = ((p : Pair) → Proper L p → level_of L p < level_of L q → Member p qs) × Complete L qs

-- a pair that is not wanted is none of those wanted
not_wanted : (q p : Pair) (wanted : List Pair) → list_any (same_pair q) wanted ≡ false → q ≡ p → Member p wanted → ⊥
not_wanted q p wanted e is h =
    both_ways _ e (any_true (same_pair q) wanted (some_weaker _ _ (λ y w. same_pair_from q y (is ∙ sym w)) wanted h))

module _ (m : Model) (L : Levels) where
  keep_has : (p : Pair) (wanted kept qs : List Pair)
      → Member p kept ⊎ (Member p wanted × Member p qs) → Member p (keep m L wanted kept qs)
  keep_has p wanted kept [] h = grind arith
  keep_has p wanted kept (q ∷ qs) h =
      let refs : List Pair = refers m (until L q) q in
      elim (cases_Bool (list_any (same_pair q) wanted)) [
        | inl e ↦ grind (arith, keep_has p (refs ++ wanted) (q ∷ kept) qs, some_right (λ x. x ≡ p) refs wanted)
        | inr e ↦ grind (arith, keep_has p wanted kept qs, not_wanted q p wanted)
      ]

  keep_all : (P : Pair → Type 0) (wanted kept qs : List Pair) → All P kept → All P qs → All P (keep m L wanted kept qs)
  keep_all P wanted kept [] h k = h
  keep_all P wanted kept (q ∷ qs) h k =
      grind (arith, keep_all P (refers m (until L q) q ++ wanted) (q ∷ kept) qs, keep_all P wanted kept qs)

module _ (m : Model) (r : ℕ) (L : Levels) (sound : Sound m r L) where
  refers_earlier : (q : Pair) → All (λ p. Proper L p × (level_of L p < level_of L q)) (refers m (until L q) q)
  refers_earlier q =
      let R : Relation = until L q in
      let P : Pair → Type 0 = λ p. Proper L p × (level_of L p < level_of L q) in
      let earlier : (u v : Branch) → not (R u.target v.target) ≡ true → P (pair u.target v.target) =
      λ u v k.
      let x : ℕ = u.target in
      let y : ℕ = v.target in
      let level = before_false L (level_of L q) x y (not-true (R x y) k) in
      (proper_pair L sound x y level.0, omega (arith, level_of_pair L sound x y, level.1)) in
      all_flat_map P _ (rivals m R q) (all_always _ (λ b.
      all_flat_map P _ (cut R (move m R q) b) (all_always _ (λ u.
      All-map P _ (apart R u b) (All-weaker _ _ (earlier u) (apart R u b) (kept_by_passes _ b.branches)))
      (cut R (move m R q) b))) (rivals m R q))

  keep_ordered : (wanted kept qs : List Pair)
      → Complete L qs → Ordered m L (λ p. Member p wanted × Member p qs) kept → Ordered m L (λ p. ⊥) (keep m L wanted kept qs)
  keep_ordered wanted kept [] c h = ordered_weaker m L (λ p. Member p wanted × Member p []) (λ p. ⊥) (λ p k. k.1) kept h
  keep_ordered wanted kept (q ∷ qs) c h =
      let refs : List Pair = refers m (until L q) q in
      let Before : Pair → Type 0 = λ p. Member p wanted × Member p (q ∷ qs) in
      elim (cases_Bool (list_any (same_pair q) wanted)) [
        | inl e ↦ rw e (
            keep_ordered (refs ++ wanted) (q ∷ kept) qs c.1 (
              all_both _ _ (λ p. Member p (refs ++ wanted) × Member p qs) (λ p k l. (some_left _ refs wanted k, c.0 p l.0 l.1)) refs
                  (all_self (λ p x. x ≡ p) (λ x. refl) refs) (refers_earlier q),
              ordered_weaker m L Before (λ p. (Member p (refs ++ wanted) × Member p qs) ⊎ (q ≡ p)) (λ p k. elim k.1 [
                | inl x ↦ inr x
                | inr x ↦ inl (some_right _ refs wanted k.0, x)
              ]) kept h,
            )
            )
        | inr e ↦ rw e (keep_ordered wanted kept qs c.1
            (ordered_weaker m L Before (λ p. Member p wanted × Member p qs) (λ p k. elim k.1 [
              | inl x ↦ absurd (not_wanted q p wanted e x k.0)
              | inr x ↦ (k.0, x)
            ]) kept h))
      ]

  -- every pair that round d parted, and no other
  parted_in_all : (d : ℕ) → 0 < d → All (λ p. Proper L p × (level_of L p ≡ d)) (parted_in m L d)
  parted_in_all d h =
      let P : Pair → Type 0 = λ p. Proper L p × (level_of L p ≡ d) in
      let test : ℕ → ℕ → Bool = λ s t. ltb s t && eqb (L s t) d in
      let of_round : (s t : ℕ) → test s t ≡ true → P (pair s t) =
      λ s t k. (proper_pair L sound s t (grind (arith, nat_tests)), grind (arith, nat_tests, level_of_pair L sound s t)) in
      all_flat_map P _ (states m) (all_always _ (λ s.
      All-map P _ (filter (test s) (states m))
      (All-weaker _ _ (of_round s) (filter (test s) (states m)) (kept_by_passes (test s) (states m)))) (states m))

  parted_in_has : (p : Pair) → Proper L p → Member p (parted_in m L (level_of L p))
  parted_in_has p h =
      let s : ℕ = p.small in
      let t : ℕ = p.large in
      let d : ℕ = level_of L p in
      let test : ℕ → ℕ → Bool = λ s t. ltb s t && eqb (L s t) d in
      let ins : (s < count m) × (t < count m) = sound.inside s t h.parted in
      let two : s < t = h.two in
      let e : pair s t ≡ p = pair_path (pair s t) p (omega arith) (omega arith) in
      let at_t : Any (λ t. (pair s t ≡ p) × (test s t ≡ true)) (states m) =
      some_range _ 0 (count m) t (omega arith) (omega (arith, ins.1)) (e, grind (arith, nat_tests)) in
      some_flat_map (λ x. x ≡ p) _ (states m) (some_range _ 0 (count m) s (omega arith) (omega (arith, ins.0))
      (some_map (λ x. x ≡ p) (λ t. pair s t) (filter (test s) (states m)) (some_filter _ (test s) (states m) at_t)))

  -- all pairs parted before round e are done
  abbrev Done : ℕ → List Pair → Type 0
  Done e done = (p : Pair) → Proper L p → level_of L p < e → Member p done

  round_complete : (e : ℕ) (xs done : List Pair) → All (λ p. Proper L p × (level_of L p ≡ e)) xs
      → Done e done → Complete L done → Complete L (reverse_aux xs done)
  round_complete e [] done h d c = c
  round_complete e (x ∷ xs) done h d c =
      round_complete e xs (x ∷ done) h.1 (λ p pr lt. inr (d p pr lt)) (λ p pr lt. d p pr (omega (arith, h.0.1)), c)

  rounds_complete : (n e : ℕ) (done : List Pair) → 0 < e → Done e done → Complete L done
      → Complete L (reverse_aux (flat_map (parted_in m L) (range_with_len e n)) done)
  rounds_complete zero e done pos d c = c
  rounds_complete (suc n) e done pos d c =
      let xs : List Pair = parted_in m L e in
      let more : List Pair = flat_map (parted_in m L) (range_with_len (e + 1) n) in
      let done' : Done (e + 1) (reverse_aux xs done) =
      λ p pr lt. some_reverse _ xs done (grind (arith, cases_eq (level_of L p) e, parted_in_has p pr, d p pr)) in
      subst (Complete L) (sym (reverse_aux-append xs more done))
      (rounds_complete n (e + 1) (reverse_aux xs done) (omega arith) done' (round_complete e xs done (parted_in_all e pos) d c))

  parted_has : (p : Pair) → Proper L p → Member p (parted m r L)
  parted_has p h =
      some_flat_map _ (parted_in m L) (range_with_len 1 r) (some_range (λ d. Member p (parted_in m L d)) 1 r (level_of L p) h.parted
      (omega (arith, sound.bounded p.small p.large)) (parted_in_has p h))

  parted_all : All (Proper L) (parted m r L)
  parted_all =
      all_flat_map (Proper L) (parted_in m L) (range_with_len 1 r)
      (all_range _ 1 r (λ d l h. All-weaker _ _ (λ p k. k.0) (parted_in m L d) (parted_in_all d l)))

  pub needed_ordered : (s t : ℕ) → Ordered m L (λ p. ⊥) (needed m r L s t)
  needed_ordered s t =
      keep_ordered (pair s t ∷ []) [] (reverse (parted m r L))
      (rounds_complete r 1 [] (omega arith) (λ p pr lt. absurd (omega (arith, pr.parted))) tt) tt

  pub needed_proper : (s t : ℕ) → All (Proper L) (needed m r L s t)
  needed_proper s t =
      keep_all m L (Proper L) (pair s t ∷ []) [] (reverse (parted m r L)) tt (all_reverse (Proper L) (parted m r L) [] parted_all tt)

  pub needed_has : (s t : ℕ) → 0 < L s t → Member (pair s t) (needed m r L s t)
  needed_has s t h =
      let has : Member (pair s t) (reverse (parted m r L)) =
      some_reverse _ (parted m r L) [] (inl (parted_has (pair s t) (proper_pair L sound s t h))) in
      keep_has m L (pair s t) (pair s t ∷ []) [] (reverse (parted m r L)) (inr (inl refl, has))
