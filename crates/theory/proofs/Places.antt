-- The lines of one pair: one that holds in the one state, one that holds in the other. Assumes nothing.
use Rattle.std.proofs.Common.{◌≡◌, ℕ, ◌+◌, ◌-◌, ◌<◌, Bool, true, false, cond, not, ◌||◌, eqb, ltb, leb, List, [], ◌∷◌, ◌++◌, map, length, sym, refl, ap, ◌∙◌, subst, inl, inr, arith, flat_map}
use Rattle.std.specs.List.{AllByRecursion as All}
use Rattle.std.proofs.ByRecursion.{all_kept_by, All-weaker, kept_by_passes}
use Rattle.std.proofs.lemmas.List.{append_assoc, length-append, length_push}
use Rattle.std.proofs.lemmas.Bool.{cases_Bool, eq-eqb, eqb-true, lt-ltb, ne_eqb, not-true}
use Rattle.model.specs.Model.{Model, Step, count, lawful, steps_of}
use Rattle.model.specs.declared.Branch.{Branch}
use Rattle.theory.specs.Lists.{AnyByRecursion as Any}
use Rattle.theory.specs.Matching.{Relation, cut, matches}
use Rattle.theory.specs.Stages.{Levels, before}
use Rattle.theory.specs.Sentences.{Line, not_of, step_to, part_holds, sets_of}
use Rattle.theory.specs.declared.Part.{Part}
use Rattle.theory.specs.Telling.{Block, Pair, Place, against, apart, level_of, line_for, move, mover, other, pair, pair_lines, refers, rivals, same_pair, until}
use Rattle.theory.proofs.Tests.{all_unmap}
use Rattle.theory.proofs.Elements.{all_both, all_flat_map_parts, all_unfiltered, some_of_all, some_weaker}
use Rattle.theory.proofs.Cuts.{cut_outweighs}
use Rattle.theory.proofs.Lawful.{SoundStep, steps_are_sound}
use Rattle.theory.proofs.Saying.{Formed, Says, says_at, says_deeper, says_grown}
use Rattle.theory.proofs.Texts.{well_formed_push}
use Rattle.theory.proofs.Lines.{Only, Passed, Pushed, push_not, push_step}
use Rattle.theory.proofs.Pairs.{Proper, Sound, before_false, level_of_pair, pair_cases, same_pair_from, same_pair_true}
use Rattle.theory.proofs.Movers.{Mover, mover_is_alone}
use Rattle.theory.proofs.Rivals.{Blocked, Rival, rivals_are_blocked}

-- a place whose lines tell the two states of its pair from each other
pub record Placed (m : Model) (L : Levels) (ls : List Line) (x : Place) : Type 0 where
  pub other : ℕ
  pub is : x.of ≡ pair x.holds_in other
  pub step_line : Says m ls x.number (Only x.holds_in) (Only other) (level_of L x.of)
  pub not_line : Says m ls (x.number + 1) (Only other) (Only x.holds_in) (level_of L x.of)

pub placed_grown : {m : Model} {L : Levels} {ls : List Line} {x : Place} (more : List Line) → Placed m L ls x → Placed m L (ls ++ more) x
placed_grown more p =
    record { other = p.other; is = p.is; step_line = says_grown more p.step_line; not_line = says_grown more p.not_line }

-- a pair has a place
abbrev pub HasPlace : List Place → Pair → Type 0
HasPlace places p = Any (λ x. x.of ≡ p) places

module _ (m : Model) (L : Levels) (ls : List Line) (u v : ℕ) where
  says_here : (x : Place) → x.of ≡ pair u v → Placed m L ls x
      → Says m ls (cond (eqb x.holds_in u) x.number (x.number + 1)) (Only u) (Only v) (level_of L (pair u v))
  says_here x e p =
      let same : level_of L x.of ≡ level_of L (pair u v) = ap (level_of L) e in
      elim (pair_cases x.holds_in p.other u v (sym p.is ∙ e)) [
        | inl k ↦ rw (eq-eqb x.holds_in u k.0) (rw (k.0, ← k.1, same) at p.step_line)
        | inr k ↦ rw (ne_eqb x.holds_in u k.0) (rw (← k.1, ← k.2, same) at p.not_line)
      ]

  -- the line for u and v holds in u and not in v
  pub line_says : (places : List Place) → All (Placed m L ls) places → HasPlace places (pair u v)
      → Says m ls (line_for places u v) (Only u) (Only v) (level_of L (pair u v))
  line_says [] h s = absurd s
  line_says (x ∷ xs) h s =
      elim (cases_Bool (same_pair x.of (pair u v))) [
        | inl e ↦ rw e (says_here x (same_pair_true x.of (pair u v) e) h.0)
        | inr e ↦ rw e (line_says xs h.1 (grind (arith, same_pair_from x.of (pair u v))))
      ]

-- the step_line and the not_line of a pair, after the lines against the rivals
closing_lines_say : (m : Model) (L : Levels) (q : Pair) (h o : ℕ) (a : Step) (e : ℕ) (ls lines : List Line) (qs : List Part)
    → e + 1 ≡ level_of L q → q ≡ pair h o → Formed (ls ++ lines) → All (Passed m (ls ++ lines) a e) qs → ltb a.action 32 ≡ true
    → Any (λ b. b ≡ a) (steps_of m h)
    → All (λ b. eqb b.action a.action ≡ true → Any (λ x. part_holds (sets_of m (ls ++ lines)) b x ≡ false) qs) (steps_of m o)
    → (new : List Line) → new ≡ lines ++ step_to a.action qs ∷ not_of (length ls + length lines + 1) ∷ []
    → Formed (ls ++ new) × Placed m L (ls ++ new) (record { of = q; number = length ls + length new - 1; holds_in = h })
closing_lines_say m L q h o a e ls lines qs e_is between formed passed small moves no_other new new_is =
    let n : ℕ = length ls + length lines + 1 in
    let S : Line = step_to a.action qs in
    let N : Line = not_of n in
    let T : List Line = ls ++ lines in
    let TS : List Line = T ++ S ∷ [] in
    let TSN : List Line = TS ++ N ∷ [] in
    let length_T : length T ≡ length ls + length lines = length-append ls lines in
    let length_TS : length TS ≡ length T + 1 = length_push T S in
    let p : Pushed m T S (Only h) (Only o) (e + 1) = push_step m T a qs h o e small passed moves no_other in
    let s : Says m TS n (Only h) (Only o) (e + 1) = says_at n p.says (omega arith) in
    let p' : Pushed m TS N (Only o) (Only h) (e + 1) = push_not m TS s in
    let same : TSN ≡ ls ++ new =
    append_assoc T (S ∷ []) (N ∷ []) ∙ append_assoc ls lines (S ∷ N ∷ []) ∙ ap (λ w. ls ++ w) (sym new_is) in
    let size : length new ≡ length lines + 2 = ap length new_is ∙ length-append lines (S ∷ N ∷ []) in
    let number : ℕ = length ls + length new - 1 in
    let step_line : Says m TSN number (Only h) (Only o) (level_of L q) =
    says_deeper (level_of L q) (says_at number (says_grown (N ∷ []) s) (omega arith)) (omega arith) in
    let not_line : Says m TSN (number + 1) (Only o) (Only h) (level_of L q) =
    says_deeper (level_of L q) (says_at (number + 1) p'.says (omega arith)) (omega arith) in
    subst (λ T. Formed T × Placed m L T (record { of = q; number = number; holds_in = h })) same (
      well_formed_push TS N (well_formed_push T S formed p.fits) p'.fits,
      record { other = o; is = between; step_line = step_line; not_line = not_line },
    )

module _ (m : Model) (r : ℕ) (L : Levels) (sound : Sound m r L) (law : lawful m ≡ true)
    (places : List Place) (ls : List Line) (formed : Formed ls) (placed : All (Placed m L ls) places) where
  -- the pairs to which the lines against a rival refer
  abbrev refers_to : Relation → Step → Step → List Pair
  refers_to R a b = flat_map (λ u. map (λ v. pair u.target v.target) (apart R u b)) (cut R a b)

  rival_of : (d e : ℕ) → e + 1 ≡ d → (a b : Step) → SoundStep (count m) a → eqb b.action a.action ≡ true
      → matches (before L d) a b ≡ false → All (HasPlace places) (refers_to (before L d) a b) → Rival m ls places (before L d) a e b
  rival_of d e is a b la same no_match refs =
      let R : Relation = before L d in
      let says : (u v : Branch) → HasPlace places (pair u.target v.target) → not (R u.target v.target) ≡ true
      → Says m ls (line_for places u.target v.target) (Only u.target) (Only v.target) e =
      λ u v place far.
      let x : ℕ = u.target in
      let y : ℕ = v.target in
      let level = before_false L d x y (not-true (R x y) far) in
      says_deeper e (line_says m L ls x y places placed place) (omega (arith, level_of_pair L sound x y, level.1)) in
      record {
        referred = All-weaker _ _ (λ u k.
            all_both _ _ _ (says u) (apart R u b) (all_unmap (HasPlace places) _ (apart R u b) k) (kept_by_passes _ b.branches))
            (cut R a b) (all_flat_map_parts (HasPlace places) _ (cut R a b) refs);
        outweighed = cut_outweighs R a b la.rises (sym (eqb-true _ _ same)) no_match;
      }

  pub pair_placed : (q : Pair) → Proper L q → All (HasPlace places) (refers m (until L q) q)
      → (new : List Line) → new ≡ pair_lines m L places (length ls) q
      → Formed (ls ++ new)
      × Placed m L (ls ++ new) (record { of = q; number = length ls + length new - 1; holds_in = mover m (until L q) q })
  pair_placed q proper refs new new_is =
      let d : ℕ = level_of L q in
      let e : ℕ = d - 1 in
      let e_is : e + 1 ≡ d = omega (arith, proper.parted) in
      let R : Relation = until L q in
      let mirror : (u v : ℕ) → u < count m → v < count m → R u v ≡ true → R v u ≡ true =
      λ u v lu lv h. sym (ap (λ k. eqb k 0 || leb d k) (sound.mirror u v)) ∙ h in
      let mv : Mover m R q = mover_is_alone m law R mirror q proper.two (sound.unmet q.small q.large proper.parted) in
      let h : ℕ = mover m R q in
      let o : ℕ = other m R q in
      let a : Step = move m R q in
      let got = some_of_all _ _ (steps_of m h) (steps_are_sound m law h) mv.alone.moves in
      let la : SoundStep (count m) a = subst (SoundStep (count m)) got.2 got.1 in
      let bs : List Step = rivals m R q in
      let same : Step → Bool = λ b. eqb b.action a.action in
      let unmatched_in : All (λ b. (same b ≡ true) × (matches R a b ≡ false)) bs =
      all_both _ _ _ (λ b k n. (k, n)) bs (kept_by_passes same (steps_of m o))
      (all_kept_by same (λ b. matches R a b ≡ false) (steps_of m o) mv.alone.unmatched) in
      let rs : All (Rival m ls places R a e) bs =
      all_both _ _ _ (λ b k n. rival_of d e e_is a b la n.0 n.1 k) bs
      (all_flat_map_parts (HasPlace places) (refers_to R a) bs refs) unmatched_in in
      let B : Block = against places R a (length ls) bs in
      let T : List Line = ls ++ B.lines in
      let blocks : Blocked m T a e bs B.parts = rivals_are_blocked m places R a e la.heavy la.light bs ls (length ls) refl formed rs in
      let stops : All (λ b. same b ≡ true → Any (λ x. part_holds (sets_of m T) b x ≡ false) B.parts) (steps_of m o) =
      all_unfiltered _ same (steps_of m o)
      (All-weaker _ _ (λ b k. some_weaker _ _ (λ x w. w.stops) B.parts k) bs blocks.stopped) in
      closing_lines_say m L q h o a e ls B.lines B.parts e_is mv.between blocks.formed blocks.passed (lt-ltb a.action 32 la.known)
      mv.alone.moves stops new new_is
