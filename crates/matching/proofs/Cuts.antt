-- The rows that a search has reached, where it ended without a way: they are the cut. Assumes nothing.
use Rattle.std.proofs.Common.{◌≡◌, ℕ, ◌+◌, ◌*◌, ◌<◌, ◌≤◌, Bool, true, false, ◌&&◌, ◌||◌, ◌==◌, ltb, List, get_or, refl, sym, ap, ◌∙◌, mul-lt-mul_of_pos_right, inl, inr, arith}
use Rattle.std.specs.List.{list_all, sum}
use Rattle.std.proofs.ByRecursion.{All-weaker}
use Rattle.std.proofs.lemmas.Bool.{and_from, and_parts, and_right, both_ways, cases_Bool, cases_lt, eq-eqb, eqb-true, le-ltb, lt-ltb, ltb-true, or_cases, or_left, or_right}
use Rattle.model.specs.Lists.{parts}
use Rattle.model.specs.Model.{Step}
use Rattle.model.specs.declared.Branch.{Branch}
use Rattle.model.proofs.Greatest.{greatest_bounds, greatest_least}
use Rattle.model.proofs.Tests.{all_true, each_true}
use Rattle.theory.specs.Matching.{Relation, cut, has_target, matches, most, surplus}
use Rattle.matching.specs.Steps.{branches_from}
use Rattle.matching.specs.Tables.{amount}
use Rattle.matching.proofs.Balance.{Part, part_mono, tight, tight_back, tight_start}
use Rattle.matching.proofs.Duality.{Net, may_carry, Flowing, stood_to, Left, Shut, a, allowed, b, bounded, factor, only, place_of, receives_at, sends_at, stands, surplus_parts}
use Rattle.matching.proofs.Sets.{any_kept, found, kept, kept_same, parts_each, parts_kept}
use Rattle.matching.proofs.Steps.{weight_le}
use Rattle.matching.proofs.Sums.{Sum}

-- The rows p and columns q that a search has reached: no way leaves them, the columns have no room, and the rows lie in each
-- set of rows that no way leaves.
pub record Closing (R : Relation) (t : Net) (p q : ℕ → Bool) : Type 0 where
  pub shut : Shut R t p q
  pub full : (c : ℕ) → q c ≡ true → get_or t.room c 0 ≡ 0
  pub least : (P Q : ℕ → Bool) → Shut R t P Q → (r : ℕ) → p r ≡ true → P r ≡ true

or_second : (s t : Bool) → s ≡ false → (s || t) ≡ true → t ≡ true
or_second s t e h = elim (or_cases s t h) [ inl k ↦ absurd (both_ways s e k) | inr k ↦ k ]

same_tests : (s t : Bool) → (s ≡ true → t ≡ true) → (t ≡ true → s ≡ true) → s ≡ t
same_tests true t h k = sym (h refl)
same_tests false true h k = k refl
same_tests false false h k = refl

module _ (R : Relation) (n : ℕ) (t : Net) (f : Flowing R n t) (p q : ℕ → Bool) (closing : Closing R t p q) where
  abbrev ws : List ℕ
  ws = t.from

  abbrev vs : List ℕ
  vs = t.to

  abbrev A : List (List ℕ)
  A = t.amounts

  abbrev S : List ℕ
  S = t.supply

  abbrev D : List ℕ
  D = t.demand

  abbrev supplies : ℕ → ℕ
  supplies r = get_or t.supply r 0

  abbrev unsents : ℕ → ℕ
  unsents r = get_or t.unsent r 0

  abbrev demands : ℕ → ℕ
  demands c = get_or t.demand c 0

  abbrev rooms : ℕ → ℕ
  rooms c = get_or t.room c 0

  abbrev left_step : Step
  left_step = a R n t f

  abbrev right_step : Step
  right_step = b R n t f

  abbrev rest : ℕ
  rest = Left R n t f

  abbrev left_branches : List Branch
  left_branches = branches_from 0 ws

  sends : (r : ℕ) → r < n → Sum n (λ c. amount A r c) + unsents r ≡ supplies r
  sends = sends_at R n t f

  receives : (c : ℕ) → c < n → Sum n (λ r. amount A r c) + rooms c ≡ demands c
  receives = receives_at R n t f

  abbrev over : List Branch → ℕ
  over W = surplus R left_step right_step W

  abbrev columns : (ℕ → Bool) → ℕ → Bool
  columns P = stood_to R n t f P

  -- what a target with a weight has to send is not nothing, where the other step has a weight
  positive : (r c : ℕ) → 0 < get_or ws r 0 → 0 < get_or vs c 0 → 0 < get_or S r 0
  positive r c pos to =
      let le : get_or vs c 0 ≤ sum vs = weight_le vs c in
      let some : 0 * sum vs < get_or ws r 0 * sum vs = mul-lt-mul_of_pos_right pos (omega arith) in
      omega (arith, f.supply r)

  -- related targets with weights may carry something
  stood : (r c : ℕ) → 0 < get_or ws r 0 → 0 < get_or D c 0 → R r c ≡ true → may_carry R t r c ≡ true
  stood r c pos some ok =
      let to : 0 < get_or vs c 0 = factor (get_or vs c 0) (sum ws) (get_or D c 0) (f.demand c) some in
      let all : 0 < get_or S r 0 = positive r c pos to in
      and_from _ _ (lt-ltb 0 (get_or S r 0) all) (and_from _ _ (lt-ltb 0 (get_or D c 0) some) ok)

  -- the marked rows have the greatest surplus
  reached : over (kept p left_branches) ≡ rest
  reached =
      let full : Part n p supplies ≡ Part n q demands + rest =
      tight n n (amount A) supplies unsents demands rooms sends receives p q
      (λ i j l k h pos. closing.shut.along i j h (f.carries i j pos))
      (λ i l pos. closing.shut.start i pos) (λ j l h. closing.full j h) (λ i j l k h pos. closing.shut.back i j h pos) in
      let le : Part n (columns p) demands ≤ Part n q demands =
      part_mono n (columns p) q demands (λ c pos h.
      let w = found (λ u. R u c) p ws 0 h in
      closing.shut.along w.place c (ap p (omega arith) ∙ w.kept) (stood w.place c w.some pos (ap (λ u. R u c) (omega arith) ∙ w.passes))) in
      omega (arith, bounded R n t f p, surplus_parts R n t f p)

  pub most_is : most R left_step right_step ≡ rest
  most_is =
      let up : most R left_step right_step ≤ rest =
      greatest_least over rest (parts left_branches) (parts_each (λ W. over W ≤ rest) ws 0 (bounded R n t f)) in
      let down : over (kept p left_branches) ≤ most R left_step right_step =
      parts_kept (λ W. over W ≤ most R left_step right_step) (λ u. p u.target) left_branches (greatest_bounds over (parts left_branches)) in
      omega (arith, reached)

  -- matched where nothing is left, and only then
  pub matches_all : rest ≡ 0 → t.from_action ≡ t.to_action → matches R left_step right_step ≡ true
  matches_all none same =
      and_from _ _ (eq-eqb t.from_action t.to_action same)
      (all_true (λ W. over W == 0) (parts left_branches)
      (All-weaker _ _ (λ W le. eq-eqb (over W) 0 (omega (arith, most_is))) (parts left_branches) (greatest_bounds over (parts left_branches))))

  pub matches_not : 0 < rest → matches R left_step right_step ≡ false
  matches_not pos =
      let test : List Branch → Bool = λ W. over W == 0 in
      and_right (t.from_action == t.to_action) (list_all test (parts left_branches)) (elim (cases_Bool (list_all test (parts left_branches))) [
        | inr fails ↦ fails
        | inl passes ↦
            let z : over (kept p left_branches) ≡ 0 =
            eqb-true _ _ (parts_kept (λ W. test W ≡ true) (λ u. p u.target) left_branches (each_true test (parts left_branches) passes)) in
            absurd (omega (arith, reached))
      ])

  -- where something is left
  module _ (some : 0 < rest) where
    -- whether a target lies in every set of greatest surplus
    abbrev common : ℕ → Bool
    common t = list_all (λ W. ltb (over W) (most R left_step right_step) || has_target t W) (parts left_branches)

    -- a marked row has a weight
    marked_weight : (r : ℕ) → p r ≡ true → 0 < get_or ws r 0
    marked_weight r h =
        let some : ltb 0 (get_or S r 0) ≡ true =
        closing.least (λ i. ltb 0 (get_or S i 0)) (λ j. true) (record {
          start = λ i pos. lt-ltb 0 (get_or S i 0) (omega (arith, f.sends i));
          along = λ i j h k. refl;
          back = λ i j h pos. (and_parts (ltb 0 (get_or S i 0)) (ltb 0 (get_or D j 0) && R i j) (f.carries i j pos)).0;
        }) r h in
        factor (get_or ws r 0) (sum vs) (get_or S r 0) (f.supply r) (ltb-true 0 (get_or S r 0) some)

    -- a set of greatest surplus is left by no way
    best_is_shut : (P : ℕ → Bool) → rest ≤ over (kept P left_branches) → Shut R t P (columns P)
    best_is_shut P best =
        let same : Part n P supplies ≡ Part n (columns P) demands + rest =
        omega (arith, surplus_parts R n t f P, bounded R n t f P) in
        let alone = only R n t f P in
        record {
          start = λ i pos.
              let l : i < n = place_of R n t f ws i f.left (factor (get_or ws i 0) (sum vs) (get_or S i 0) (f.supply i) (omega (arith, f.sends i))) in
              tight_start n n (amount A) supplies unsents demands rooms sends receives P (columns P) alone same i l pos;
          along = λ i j. stands R n t f P i j;
          back = λ i j h pos.
              let k = allowed R n t f i j (f.carries i j pos) in
              tight_back n n (amount A) supplies unsents demands rooms sends receives P (columns P) alone same i j
              (place_of R n t f ws i f.left k.from) (place_of R n t f vs j f.right k.to) h pos;
        }

    marked_common : (r : ℕ) → p r ≡ true → common r ≡ true
    marked_common r h =
        all_true _ (parts left_branches) (parts_each (λ W. (ltb (over W) (most R left_step right_step) || has_target r W) ≡ true) ws 0 (λ P.
        elim (cases_lt (over (kept P left_branches)) (most R left_step right_step)) [
          | inl less ↦ or_left _ _ (lt-ltb _ _ less)
          | inr best ↦
              or_right _ _ (any_kept (λ u. u == r) P ws 0 r r (omega arith) (marked_weight r h)
              (closing.least P (columns P) (best_is_shut P (omega (arith, most_is))) r h) (eq-eqb r r refl))
        ]))

    common_marked : (r : ℕ) → common r ≡ true → p r ≡ true
    common_marked r h =
        let here = parts_kept (λ W. (ltb (over W) (most R left_step right_step) || has_target r W) ≡ true) (λ u. p u.target) left_branches (each_true _ (parts left_branches) h) in
        let w = found (λ u. u == r) p ws 0 (or_second (ltb (over (kept p left_branches)) (most R left_step right_step)) _ (le-ltb (over (kept p left_branches)) (most R left_step right_step) (omega (arith, reached, most_is))) here) in
        ap p (sym (eqb-true _ _ w.passes)) ∙ w.kept

    -- the marked rows are the cut
    pub cut_members : (r : ℕ) → p r ≡ has_target r (cut R left_step right_step)
    cut_members r =
        same_tests _ _
        (λ h. any_kept (λ u. u == r) common ws 0 r r (omega arith) (marked_weight r h) (marked_common r h) (eq-eqb r r refl))
        (λ h.
        let w = found (λ u. u == r) common ws 0 h in
        common_marked r (ap common (sym (eqb-true _ _ w.passes)) ∙ w.kept))

    pub cut_branches : kept p left_branches ≡ cut R left_step right_step
    cut_branches = kept_same p common ws 0 (λ i pos. same_tests _ _ (marked_common (0 + i)) (common_marked (0 + i)))
