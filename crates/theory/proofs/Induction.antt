-- What each kind of line keeps holds of every sentence; so a sentence of depth 0 holds everywhere or nowhere. Assumes nothing.
use Rattle.std.proofs.Common.{◌≡◌, ℕ, zero, suc, ◌-◌, not, List, [], ◌∷◌, ◌++◌, map, length, get_or, refl, ap, arith}
use Rattle.std.specs.List.{AllByRecursion as All}
use Rattle.std.proofs.ByRecursion.{All-weaker}
use Rattle.std.proofs.lemmas.List.{length_push}
use Rattle.model.specs.Lists.{greatest}
use Rattle.model.specs.Model.{Model}
use Rattle.model.proofs.Greatest.{greatest_bounds}
use Rattle.theory.specs.Laws.{DepthZeroConstant}
use Rattle.theory.specs.Sentences.{all_of, any_of, Line, not_of, StateSet, step_to, depth, depth_at, depths_from, holds, line_depth, line_holds}
use Rattle.theory.specs.Sentences.{nowhere, set_of, sets_from}
use Rattle.theory.proofs.Tests.{all_same, any_same}

-- a property of depths and sets that holds of each line where it holds of the lines in front
module _ (P : ℕ → StateSet → Type 0) where
  -- it holds of each depth with the set at the same place
  abbrev pub AllHold : List StateSet → List ℕ → Type 0
  AllHold sets depths = (i : ℕ) → P (get_or depths i 0) (get_or sets i nowhere)

  module _ (m : Model) (none : P 0 nowhere)
      (line : (sets : List StateSet) (depths : List ℕ) (l : Line) → AllHold sets depths → P (line_depth depths l) (line_holds m sets l)) where
    all_hold_push : (sets : List StateSet) (depths : List ℕ) (X : StateSet) (d : ℕ)
        → length sets ≡ length depths → AllHold sets depths → P d X → AllHold (sets ++ X ∷ []) (depths ++ d ∷ [])
    all_hold_push [] [] X d e h k zero = k
    all_hold_push [] [] X d e h k (suc i) = none
    all_hold_push [] (y ∷ depths) X d e h k i = absurd (omega arith)
    all_hold_push (Y ∷ sets) [] X d e h k i = absurd (omega arith)
    all_hold_push (Y ∷ sets) (y ∷ depths) X d e h k zero = h 0
    all_hold_push (Y ∷ sets) (y ∷ depths) X d e h k (suc i) = all_hold_push sets depths X d (omega arith) (λ j. h (suc j)) k i

    all_hold_from : (ls : List Line) (sets : List StateSet) (depths : List ℕ)
        → length sets ≡ length depths → AllHold sets depths → AllHold (sets_from m sets ls) (depths_from depths ls)
    all_hold_from [] sets depths e h = h
    all_hold_from (l ∷ ls) sets depths e h =
        let X : StateSet = line_holds m sets l in
        let d : ℕ = line_depth depths l in
        all_hold_from ls (sets ++ X ∷ []) (depths ++ d ∷ []) (omega (arith, length_push sets X, length_push depths d))
        (all_hold_push sets depths X d e h (line sets depths l h))

    pub sentence_induction : (ls : List Line) → P (depth ls) (holds m ls)
    sentence_induction ls = all_hold_from ls [] [] refl (λ i. none) (length ls - 1)

-- a set that has all states or none, if its depth is 0
abbrev Constant : ℕ → StateSet → Type 0
Constant d X = d ≡ 0 → (s t : ℕ) → X s ≡ X t

module _ (sets : List StateSet) (depths : List ℕ) (constant : AllHold Constant sets depths) where
  named_constant : (is : List ℕ) → greatest (map (depth_at depths) is) ≡ 0 → (s t : ℕ) → All (λ i. set_of sets i s ≡ set_of sets i t) is
  named_constant is e s t = All-weaker _ _ (λ i le. constant (i - 1) (omega arith) s t) is (greatest_bounds (depth_at depths) is)

  line_constant : (m : Model) (l : Line) → Constant (line_depth depths l) (line_holds m sets l)
  line_constant m (not_of i) e s t = ap not (named_constant (i ∷ []) (omega arith) s t).0
  line_constant m (all_of is) e s t = all_same _ _ is (named_constant is (omega arith) s t)
  line_constant m (any_of is) e s t = any_same _ _ is (named_constant is (omega arith) s t)
  line_constant m (step_to act qs) e s t = absurd (omega arith)

pub depth_zero_constant : DepthZeroConstant
depth_zero_constant m = sentence_induction Constant m (λ e s t. refl) (λ sets depths l h. line_constant sets depths h m l)
