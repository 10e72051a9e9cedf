-- The first element that fails a test, where there is one. Assumes nothing.
use Rattle.std.proofs.Common.{◌≡◌, ℕ, suc, ◌+◌, Bool, true, false, cond, not, ◌&&◌, List, [], ◌∷◌, length, ltb, refl, ◌∙◌, arith, rules, tests}
use Rattle.std.specs.List.{list_all, position_or_len}

-- one more on both sides
up : (n len : ℕ) → ltb (1 + n) (suc len) ≡ ltb n len
up n len = search (rules, tests, arith)

one_more : (b r : Bool) (n len : ℕ) → ltb n len ≡ not r → ltb (cond (not (not b)) (1 + n) 0) (suc len) ≡ not (b && r)
one_more true r n len h = up n len ∙ h
one_more false r n len h = search (rules, tests, arith)

-- one is found exactly where not all pass
pub found : {X : Type 0} (p : X → Bool) (xs : List X) → ltb (position_or_len (λ x. not (p x)) xs) (length xs) ≡ not (list_all p xs)
found p [] = refl
found p (x ∷ xs) = one_more (p x) (list_all p xs) (position_or_len (λ y. not (p y)) xs) (length xs) (found p xs)
