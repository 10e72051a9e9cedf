-- Words on lists that the shelf of std does not have. Assumes nothing.
use Rattle.std.specs.Prelude.{ℕ, max, List, [], ◌∷◌, ◌++◌, map}

-- the greatest number of a list, 0 where it is empty
abbrev pub greatest : List ℕ → ℕ
greatest [] = 0
greatest (x ∷ xs) = max x (greatest xs)

-- the lists that leave out some elements of a list
abbrev pub parts : {X : Type 0} → List X → List (List X)
parts [] = [] ∷ []
parts (x ∷ xs) = parts xs ++ map (λ U. x ∷ U) (parts xs)
