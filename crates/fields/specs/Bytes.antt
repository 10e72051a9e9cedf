-- Numbers in bytes, the high byte first. Assumes nothing.
use Rattle.std.specs.Prelude.{ℕ, ◌+◌, ◌*◌, List, [], ◌∷◌}

-- numbers of two bytes each, the high byte first
abbrev pub numbers : List ℕ → List ℕ
numbers [] = []
numbers (high ∷ []) = []
numbers (high ∷ low ∷ bytes) = (high * 256 + low) ∷ numbers bytes
