-- The branches in the bytes of a field, one by one. Assumes nothing.
use Rattle.std.proofs.Common.{◌≡◌, ℕ, ◌+◌, ◌*◌, ◌/◌, ◌<◌, ◌≤◌, List, [], ◌∷◌, length, arith}
use Rattle.table.specs.File.{read_branches}

-- how many there are
pub length_read_branches : (xs : List ℕ) → (3 * length (read_branches xs) ≤ length xs) × (length xs < 3 * length (read_branches xs) + 3)
length_read_branches [] = (omega arith, omega arith)
length_read_branches (_ ∷ []) = (omega arith, omega arith)
length_read_branches (_ ∷ _ ∷ []) = (omega arith, omega arith)
length_read_branches (_ ∷ _ ∷ _ ∷ xs) = let h = length_read_branches xs in (omega (arith, h.0), omega (arith, h.1))

pub third_is_length : (xs : List ℕ) → length xs / 3 ≡ length (read_branches xs)
third_is_length xs = let h = length_read_branches xs in omega (arith, h.0, h.1)
