-- Tables of amounts, and what holds of every flow. Assumes nothing.
use Rattle.std.specs.Prelude.{◌≡◌, ℕ, ◌+◌, ◌<◌, Bool, true, false, ◌&&◌, List, [], length, sum, sum_by, nat_lt, slice_index, slice_index_or, slice_set}

-- what stands in row r and column c
abbrev pub cell : {X : Type 0} → X → List (List X) → ℕ → ℕ → X
cell d rows r c = slice_index_or (slice_index_or rows r []) c d

abbrev pub amount : List (List ℕ) → ℕ → ℕ → ℕ
amount rows r c = cell 0 rows r c

-- the table with x in row r and column c
abbrev pub put : {X : Type 0} → List (List X) → ℕ → ℕ → X → List (List X)
put rows r c x = slice_set rows r (slice_set (slice_index_or rows r []) c x)

-- whether row r, which has something to send, stands to column c, which has something to receive
abbrev pub allows : (ℕ → ℕ → Bool) → List ℕ → List ℕ → ℕ → ℕ → Bool
allows R supply demand r c = nat_lt 0 (slice_index supply r) && (nat_lt 0 (slice_index demand c) && R r c)

-- each row has 64 places
abbrev pub Wide : List (List ℕ) → Type 0
Wide amounts = (r : ℕ) → r < 64 → length (slice_index_or amounts r []) ≡ 64

-- each row has sent what is not left of its supply
abbrev pub Sends : List ℕ → List (List ℕ) → List ℕ → Type 0
Sends supply amounts unsent = (r : ℕ) → sum (slice_index_or amounts r []) + slice_index unsent r ≡ slice_index supply r

-- each column has received what is not left of its demand
abbrev pub Receives : List ℕ → List (List ℕ) → List ℕ → Type 0
Receives demand amounts room = (c : ℕ) → sum_by (λ row. slice_index row c) amounts + slice_index room c ≡ slice_index demand c

-- only allowed pairs carry anything
abbrev pub Carries : List (List Bool) → List (List ℕ) → Type 0
Carries allowed amounts = (r c : ℕ) → 0 < amount amounts r c → cell false allowed r c ≡ true
