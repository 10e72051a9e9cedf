-- A worked model file, and the model that it says. Assumes nothing.
use Rattle.std.specs.Prelude.{ℕ, List, [], ◌∷◌}
use Rattle.model.specs.Model.{Model}

-- two states, of which 0 goes by action 1 with weight 1 to 0 and weight 1 to 1
abbrev pub coin : Model
coin = record {
  states = (record { action = 1; branches = record { target = 0; weight = 1 } ∷ record { target = 1; weight = 1 } ∷ [] } ∷ []) ∷ [] ∷ [];
  p = 1;
  z = 2;
}

-- a field of one byte, two states; a field of eight bytes, state 0, action 1, and two branches
abbrev pub coin_bytes : List ℕ
coin_bytes = 0x01 ∷ 0x00 ∷ 0x01 ∷ 0x02 ∷ 0x02 ∷ 0x00 ∷ 0x08 ∷ 0x00 ∷ 0x01 ∷ 0x00 ∷ 0x00 ∷ 0x01 ∷ 0x01 ∷ 0x00 ∷ 0x01 ∷ []
