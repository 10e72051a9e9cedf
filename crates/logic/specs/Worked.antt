-- A worked sentence: its bytes, its lines, and where they hold in two coins, a fair and an unfair one. Assumes nothing.
use Rattle.std.specs.Prelude.{ℕ, List, [], ◌∷◌}
use Rattle.model.specs.Model.{Model}
use Rattle.theory.specs.Sentences.{all_of, any_of, Line, not_of, step_to}

-- 0 goes by action 1 with weights 1, 1 to 0, 1, and 2 with weights 1, 2 to 2, 3
abbrev pub two_coins : Model
two_coins = record {
  states = (record { action = 1; branches = record { target = 0; weight = 1 } ∷ record { target = 1; weight = 1 } ∷ [] } ∷ []) ∷ []
      ∷ (record { action = 1; branches = record { target = 2; weight = 1 } ∷ record { target = 3; weight = 2 } ∷ [] } ∷ []) ∷ [] ∷ [];
  p = 1;
  z = 3;
}

-- with at least half of the weight, by action 1, to where action 1 is possible
abbrev pub fair_lines : List Line
fair_lines =
    step_to 1 [] ∷ not_of 1 ∷ all_of (1 ∷ []) ∷ any_of (3 ∷ []) ∷ step_to 1 (record { line = 4; k = 1; m = 2 } ∷ [])
    ∷ not_of 5 ∷ all_of (5 ∷ []) ∷ []

abbrev pub fair_bytes : List ℕ
fair_bytes =
    0x14 ∷ 0x00 ∷ 0x01 ∷ 0x01
    ∷ 0x11 ∷ 0x00 ∷ 0x02 ∷ 0x00 ∷ 0x01
    ∷ 0x12 ∷ 0x00 ∷ 0x02 ∷ 0x00 ∷ 0x01
    ∷ 0x13 ∷ 0x00 ∷ 0x02 ∷ 0x00 ∷ 0x03
    ∷ 0x14 ∷ 0x00 ∷ 0x0B ∷ 0x01 ∷ 0x00 ∷ 0x04 ∷ 0x00 ∷ 0x00 ∷ 0x00 ∷ 0x01 ∷ 0x00 ∷ 0x00 ∷ 0x00 ∷ 0x02
    ∷ 0x11 ∷ 0x00 ∷ 0x02 ∷ 0x00 ∷ 0x05
    ∷ 0x12 ∷ 0x00 ∷ 0x02 ∷ 0x00 ∷ 0x05 ∷ []
