-- The model that a table stands for. Assumes nothing.
use Rattle.std.specs.Prelude.{List, [], ◌∷◌}
use Rattle.model.specs.Model.{Model, Step}
use Rattle.table.specs.Arrays.{measured, states_in}
use Rattle.table.specs.declared.table.Table.{Table}

abbrev pub states_of : Table → List (List Step)
states_of t = states_in t.rows.items t.branches.items

abbrev pub table_of : Table → Model
table_of t = measured (states_of t)

-- what a new table stands for: one state and no steps
abbrev pub starting : Model
starting = record { states = [] ∷ []; p = 0; z = 0 }
