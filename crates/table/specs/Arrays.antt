-- What a table's rows and branches stand for. Assumes nothing.
use Rattle.std.specs.Prelude.{ℕ, ◌+◌, ◌^◌, Bool, cond, List, [], ◌∷◌, ◌++◌, map, length, take, drop, Some, None, sum_by, Option, nat_le, nat_lt, slice_index_or, slice_set}
use Rattle.arrayvec.specs.ArrayVec.{ArrayVec}
use Rattle.std.specs.List.{list_all}
use Rattle.model.specs.Lists.{greatest}
use Rattle.model.specs.Model.{Model, Step, total}
use Rattle.model.specs.declared.Branch.{Branch}
use Rattle.table.specs.declared.row.Entry.{Entry}

-- a state's steps, of which there are at most 16
abbrev pub Row : Type 0
Row = ArrayVec Entry

-- the step of an entry, over the table's branches
abbrev pub step_in : List Branch → Entry → Step
step_in bs e = record { action = e.action; branches = take e.count (drop e.first bs) }

abbrev pub row_in : List Branch → Row → List Step
row_in bs r = map (step_in bs) r.items

-- the steps of each state
abbrev pub states_in : List Row → List Branch → List (List Step)
states_in rows bs = map (row_in bs) rows

-- The model of some states' steps whose measures are the largest number of steps of a state and the largest total, both 0
-- without steps.
abbrev pub measured : List (List Step) → Model
measured ss = record { states = ss; p = greatest (map length ss); z = greatest (map (λ row. greatest (map total row)) ss) }

-- a number, if 32 bits hold it
abbrev pub fitting : ℕ → Option ℕ
fitting n = cond (nat_lt n (2 ^ 32)) (Some n) None

-- the states' steps with one more, as the last of state s
abbrev pub with_step : List (List Step) → ℕ → Step → List (List Step)
with_step ss s a = slice_set ss s (slice_index_or ss s [] ++ a ∷ [])

-- all steps of all states, and all their branches, counted
abbrev pub steps_in : List (List Step) → ℕ
steps_in ss = sum_by length ss

abbrev pub branches_in : List (List Step) → ℕ
branches_in ss = sum_by (λ row. sum_by (λ a. length a.branches) row) ss

-- each step keeps to the branches
abbrev pub placed : List Row → List Branch → Bool
placed rows bs = list_all (λ r. list_all (λ e. nat_le (e.first + e.count) (length bs)) r.items) rows
