-- What a model file says: the outcome of reading any bytes as one. Assumes nothing.
use Rattle.std.specs.Prelude.{ℕ, ◌+◌, ◌*◌, Bool, cond, ◌&&◌, List, [], ◌∷◌, length, replicate, Ok, Err, Result, nat_le, nat_lt, slice_index_or}
use Rattle.fields.specs.Fields.{Read, Start, field_of, in_turn, of_file, starts, then}
use Rattle.fields.specs.declared.fault.FileFault.{FileFault}
use Rattle.fields.specs.declared.fault.FileFault.TheVariants.{Limit, Number}
use Rattle.std.specs.List.{list_all}
use Rattle.model.specs.Model.{Model, Step, rising, sound_branch, total}
use Rattle.model.specs.declared.Branch.{Branch}
use Rattle.table.specs.Arrays.{branches_in, measured, steps_in, with_step}
use Rattle.table.specs.Format.{allowed_size, due_tag}
use Rattle.table.specs.declared.format.ModelField.{ModelField}
use Rattle.table.specs.declared.format.ModelField.TheVariants.{States, Step as StepField}

-- branches as a field holds them: the target in one byte, the weight in two
abbrev pub read_branches : List ℕ → List Branch
read_branches [] = []
read_branches (target ∷ []) = []
read_branches (target ∷ high ∷ []) = []
read_branches (target ∷ high ∷ low ∷ bytes) = record { target = target; weight = high * 256 + low } ∷ read_branches bytes

-- targets below n that rise, and weights of at least 1
abbrev pub sound_branches : ℕ → List Branch → Bool
sound_branches n bs = rising 0 bs && list_all (sound_branch n) bs

-- a step of state s of n, with all its numbers in range and order
abbrev pub sound_numbers : ℕ → ℕ → Step → Bool
sound_numbers n s a = nat_lt s n && nat_lt a.action 32 && sound_branches n a.branches

-- Room for one more step of state s, with k branches, where the states have the steps ss: at most 16 steps of a state, and
-- 256 steps and 1,024 branches in all.
abbrev pub has_room : List (List Step) → ℕ → ℕ → Bool
has_room ss s k = nat_lt (length (slice_index_or ss s [])) 16 && nat_lt (steps_in ss) 256 && nat_le (branches_in ss + k) 1024

-- the same, and a total of at most 30,000
abbrev pub within_limits : List (List Step) → ℕ → Step → Bool
within_limits ss s a = has_room ss s (length a.branches) && nat_le (total a) 30000

-- the states' steps with one more of state s: its numbers are looked at before its limits
abbrev pub one_more : ℕ → List (List Step) → ℕ → Step → Result (List (List Step)) FileFault
one_more place ss s a =
    cond (sound_numbers (length ss) s a) (cond (within_limits ss s a)
    (Ok (with_step ss s a)) (Err (Limit place))) (Err (Number place))

-- The step that a field's value gives: a state, an action, and then branches. (A value without a state or an action has a
-- length that is not allowed, and does not come here; nor does a number of states in other than one byte, below.)
abbrev pub added : ℕ → List (List Step) → List ℕ → Result (List (List Step)) FileFault
added place ss [] = Err (Number place)
added place ss (s ∷ []) = Err (Number place)
added place ss (s ∷ action ∷ bytes) = one_more place ss s (record { action = action; branches = read_branches bytes })

-- the field of a kind at the front of the bytes
abbrev pub model_field : ModelField → ℕ → List ℕ → Result Read FileFault
model_field kind place bytes = of_file (field_of (due_tag kind) (λ _ size. allowed_size kind size) place bytes)

abbrev pub step_field : List (List Step) → Start → Result (List (List Step)) FileFault
step_field ss x = then (model_field StepField x.place x.bytes) (λ f. added x.place ss f.value)

-- the steps of n states, from the fields behind the first
abbrev pub read_steps : ℕ → List ℕ → Result (List (List Step)) FileFault
read_steps n bytes = in_turn step_field (replicate n []) (starts 0 4 bytes)

-- the number of states, in one byte
abbrev pub states_given : List ℕ → Result ℕ FileFault
states_given [] = Err (Number 0)
states_given (n ∷ []) = cond (nat_le 1 n && nat_le n 64) (Ok n) (Err (Number 0))
states_given (n ∷ _ ∷ _) = Err (Number 0)

-- A model file: the number of states, 1 to 64, and then steps in any number.
abbrev pub model_file : List ℕ → Result Model FileFault
model_file bytes =
    then (model_field States 0 bytes) (λ f.
    then (states_given f.value) (λ n.
    then (read_steps n f.rest) (λ ss. Ok (measured ss))))
