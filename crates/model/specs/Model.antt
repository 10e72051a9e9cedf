-- A model: states with steps, a step being an action and a list of weighted branches. Its laws, and what a question about
-- it is answered. Assumes nothing.
use Rattle.std.specs.Prelude.{ℕ, ◌+◌, Bool, true, ◌&&◌, ◌||◌, List, [], ◌∷◌, length, sum_by, ◌==◌, nat_le, nat_lt, slice_index_or}
use Rattle.std.specs.List.{list_all}
use Rattle.model.specs.declared.Branch.{Branch}

pub record Step : Type 0 where
  pub action : ℕ
  pub branches : List Branch

-- the steps of each state in turn, and two measures: p bounds the steps of a state, z the total of a step
pub record Model : Type 0 where
  pub states : List (List Step)
  pub p : ℕ
  pub z : ℕ

-- the weight of a set of branches
abbrev pub mass : List Branch → ℕ
mass bs = sum_by (λ b. b.weight) bs

abbrev pub total : Step → ℕ
total a = mass a.branches

abbrev pub count : Model → ℕ
count m = length m.states

-- a model without states
abbrev pub void : Model
void = record { states = []; p = 0; z = 0 }

-- the targets rise strictly, from low on
abbrev pub rising : ℕ → List Branch → Bool
rising low [] = true
rising low (b ∷ bs) = nat_le low b.target && rising (b.target + 1) bs

-- a branch to one of n states, with a weight of at least 1
abbrev pub sound_branch : ℕ → Branch → Bool
sound_branch n b = nat_lt b.target n && nat_lt 0 b.weight

-- A step of a model of n states: at least one branch, targets that exist and rise, weights of at least 1, a total of at
-- most z.
abbrev pub lawful_step : ℕ → ℕ → Step → Bool
lawful_step n z a =
    nat_lt a.action 32 && nat_lt 0 (length a.branches) && rising 0 a.branches
    && list_all (sound_branch n) a.branches && nat_le (total a) z

-- The laws of a model. One without states has both measures 0.
abbrev pub lawful : Model → Bool
lawful m =
    nat_le (count m) 64 && nat_le m.p 300 && nat_le m.z 1000000000
    && (nat_lt 0 (count m) || (m.p == 0 && m.z == 0))
    && list_all (λ row. nat_le (length row) m.p && list_all (lawful_step (count m) m.z) row) m.states

-- What stands for a step or a branch that does not exist.
abbrev pub no_step : Step
no_step = record { action = 0; branches = [] }

abbrev pub no_branch : Branch
no_branch = record { target = 0; weight = 0 }

-- What a question about a state, a step or a branch is answered from; where there is none, from nothing.
abbrev pub steps_of : Model → ℕ → List Step
steps_of m s = slice_index_or m.states s []

abbrev pub step_at : Model → ℕ → ℕ → Step
step_at m s i = slice_index_or (steps_of m s) i no_step

abbrev pub branch_at : Model → ℕ → ℕ → ℕ → Branch
branch_at m s i j = slice_index_or (step_at m s i).branches j no_branch
