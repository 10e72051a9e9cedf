-- The step that a held one stands for, and what becomes of it where a branch is added. Assumes nothing.
use Rattle.std.specs.Prelude.{ℕ, ◌+◌, Bool, not, is_some, ◌&&◌, List, [], ◌∷◌, ◌++◌, if◌then◌else◌, Option, None, Some, ◌==◌, nat_lt}
use Rattle.std.specs.List.{list_all}
use Rattle.model.specs.Model.{Step, total}
use Rattle.model.specs.declared.Branch.{Branch}
use Rattle.matching.specs.declared.step.held.HeldStep.{HeldStep}
use Rattle.matching.specs.declared.step.held.Refusal.{Refusal}
use Rattle.matching.specs.declared.step.held.Refusal.TheVariants.{Target, Weight, Total}

-- The branches to the targets from low on, where their weights stand one after another and 0 stands for no branch.
abbrev pub branches_from : ℕ → List ℕ → List Branch
branches_from low [] = []
branches_from low (w ∷ ws) =
    if nat_lt 0 w then record { target = low; weight = w } ∷ branches_from (low + 1) ws else branches_from (low + 1) ws

-- the step that a held one stands for
abbrev pub meaning : HeldStep → Step
meaning s = record { action = s.action; branches = branches_from 0 s.weights }

-- whether a target is a state's number and above those of a step
abbrev pub rises_above : Step → ℕ → Bool
rises_above a t = nat_lt t 64 && list_all (λ c. nat_lt c.target t) a.branches

-- why a branch may not be added as the last one of a step, if it may not
abbrev pub refusal : Step → Branch → Option Refusal
refusal a b =
    if not (rises_above a b.target) then Some Target
    else (if b.weight == 0 then Some Weight else (if nat_lt 1000000000 (total a + b.weight) then Some Total else None))

-- a step with one more branch
abbrev pub with_branch : Step → Branch → Step
with_branch a b = record { action = a.action; branches = a.branches ++ b ∷ [] }

-- a step after a branch was to be added
abbrev pub grown : Step → Branch → Step
grown a b = if is_some (refusal a b) then a else with_branch a b
