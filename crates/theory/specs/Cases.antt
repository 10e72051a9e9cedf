-- Worked cases, each statement over one list that is computed. Assumes nothing.
use Rattle.std.specs.Prelude.{◌≡◌, ℕ, Bool, true, false, not, ◌&&◌, ◌||◌, List, [], ◌∷◌, ◌++◌, map, ◌==◌}
use Rattle.std.specs.List.{list_all}
use Rattle.model.specs.Model.{Model, Step, lawful}
use Rattle.model.specs.declared.Branch.{Branch}
use Rattle.theory.specs.Matching.{Relation, cut, matches}
use Rattle.theory.specs.Stages.{levels, settled}
use Rattle.theory.specs.Sentences.{all_of, any_of, Line, not_of, step_to, depth, holds, well_formed}
use Rattle.theory.specs.Telling.{sentence}

abbrev branch : ℕ → ℕ → Branch
branch t w = record { target = t; weight = w }

abbrev step : ℕ → List Branch → Step
step a bs = record { action = a; branches = bs }

abbrev model : List (List Step) → Model
model rows = record { states = rows; p = 4; z = 100 }

abbrev same_numbers : List ℕ → List ℕ → Bool
same_numbers [] [] = true
same_numbers [] (y ∷ ys) = false
same_numbers (x ∷ xs) [] = false
same_numbers (x ∷ xs) (y ∷ ys) = (x == y) && same_numbers xs ys

-- two steps of one action to two targets each, with weights 1
abbrev fork : Step
fork = step 0 (branch 1 1 ∷ branch 2 1 ∷ [])

abbrev spoon : Step
spoon = step 0 (branch 3 1 ∷ branch 4 1 ∷ [])

-- the pairs (1, 3), (1, 4), (2, 3), and the first two of them
abbrev three_pairs : Relation
three_pairs u v = ((u == 1) && ((v == 3) || (v == 4))) || ((u == 2) && (v == 3))

abbrev two_pairs : Relation
two_pairs u v = (u == 1) && ((v == 3) || (v == 4))

abbrev matching_results : List Bool
matching_results =
    matches three_pairs fork spoon
    ∷ not (matches two_pairs fork spoon)
    ∷ same_numbers (map (λ u. u.target) (cut two_pairs fork spoon)) (2 ∷ [])
    ∷ []

-- Under the three pairs the steps match; under the two they do not, and the cut is target 2.
abbrev pub MatchingCases : Type 0
MatchingCases = list_all (λ passes. passes) matching_results ≡ true

-- a state without steps
abbrev one_state : Model
one_state = model ([] ∷ [])

-- 0 goes to 1, and 1 to 2
abbrev chain : Model
chain = model ((step 0 (branch 1 1 ∷ []) ∷ []) ∷ (step 0 (branch 2 1 ∷ []) ∷ []) ∷ [] ∷ [])

-- 0 goes by action 1 with weights 1, 1 to 0, 1, and 2 with weights 1, 2 to 2, 3
abbrev coins : Model
coins = model ((step 1 (branch 0 1 ∷ branch 1 1 ∷ []) ∷ []) ∷ [] ∷ (step 1 (branch 2 1 ∷ branch 3 2 ∷ []) ∷ []) ∷ [] ∷ [])

-- 0, 1 and 2 go with weights 1, 1 to 0 and to 1, 2 and 3 each
abbrev ladder : Model
ladder = model (map (λ t. step 0 (branch 0 1 ∷ branch t 1 ∷ []) ∷ []) (1 ∷ 2 ∷ 3 ∷ []) ++ [] ∷ [])

abbrev round_results : List Bool
round_results =
    list_all lawful (one_state ∷ chain ∷ coins ∷ ladder ∷ [])
    ∷ settled one_state 1 (levels one_state 1)
    ∷ (levels chain 3 0 1 == 2)
    ∷ (levels chain 3 0 2 == 1)
    ∷ (levels coins 3 0 2 == 2)
    ∷ settled coins 3 (levels coins 3)
    ∷ not (settled coins 2 (levels coins 2))
    ∷ (levels ladder 4 2 3 == 1)
    ∷ (levels ladder 4 1 2 == 2)
    ∷ (levels ladder 4 0 1 == 3)
    ∷ settled ladder 4 (levels ladder 4)
    ∷ not (settled ladder 3 (levels ladder 3))
    ∷ []

-- Which round parts which states of the four models, and when no round parts more of them.
abbrev pub RoundCases : Type 0
RoundCases = list_all (λ passes. passes) round_results ≡ true

-- the sentence that is made to hold in state 0 of coins and not in state 2
abbrev coins_sentence : List Line
coins_sentence = sentence coins 3 (levels coins 3) 0 2

-- with at least half of the weight, by action 1, to where action 1 is possible
abbrev coins_lines : List Line
coins_lines =
    step_to 1 [] ∷ not_of 1 ∷ all_of (1 ∷ []) ∷ any_of (3 ∷ []) ∷ step_to 1 (record { line = 4; k = 1; m = 2 } ∷ [])
    ∷ not_of 5 ∷ all_of (5 ∷ []) ∷ []

abbrev telling_results : List Bool
telling_results =
    holds coins coins_sentence 0
    ∷ not (holds coins coins_sentence 2)
    ∷ (depth coins_sentence == 2)
    ∷ well_formed coins_sentence
    ∷ []

-- What the sentence is for two coins, a fair and an unfair one, where it holds and how deep it is.
abbrev pub TellingCases : Type 0
TellingCases = (coins_sentence ≡ coins_lines) × (list_all (λ passes. passes) telling_results ≡ true)
