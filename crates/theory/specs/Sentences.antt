-- Sentences: numbered lines, each over earlier ones; where they hold, and how deep they are. Assumes nothing.
use Rattle.std.specs.Prelude.{ℕ, ◌+◌, ◌-◌, ◌*◌, Bool, true, false, not, ◌&&◌, List, [], ◌∷◌, ◌++◌, map, length, filter, ◌==◌, nat_le, nat_lt, slice_index, slice_index_or}
use Rattle.std.specs.List.{list_all, list_any}
use Rattle.model.specs.Lists.{greatest}
use Rattle.model.specs.Model.{Model, Step, mass, steps_of, total}
use Rattle.theory.specs.declared.Part.{Part}

-- lines are named by their numbers, which count from 1
pub data Line : Type 0 where
  not_of : ℕ → Line
  all_of : List ℕ → Line
  any_of : List ℕ → Line
  step_to : ℕ → List Part → Line

-- the line numbers that a line names
abbrev pub names : Line → List ℕ
names (not_of i) = i ∷ []
names (all_of is) = is
names (any_of is) = is
names (step_to act qs) = map (λ q. q.line) qs

-- a share of at most the whole
abbrev pub sound_share : Part → Bool
sound_share q = nat_lt 0 q.m && nat_le q.m 1000000000 && nat_le q.k q.m

-- what holds of the numbers of a line, other than line numbers
abbrev pub in_range : Line → Bool
in_range (not_of i) = true
in_range (all_of is) = true
in_range (any_of is) = true
in_range (step_to act qs) = nat_lt act 32 && list_all sound_share qs

-- j is the number of one of the first i lines
abbrev pub one_of_first : ℕ → ℕ → Bool
one_of_first i j = nat_lt 0 j && nat_le j i

-- a line that may stand behind i others
abbrev pub fits_after : ℕ → Line → Bool
fits_after i l = list_all (one_of_first i) (names l) && in_range l

abbrev pub well_formed_from : ℕ → List Line → Bool
well_formed_from i [] = true
well_formed_from i (l ∷ ls) = fits_after i l && well_formed_from (i + 1) ls

-- A sentence has at least one line, and each line names earlier ones only.
abbrev pub well_formed : List Line → Bool
well_formed ls = nat_lt 0 (length ls) && well_formed_from 0 ls

abbrev pub StateSet : Type 0
StateSet = ℕ → Bool

abbrev pub nowhere : StateSet
nowhere s = false

-- the set of line i, where the sets of the lines so far are given
abbrev pub set_of : List StateSet → ℕ → StateSet
set_of sets i = slice_index_or sets (i - 1) nowhere

-- how much of a step's weight goes to a set
abbrev pub share : StateSet → Step → ℕ
share X a = mass (filter (λ b. X b.target) a.branches)

-- at least k of m of the step's weight goes to the set of the part's line
abbrev pub part_holds : List StateSet → Step → Part → Bool
part_holds sets a q = nat_le (q.k * total a) (share (set_of sets q.line) a * q.m)

abbrev pub line_holds : Model → List StateSet → Line → StateSet
line_holds m sets (not_of i) s = not (set_of sets i s)
line_holds m sets (all_of is) s = list_all (λ i. set_of sets i s) is
line_holds m sets (any_of is) s = list_any (λ i. set_of sets i s) is
line_holds m sets (step_to act qs) s = list_any (λ a. (a.action == act) && list_all (part_holds sets a) qs) (steps_of m s)

-- the sets of all lines, those in front being known
abbrev pub sets_from : Model → List StateSet → List Line → List StateSet
sets_from m sets [] = sets
sets_from m sets (l ∷ ls) = sets_from m (sets ++ line_holds m sets l ∷ []) ls

-- where each line of a sentence holds
abbrev pub sets_of : Model → List Line → List StateSet
sets_of m ls = sets_from m [] ls

-- where a sentence holds: its last line
abbrev pub holds : Model → List Line → StateSet
holds m ls = set_of (sets_of m ls) (length ls)

-- what a line adds to the depth of those that it names
abbrev pub own_depth : Line → ℕ
own_depth (not_of i) = 0
own_depth (all_of is) = 0
own_depth (any_of is) = 0
own_depth (step_to act qs) = 1

-- the depth of line i, where the depths of the lines so far are given
abbrev pub depth_at : List ℕ → ℕ → ℕ
depth_at depths i = slice_index depths (i - 1)

abbrev pub line_depth : List ℕ → Line → ℕ
line_depth depths l = greatest (map (depth_at depths) (names l)) + own_depth l

abbrev pub depths_from : List ℕ → List Line → List ℕ
depths_from depths [] = depths
depths_from depths (l ∷ ls) = depths_from (depths ++ line_depth depths l ∷ []) ls

-- how deep each line of a sentence is
abbrev pub depths_of : List Line → List ℕ
depths_of ls = depths_from [] ls

-- how deep a sentence is: its last line
abbrev pub depth : List Line → ℕ
depth ls = depth_at (depths_of ls) (length ls)
