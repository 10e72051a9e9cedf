-- What is proved of sentences, of matching and of the rounds of a comparison. Assumes nothing.
use Rattle.std.specs.Prelude.{◌≡◌, ℕ, suc, ◌⊎◌, false, ◌+◌, ◌<◌, ◌≤◌, Bool, true, List, [], length, filter, slice_index_or}
use Rattle.std.specs.List.{AllByRecursion}
use Rattle.model.specs.Model.{Model, Step, count, lawful, rising}
use Rattle.model.specs.declared.Branch.{Branch}
use Rattle.theory.specs.Telling.{sentence}
use Rattle.theory.specs.Matching.{Holds, Matches, Relation, cut, has_target, matches, most, surplus}
use Rattle.theory.specs.Stages.{Bisimulation, before, levels, settled, stage, unparted}
use Rattle.theory.specs.Sentences.{all_of, Line, depth, depth_at, depths_of, holds, line_depth, line_holds, set_of, sets_of, well_formed}

-- In a well-formed sentence each line holds where its kind says, over the sets of the lines that it names, and is as deep
-- as its kind says, over their depths.
abbrev pub LinesMean : Type 0
LinesMean =
    (m : Model) (ls : List Line) → well_formed ls ≡ true → (i : ℕ) → i < length ls
    → ((s : ℕ) → set_of (sets_of m ls) (i + 1) s ≡ line_holds m (sets_of m ls) (slice_index_or ls i (all_of [])) s)
    × (depth_at (depths_of ls) (i + 1) ≡ line_depth (depths_of ls) (slice_index_or ls i (all_of [])))

-- A sentence of depth 0 tells no two states apart.
abbrev pub DepthZeroConstant : Type 0
DepthZeroConstant = (m : Model) (ls : List Line) → depth ls ≡ 0 → (s t : ℕ) → holds m ls s ≡ holds m ls t

-- The test for a match passes exactly where there is a weight function.
abbrev pub MatchExact : Type 0
MatchExact =
    (R : Relation) (a b : Step) → rising 0 a.branches ≡ true → rising 0 b.branches ≡ true
    → (matches R a b ≡ true → Matches (Holds R) a b) × (Matches (Holds R) a b → matches R a b ≡ true)

-- The cut is of greatest surplus. No set of branches, which is what some test keeps, is of a greater one, and a set of as
-- great a surplus has all targets of the cut: so it is at least as large as the cut, and where it is as large, it is the cut.
-- So there is only one smallest set of greatest surplus.
abbrev pub CutExact : Type 0
CutExact =
    (R : Relation) (a b : Step) → rising 0 a.branches ≡ true
    → (surplus R a b (cut R a b) ≡ most R a b)
    × ((keep : Branch → Bool) → surplus R a b (filter keep a.branches) ≤ most R a b)
    × ((keep : Branch → Bool) → surplus R a b (filter keep a.branches) ≡ most R a b
    → AllByRecursion (λ u. has_target u.target (cut R a b) ≡ true → keep u ≡ true) a.branches
    × (length (cut R a b) ≤ length (filter keep a.branches))
    × (length (filter keep a.branches) ≡ length (cut R a b) → filter keep a.branches ≡ cut R a b))

-- Each stage is an equivalence on the states, inside those before it.
abbrev pub StagesExact : Type 0
StagesExact =
    (m : Model) → lawful m ≡ true → (k : ℕ)
    → ((s t : ℕ) → stage m k s t ≡ true → (s < count m) × (t < count m))
    × ((s : ℕ) → s < count m → stage m k s s ≡ true)
    × ((s t : ℕ) → stage m k s t ≡ true → stage m k t s ≡ true)
    × ((s t u : ℕ) → stage m k s t ≡ true → stage m k t u ≡ true → stage m k s u ≡ true)
    × ((j s t : ℕ) → j ≤ k → stage m k s t ≡ true → stage m j s t ≡ true)

-- The levels of r rounds hold the stages up to r, and a level once set stays.
abbrev pub LevelsExact : Type 0
LevelsExact =
    (m : Model) → lawful m ≡ true → (r s t : ℕ) → s < count m → t < count m
    → (unparted (levels m r) s t ≡ stage m r s t)
    × ((k : ℕ) → k ≤ r → before (levels m r) (suc k) s t ≡ stage m k s t)
    × (levels m r s t ≤ r)
    × ((q d : ℕ) → r ≤ q → levels m r s t ≡ suc d → levels m q s t ≡ suc d)

-- Once settled, the unparted pairs are those that some bisimulation relates. A contract names no statement over all
-- relations into Type 0, so this one is over the relations that can be asked.
abbrev pub SettledExact : Type 0
SettledExact =
    (m : Model) → lawful m ≡ true → (r s t : ℕ) → s < count m → t < count m → settled m r (levels m r) ≡ true
    → (levels m r s t ≡ 0 → (R : Relation) × Bisimulation m (Holds R) × Holds R s t)
    × ((R : Relation) → Bisimulation m (Holds R) → Holds R s t → levels m r s t ≡ 0)

-- The same over all relations, which proofs/Settled.antt proves and no contract names.
abbrev pub SettledExactWide : Type 1
SettledExactWide =
    (m : Model) → lawful m ≡ true → (r s t : ℕ) → s < count m → t < count m → settled m r (levels m r) ≡ true
    → (levels m r s t ≡ 0 → (R : ℕ → ℕ → Type 0) × Bisimulation m R × R s t)
    × ((R : ℕ → ℕ → Type 0) → Bisimulation m R → R s t → levels m r s t ≡ 0)

-- After at least as many rounds as states, the last round parted nothing.
abbrev pub RoundsBounded : Type 0
RoundsBounded = (m : Model) → lawful m ≡ true → 0 < count m → (r : ℕ) → count m ≤ r → settled m r (levels m r) ≡ true

-- a sentence that holds in s and not in t
pub record Tells (m : Model) (s t : ℕ) (φ : List Line) : Type 0 where
  pub formed : well_formed φ ≡ true
  pub in_s : holds m φ s ≡ true
  pub not_in_t : holds m φ t ≡ false

-- a sentence that holds in only one of the two
abbrev pub Splits : Model → ℕ → ℕ → List Line → Type 0
Splits m s t φ = Tells m s t φ ⊎ Tells m t s φ

-- Two states that round d parted are split by a sentence of depth d, the one that is made from the levels, and by none
-- that is less deep.
abbrev pub PartedExact : Type 0
PartedExact =
    (m : Model) → lawful m ≡ true → (r s t d : ℕ) → s < count m → t < count m → 0 < d → levels m r s t ≡ d
    → (d ≤ r)
    × Tells m s t (sentence m r (levels m r) s t)
    × (depth (sentence m r (levels m r) s t) ≡ d)
    × ((φ : List Line) → Splits m s t φ → d ≤ depth φ)

-- Two states that r rounds leave together are split by no sentence of depth at most r.
abbrev pub UnpartedExact : Type 0
UnpartedExact =
    (m : Model) → lawful m ≡ true → (r s t : ℕ) → s < count m → t < count m → levels m r s t ≡ 0
    → (φ : List Line) → depth φ ≤ r → Splits m s t φ → ⊥
