-- The sentence that holds in s and not in t, from the rounds that parted the pairs. Assumes nothing.
use Rattle.std.specs.Prelude.{ℕ, ◌+◌, ◌-◌, min, max, Bool, cond, not, ◌&&◌, List, [], ◌∷◌, ◌++◌, map, reverse, length, filter, ◌==◌, nat_lt, slice_index_or, flat_map}
use Rattle.std.specs.List.{range_with_len, list_any, position_or_len}
use Rattle.model.specs.Model.{Model, Step, mass, no_step, steps_of, total}
use Rattle.model.specs.declared.Branch.{Branch}
use Rattle.theory.specs.Matching.{Relation, cut, matches}
use Rattle.theory.specs.Stages.{Levels, before, states}
use Rattle.theory.specs.Sentences.{all_of, any_of, Line, not_of, step_to}
use Rattle.theory.specs.declared.Part.{Part}

-- two states, the smaller first
pub record Pair : Type 0 where
  pub small : ℕ
  pub large : ℕ

abbrev pub pair : ℕ → ℕ → Pair
pair s t = record { small = min s t; large = max s t }

abbrev pub same_pair : Pair → Pair → Bool
same_pair x y = (x.small == y.small) && (x.large == y.large)

-- the first step of s that matches no step of t
abbrev pub unmatched : Model → Relation → ℕ → ℕ → ℕ
unmatched m R s t = position_or_len (λ a. not (list_any (λ b. matches R a b) (steps_of m t))) (steps_of m s)

-- whether the smaller state has a step that matches no step of the larger
abbrev pub small_moves : Model → Relation → Pair → Bool
small_moves m R q = nat_lt (unmatched m R q.small q.large) (length (steps_of m q.small))

-- the state that has such a step, the smaller where both have one, and the other state
abbrev pub mover : Model → Relation → Pair → ℕ
mover m R q = cond (small_moves m R q) q.small q.large

abbrev pub other : Model → Relation → Pair → ℕ
other m R q = cond (small_moves m R q) q.large q.small

-- the step that moves
abbrev pub move : Model → Relation → Pair → Step
move m R q = slice_index_or (steps_of m (mover m R q)) (unmatched m R (mover m R q) (other m R q)) no_step

-- the steps of the other state with the same action
abbrev pub rivals : Model → Relation → Pair → List Step
rivals m R q = filter (λ b. b.action == (move m R q).action) (steps_of m (other m R q))

-- the targets of b that are parted from u
abbrev pub apart : Relation → Branch → Step → List Branch
apart R u b = filter (λ v. not (R u.target v.target)) b.branches

-- the pairs to which the lines of a pair refer
abbrev pub refers : Model → Relation → Pair → List Pair
refers m R q =
    flat_map (λ b. flat_map (λ u. map (λ v. pair u.target v.target) (apart R u b)) (cut R (move m R q) b)) (rivals m R q)

-- the round that parted a pair
abbrev pub level_of : Levels → Pair → ℕ
level_of L q = L q.small q.large

-- what stood together before the round that parted a pair
abbrev pub until : Levels → Pair → Relation
until L q = before L (level_of L q)

-- the pairs parted in round d: by smaller state, then larger
abbrev pub parted_in : Model → Levels → ℕ → List Pair
parted_in m L d =
    flat_map (λ s. map (λ t. pair s t) (filter (λ t. nat_lt s t && (L s t == d)) (states m))) (states m)

-- all parted pairs, by round
abbrev pub parted : Model → ℕ → Levels → List Pair
parted m r L = flat_map (parted_in m L) (range_with_len 1 r)

-- from the deepest pair down: keep each that is wanted, and want what it refers to
abbrev pub keep : Model → Levels → List Pair → List Pair → List Pair → List Pair
keep m L wanted kept [] = kept
keep m L wanted kept (q ∷ qs) =
    cond (list_any (same_pair q) wanted) (keep m L (refers m (until L q) q ++ wanted) (q ∷ kept) qs) (keep m L wanted kept qs)

-- the pairs that the sentence for s and t needs, in the order of their lines
abbrev pub needed : Model → ℕ → Levels → ℕ → ℕ → List Pair
needed m r L s t = keep m L (pair s t ∷ []) [] (reverse (parted m r L))

-- where the step-line of a pair stands, and the state of the two in which it holds; its not-line stands next
pub record Place : Type 0 where
  pub of : Pair
  pub number : ℕ
  pub holds_in : ℕ

-- the line that holds in u and not in v
abbrev pub line_for : List Place → ℕ → ℕ → ℕ
line_for [] u v = 0
line_for (x ∷ xs) u v = cond (same_pair x.of (pair u v)) (cond (x.holds_in == u) x.number (x.number + 1)) (line_for xs u v)

-- for each member of the cut, what sets it apart from the rival's targets
abbrev pub apart_lines : List Place → Relation → List Branch → Step → List Line
apart_lines places R U b = map (λ u. all_of (map (λ v. line_for places u.target v.target) (apart R u b))) U

-- lines, and the parts of a step-line that name some of them
pub record Block : Type 0 where
  pub lines : List Line
  pub parts : List Part

-- the lines against each rival in turn, the first of them numbered i + 1, and the parts that name their any-lines
abbrev pub against : List Place → Relation → Step → ℕ → List Step → Block
against places R a i [] = record { lines = []; parts = [] }
against places R a i (b ∷ bs) =
    let U : List Branch = cut R a b in
    let rest : Block = against places R a (i + length U + 1) bs in
    record {
      lines = apart_lines places R U b ++ any_of (range_with_len (i + 1) (length U)) ∷ rest.lines;
      parts = record { line = i + length U + 1; k = mass U; m = total a } ∷ rest.parts;
    }

-- the lines of a pair, the first of them numbered i + 1
abbrev pub pair_lines : Model → Levels → List Place → ℕ → Pair → List Line
pair_lines m L places i q =
    let R : Relation = until L q in
    let block : Block = against places R (move m R q) i (rivals m R q) in
    block.lines ++ step_to (move m R q).action block.parts ∷ not_of (i + length block.lines + 1) ∷ []

-- the lines so far, and where those of each pair stand
pub record Written : Type 0 where
  pub lines : List Line
  pub places : List Place

-- the lines of one pair after another
abbrev pub written : Model → Levels → List Place → List Line → List Pair → Written
written m L places lines [] = record { lines = lines; places = places }
written m L places lines (q ∷ qs) =
    let new : List Line = pair_lines m L places (length lines) q in
    let place : Place = record { of = q; number = length lines + length new - 1; holds_in = mover m (until L q) q } in
    written m L (place ∷ places) (lines ++ new) qs

-- The sentence for s and t: the lines of the pairs that it needs, and one line that names the line for s and t.
abbrev pub sentence : Model → ℕ → Levels → ℕ → ℕ → List Line
sentence m r L s t =
    let w : Written = written m L [] [] (needed m r L s t) in
    w.lines ++ all_of (line_for w.places s t ∷ []) ∷ []
