-- When one step matches another under a relation of their targets. Assumes nothing.
use Rattle.std.specs.Prelude.{◌≡◌, ℕ, ◌*◌, ◌-◌, ◌<◌, Bool, true, ◌&&◌, ◌||◌, List, map, filter, sum_by, ◌==◌, nat_lt}
use Rattle.std.specs.List.{AllByRecursion, list_all, list_any}
use Rattle.model.specs.Lists.{greatest, parts}
use Rattle.model.specs.Model.{Step, mass, total}
use Rattle.model.specs.declared.Branch.{Branch}

-- A weight function from the targets of a to those of b: each target of a sends its weight times the total of b, each
-- target of b receives its weight times the total of a, and weight goes only between related targets.
pub record Weights (R : ℕ → ℕ → Type 0) (a b : Step) (w : ℕ → ℕ → ℕ) : Type 0 where
  pub sent : AllByRecursion (λ u. sum_by (λ v. w u.target v.target) b.branches ≡ u.weight * total b) a.branches
  pub received : AllByRecursion (λ v. sum_by (λ u. w u.target v.target) a.branches ≡ v.weight * total a) b.branches
  pub related : AllByRecursion (λ u. AllByRecursion (λ v. 0 < w u.target v.target → R u.target v.target) b.branches) a.branches

-- Two steps match when their actions are equal and a weight function exists.
pub record Matches (R : ℕ → ℕ → Type 0) (a b : Step) : Type 0 where
  pub action : a.action ≡ b.action
  pub w : ℕ → ℕ → ℕ
  pub weights : Weights R a b w

-- a relation that can be asked
abbrev pub Relation : Type 0
Relation = ℕ → ℕ → Bool

abbrev pub Holds : Relation → ℕ → ℕ → Type 0
Holds R u v = R u v ≡ true

-- the targets of b to which a member of U stands
abbrev pub image : Relation → List Branch → Step → List Branch
image R U b = filter (λ v. list_any (λ u. R u.target v.target) U) b.branches

-- how much more U weighs, of a, than what it stands to weighs of b; 0 where it does not weigh more
abbrev pub surplus : Relation → Step → Step → List Branch → ℕ
surplus R a b U = mass U * total b - mass (image R U b) * total a

-- The test for a match: equal actions, and no set of targets has a surplus.
abbrev pub matches : Relation → Step → Step → Bool
matches R a b = (a.action == b.action) && list_all (λ U. surplus R a b U == 0) (parts a.branches)

-- the greatest surplus of a set of targets
abbrev pub most : Relation → Step → Step → ℕ
most R a b = greatest (map (surplus R a b) (parts a.branches))

-- whether a set of branches has one with a target
abbrev pub has_target : ℕ → List Branch → Bool
has_target t U = list_any (λ u. u.target == t) U

-- the cut: the targets that lie in every set of greatest surplus
abbrev pub cut : Relation → Step → Step → List Branch
cut R a b =
    filter (λ u. list_all (λ U. nat_lt (surplus R a b U) (most R a b) || has_target u.target U) (parts a.branches)) a.branches
