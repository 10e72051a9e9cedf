-- What a match is answered. Assumes nothing.
use Rattle.std.specs.Prelude.{◌≡◌, ◌≢◌, ℕ, Bool, true, false, List, filter, slice_index_or}
use Rattle.model.specs.Model.{Step}
use Rattle.theory.specs.Matching.{Holds, Relation, Weights, cut, has_target}
use Rattle.matching.specs.Tables.{amount}
use Rattle.matching.specs.declared.matching.answer.Matching.{Matching}
use Rattle.matching.specs.declared.matching.answer.Matching.TheVariants.{Matched, Cut, Apart}

abbrev pub is_matched : Matching → Bool
is_matched (Matched w) = true
is_matched (Cut c) = false
is_matched Apart = false

-- which places of a list of marks are true
abbrev pub chosen : List Bool → ℕ → Bool
chosen marks t = slice_index_or marks t false

-- The cut of a under R and b, by place and as branches.
pub record IsCut (R : Relation) (a b : Step) (marks : List Bool) : Type 0 where
  pub action : a.action ≡ b.action
  pub members : (t : ℕ) → chosen marks t ≡ has_target t (cut R a b)
  pub branches : filter (λ u. chosen marks u.target) a.branches ≡ cut R a b

-- What an answer shows: a weight function, the cut, or different actions.
abbrev pub Answers : Relation → Step → Step → Matching → Type 0
Answers R a b (Matched w) = Weights (Holds R) a b (amount w)
Answers R a b (Cut c) = IsCut R a b c
Answers R a b Apart = a.action ≢ b.action
