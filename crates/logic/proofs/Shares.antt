-- The share of a step's weight that goes to a set, branch by branch and as a word has it. Assumes nothing.
use Rattle.std.proofs.Common.{◌≡◌, ℕ, ◌≤◌, Bool, true, cond, not, length, get_or, filter, refl, ◌∙◌, arith}
use Rattle.std.specs.List.{range_with_len, sum_by}
use Rattle.std.proofs.ByRecursion.{All-weaker}
use Rattle.std.proofs.lemmas.List.Filters.{sum_by-filter_both}
use Rattle.model.specs.Model.{Model, Step, count, lawful, no_branch, step_at, total}
use Rattle.model.specs.declared.Branch.{Branch}
use Rattle.model.proofs.Laws.{targets_inside}
use Rattle.theory.specs.Sentences.{StateSet, share}
use Rattle.theory.proofs.Tests.{share_same}
use Rattle.logic.specs.Words.{has, word}
use Rattle.logic.proofs.Chains.{sum_places, sum_tested}
use Rattle.logic.proofs.Words.{has_word}

abbrev in_set : StateSet → Branch → Bool
in_set X b = X b.target

pub share_at_most : (X : StateSet) (a : Step) → share X a ≤ total a
share_at_most X a =
    let both = sum_by-filter_both (in_set X) (λ b. not (in_set X b)) (λ b. refl) (λ b. b.weight) a.branches in omega arith

-- summed branch by branch
pub share_by_branch : (X : StateSet) (a : Step)
    → let at : ℕ → Branch = λ j. get_or a.branches j no_branch in
    sum_by (λ j. (at j).weight) (filter (λ j. X (at j).target) (range_with_len 0 (length a.branches))) ≡ share X a
share_by_branch X a = sum_places a.branches no_branch (λ b. b.weight) (in_set X)

-- the same with each branch, 0 where it leads elsewhere
pub share_tested : (X : StateSet) (a : Step)
    → let at : ℕ → Branch = λ j. get_or a.branches j no_branch in
    sum_by (λ j. cond (X (at j).target) (at j).weight 0) (range_with_len 0 (length a.branches)) ≡ share X a
share_tested X a =
    let at : ℕ → Branch = λ j. get_or a.branches j no_branch in
    sum_tested (λ j. (at j).weight) (λ j. X (at j).target) (range_with_len 0 (length a.branches)) ∙ share_by_branch X a

module _ (m : Model) (law : lawful m ≡ true) (s i : ℕ) where
  -- the word of a set gives the share of the set
  pub share_of_word : (X : StateSet) → share (has (word (count m) X)) (step_at m s i) ≡ share X (step_at m s i)
  share_of_word X =
      share_same (has (word (count m) X)) X (step_at m s i)
      (All-weaker _ _ (λ b h. has_word (count m) X b.target h) (step_at m s i).branches (targets_inside m law s i))
