-- A step whose targets are k further on: its parts, and that it is lawful among k more states. Assumes nothing.
use Rattle.std.specs.Prelude.{◌≡◌, ℕ, zero, suc, ◌+◌, ◌≤◌, true, cond, List, [], ◌∷◌, map, length, nat_lt, slice_index_or, refl}
use Rattle.std.proofs.Common.{inl, inr, ap, ◌∙◌, arith}
use Rattle.std.proofs.ByRecursion.{All-map, All-weaker}
use Rattle.std.proofs.lemmas.List.{get_or-map, get_or_past, length-map}
use Rattle.std.proofs.lemmas.List.Folds.{fold-map}
use Rattle.std.proofs.lemmas.Bool.{cases_lt, cond_above, cond_below}
use Rattle.std.proofs.lemmas.Bool.Decides.{nat_tests}
use Rattle.model.specs.Model.{Step, no_branch, rising, total}
use Rattle.model.specs.declared.Branch.{Branch}
use Rattle.model.proofs.Laws.{LawfulRow}
use Rattle.sources.specs.Kinds.{moved, moved_branch}

-- the questions that no move changes
pub length_moved : (k : ℕ) (a : Step) → length (moved k a).branches ≡ length a.branches
length_moved k a = length-map a.branches (moved_branch k)

pub total_moved : (k : ℕ) (a : Step) → total (moved k a) ≡ total a
total_moved k a = fold-map _ (moved_branch k) 0 a.branches

-- what is asked of branch j of a step
abbrev pub weight_at : ℕ → Step → ℕ
weight_at j a = (slice_index_or a.branches j no_branch).weight

abbrev pub target_at : ℕ → Step → ℕ
target_at j a = (slice_index_or a.branches j no_branch).target

pub weight_moved : (j k : ℕ) (a : Step) → weight_at j (moved k a) ≡ weight_at j a
weight_moved j k a = at j a.branches
  where
    at : (j : ℕ) (bs : List Branch) → (slice_index_or (map (moved_branch k) bs) j no_branch).weight ≡ (slice_index_or bs j no_branch).weight
    at j [] = refl
    at zero (b ∷ bs) = refl
    at (suc j) (b ∷ bs) = at j bs

-- the only question that a move changes: k more, where there is a branch j
pub target_moved : (j k : ℕ) (a : Step) → target_at j (moved k a) ≡ cond (nat_lt j (length a.branches)) (k + target_at j a) 0
target_moved j k a =
    elim (cases_lt j (length a.branches)) [
      | inl h ↦ ap (λ b. b.target) (get_or-map (moved_branch k) a.branches j no_branch no_branch h) ∙ cond_below j (length a.branches) _ _ h
      | inr h ↦ cond_above j (length a.branches) _ _ _ h
          (ap (λ b. b.target) (get_or_past (map (moved_branch k) a.branches) j no_branch (omega (arith, length_moved k a))))
    ]

module _ (k : ℕ) where
  rising_moved : (low from : ℕ) (bs : List Branch) → from ≤ k + low → rising low bs ≡ true → rising from (map (moved_branch k) bs) ≡ true
  rising_moved low from [] l h = refl
  rising_moved low from (b ∷ bs) l h =
      let rest = rising_moved (b.target + 1) (k + b.target + 1) bs (omega arith) (grind (arith, nat_tests)) in
      grind (arith, nat_tests)

  pub row_moved : (n p z : ℕ) (row : List Step) → LawfulRow n p z row → LawfulRow (k + n) p z (map (moved k) row)
  row_moved n p z row r = (
    omega (arith, r.0, length-map row (moved k)),
    All-map _ (moved k) row (All-weaker _ _ (λ a h. record {
      known = h.known;
      some = omega (arith, h.some, length_moved k a);
      rises = rising_moved 0 0 a.branches (omega arith) h.rises;
      sound = All-map _ (moved_branch k) a.branches (All-weaker _ _ (λ b s. (omega (arith, s.0), s.1)) a.branches h.sound);
      light = omega (arith, h.light, total_moved k a);
    }) row r.1),
  )
