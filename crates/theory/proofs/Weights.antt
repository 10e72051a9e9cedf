-- Two steps match exactly where there is a weight function between them. Assumes nothing.
use Rattle.std.proofs.Common.{◌≡◌, ℕ, ◌+◌, ◌*◌, ◌<◌, ◌≤◌, Bool, true, false, cond, ◌||◌, eqb, List, [], ◌∷◌, filter, sym, ap, ◌∙◌, mul_comm, arith}
use Rattle.std.specs.List.{AllByRecursion as All}
use Rattle.std.proofs.ByRecursion.{All-weaker}
use Rattle.model.specs.Lists.{parts}
use Rattle.model.specs.Model.{Step, total}
use Rattle.model.specs.declared.Branch.{Branch}
use Rattle.theory.specs.Matching.{Holds, Matches, Relation, matches, surplus}
use Rattle.theory.specs.Laws.{MatchExact}
use Rattle.theory.proofs.Tests.{all_always}
use Rattle.theory.proofs.Elements.{all_both}
use Rattle.theory.proofs.Sums.{same_from_sum, sum_add, sum_le, sum_of, sum_same, sum_swap, sum_by_is}
use Rattle.theory.proofs.Parts.{Rising, all_single, among, rising_is}
use Rattle.theory.proofs.Demand.{demand, demand_same, hit}
use Rattle.theory.proofs.Hall.{Enough, Flow, flow_exists}
use Rattle.theory.proofs.Surplus.{mass_mul, matches_from_kept, matches_parts, surplus_is}

-- what one source sends, beside what the others send
beside_le : (r h : Bool) (n c : ℕ) → (0 < n → r ≡ true) → n + cond h c 0 ≤ cond (r || h) (n + c) 0
beside_le r h n c k = grind arith

module _ (R : Relation) (s : Branch → ℕ) (ys : List Branch) (w : ℕ → ℕ → ℕ) where
  -- what a set sends arrives where it stands to
  sent_le_demand : (p : Branch → Bool) (xs : List Branch)
      → All (λ u. sum_of (λ v. w u.target v.target) ys ≡ s u) xs
      → All (λ u. All (λ v. 0 < w u.target v.target → R u.target v.target ≡ true) ys) xs
      → sum_of s (filter p xs) ≤ demand R ys (λ v. sum_of (λ u. w u.target v.target) xs) (filter p xs)
  sent_le_demand p [] sent related = omega arith
  sent_le_demand p (x ∷ xs) sent related =
      let K : List Branch = filter p xs in
      let own : Branch → ℕ = λ v. w x.target v.target in
      let rest : Branch → ℕ = λ v. sum_of (λ u. w u.target v.target) xs in
      let ih : sum_of s K ≤ demand R ys rest K = sent_le_demand p xs sent.1 related.1 in
      let sum : sum_of (λ v. own v + cond (hit R K v) (rest v) 0) ys ≡ sum_of own ys + demand R ys rest K = sum_add _ _ ys in
      let taken : sum_of (λ v. own v + cond (hit R K v) (rest v) 0) ys ≤ demand R ys (λ v. own v + rest v) (x ∷ K) =
      sum_le _ _ ys (All-weaker _ _ (λ v k. beside_le _ (hit R K v) (own v) (rest v) k) ys related.0) in
      let left : demand R ys rest K ≤ demand R ys (λ v. own v + rest v) K = sum_le _ _ ys (all_always _ (λ v. grind arith) ys) in
      elim (p x) as (λ b. sum_of s (cond b (x ∷ K) K) ≤ demand R ys (λ v. own v + rest v) (cond b (x ∷ K) K)) [
        | true ↦ omega (arith, sent.0)
        | false ↦ omega arith
      ]

module _ (R : Relation) (a b : Step) where
  -- no set has a surplus where there are weights
  no_surplus : Matches (Holds R) a b → (p : Branch → Bool) → surplus R a b (filter p a.branches) ≡ 0
  no_surplus m p =
      let xs : List Branch = a.branches in
      let ys : List Branch = b.branches in
      let K : List Branch = filter p xs in
      let into : Branch → ℕ = λ v. sum_of (λ u. m.w u.target v.target) xs in
      let up : sum_of (λ u. u.weight * total b) K ≤ demand R ys into K =
      sent_le_demand R _ ys m.w p xs (All-weaker _ _ (λ u e. sym (sum_by_is _ ys) ∙ e) xs m.weights.sent) m.weights.related in
      let same : demand R ys into K ≡ demand R ys (λ v. v.weight * total a) K =
      demand_same R ys _ _ K (All-weaker _ _ (λ v e. sym (sum_by_is _ xs) ∙ e) ys m.weights.received) in
      rw (surplus_is R a b K) (omega arith)

  matches_from_weights : Rising a.branches → Matches (Holds R) a b → matches R a b ≡ true
  matches_from_weights rises m =
      matches_from_kept R a b rises m.action (λ U kept. ap (surplus R a b) (sym kept) ∙ no_surplus m (among U))

  -- what the branches of b with a target ask for
  abbrev asked : ℕ → ℕ
  asked k = sum_of (λ v. cond (eqb v.target k) (v.weight * total a) 0) b.branches

  asked_is : Rising b.branches → All (λ v. asked v.target ≡ v.weight * total a) b.branches
  asked_is rises = All-weaker _ _ (λ v single. single (λ v. v.weight * total a)) b.branches (all_single b.branches rises)

  -- a flow fills what is asked for, since as much is sent as is asked for
  weights_from_flow : Rising b.branches → a.action ≡ b.action
      → Flow R (λ u. u.weight * total b) b.branches a.branches asked → Matches (Holds R) a b
  weights_from_flow rises same r =
      let xs : List Branch = a.branches in
      let ys : List Branch = b.branches in
      let into : Branch → ℕ = λ v. sum_of (λ u. r.w u.target v.target) xs in
      let sent : sum_of into ys ≡ total a * total b =
      sym (sum_swap (λ u v. r.w u.target v.target) xs ys) ∙ (sum_same _ _ xs r.sent ∙ sym (mass_mul xs (total b))) in
      let needed_in_all : sum_of (λ v. asked v.target) ys ≡ total a * total b =
      sum_same _ _ ys (asked_is rises) ∙ (sym (mass_mul ys (total a)) ∙ mul_comm (total b) (total a)) in
      let full : All (λ v. into v ≡ asked v.target) ys =
      same_from_sum _ _ ys (all_always _ (λ v. r.received v.target) ys) (sent ∙ sym needed_in_all) in
      record {
        action = same;
        w = r.w;
        weights = record {
          sent = All-weaker _ _ (λ u e. sum_by_is _ ys ∙ e) xs r.sent;
          received = all_both _ _ _ (λ v e k. sum_by_is _ xs ∙ (e ∙ k)) ys full (asked_is rises);
          related = All-weaker _ _ (λ u h. all_always _ (λ v. h v.target) ys) xs r.related;
        };
      }

  weights_from_matches : Rising a.branches → Rising b.branches → matches R a b ≡ true → Matches (Holds R) a b
  weights_from_matches rises_a rises_b m =
      let s : Branch → ℕ = λ u. u.weight * total b in
      let r = matches_parts R a b m in
      let enough : All (Enough R s b.branches asked) (parts a.branches) =
      All-weaker _ _ (λ U none.
      let same : demand R b.branches (λ v. asked v.target) U ≡ demand R b.branches (λ v. v.weight * total a) U =
      demand_same R b.branches _ _ U (asked_is rises_b) in
      omega (arith, sym (surplus_is R a b U) ∙ none)) (parts a.branches) r.1 in
      weights_from_flow rises_b r.0 (flow_exists R s b.branches a.branches rises_a rises_b asked enough)

pub match_exact : MatchExact
match_exact R a b rise_a rise_b =
    let rises_a : Rising a.branches = rising_is a.branches rise_a in
    let rises_b : Rising b.branches = rising_is b.branches rise_b in
    (weights_from_matches R a b rises_a rises_b, matches_from_weights R a b rises_a)
