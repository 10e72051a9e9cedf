-- Hall's theorem: where every set of sources has enough demand among what it stands to, there is a flow. Assumes nothing.
use Rattle.std.proofs.Common.{◌≡◌, ℕ, zero, suc, ◌+◌, ◌-◌, ◌<◌, ◌≤◌, Bool, true, false, cond, ◌||◌, eqb, leb, ◌⊎◌, List, [], ◌∷◌, map, filter, ap, ◌∙◌, subst, inl, inr, arith}
use mathlib.Core.Path.{fun_ext}
use native.Mathlib.Nat.{sub-zero}
use Rattle.std.specs.List.{AllByRecursion as All, list_all}
use Rattle.std.proofs.lemmas.Bool.Decides.{nat_tests}
use Rattle.std.proofs.ByRecursion.{All-weaker}
use Rattle.std.proofs.lemmas.Bool.{both_ways, cases_Bool, cases_lt, leb-false, leb-true}
use Rattle.model.specs.Lists.{parts}
use Rattle.model.specs.declared.Branch.{Branch}
use Rattle.model.proofs.Tests.{each_true}
use Rattle.theory.specs.Matching.{Relation}
use Rattle.theory.proofs.Tests.{all_always, all_unmap}
use Rattle.theory.proofs.Elements.{all_both, all_split}
use Rattle.theory.proofs.Sums.{filter_none, sum_add, sum_le, sum_of, sum_same, sum_zero}
use Rattle.theory.proofs.Parts.{Rising, Single, all_single, filter_fails, part_filter}
use Rattle.theory.proofs.Demand.{any_union, demand, demand_submodular, hit, meet, sum_modular, union}

-- one unit less at t
abbrev less : (ℕ → ℕ) → ℕ → ℕ → ℕ
less d t k = d k - cond (eqb k t) 1 0

less_split : (h : Bool) (d : ℕ → ℕ) (k t : ℕ) → 0 < d t → cond h (d k) 0 ≡ cond h (less d t k) 0 + cond (eqb k t) (cond h 1 0) 0
less_split h d k t pos = grind (arith, nat_tests)

covered_le : (r h : Bool) (n : ℕ) → (r ≡ true → 0 < n → h ≡ true) → cond (r || h) n 0 ≤ cond h n 0
covered_le r h n c = grind arith

module _ (R : Relation) (s : Branch → ℕ) (ys : List Branch) where
  abbrev pub need : (ℕ → ℕ) → List Branch → ℕ
  need d U = demand R ys (λ v. d v.target) U

  abbrev pub Enough : (ℕ → ℕ) → List Branch → Type 0
  Enough d U = sum_of s U ≤ need d U

  need_less : (d : ℕ → ℕ) (y : Branch) → 0 < d y.target → Single ys y → (U : List Branch)
      → need d U ≡ need (less d y.target) U + cond (hit R U y) 1 0
  need_less d y pos single U =
      sum_same _ _ ys (all_always _ (λ v. less_split (hit R U v) d v.target y.target pos) ys)
      ∙ (sum_add _ _ ys ∙ ap (λ n. need (less d y.target) U + n) (single (λ v. cond (hit R U v) 1 0)))

  module _ (x : Branch) (xs : List Branch) (d : ℕ → ℕ) where
    -- all that the set stands to is needed
    abbrev Tight : (Branch → Bool) → Type 0
    Tight p = need d (filter p xs) ≤ sum_of s (filter p xs)

    -- a unit can go from x to y
    record Sendable (y : Branch) : Type 0 where
      related : R x.target y.target ≡ true
      asks : 0 < d y.target
      single : Single ys y
      enough : All (Enough (less d y.target)) (parts xs)

    abbrev Covers : (Branch → Bool) → Branch → Type 0
    Covers p z = R x.target z.target ≡ true → 0 < d z.target → hit R (filter p xs) z ≡ true

    tight_none : Tight (λ u. false)
    tight_none = rw (filter_none xs) (omega (arith, sum_zero ys))

    tight_union : All (Enough d) (parts xs) → (p q : Branch → Bool) → Tight p → Tight q → Tight (union p q)
    tight_union enough p q tp tq =
        let under : Enough d (filter (meet p q) xs) = part_filter (Enough d) (meet p q) xs enough in
        omega (arith, sum_modular p q s xs, demand_submodular R ys (λ v. d v.target) p q xs)

    -- one target: either a unit can go there, or a tight set covers it
    sendable_or_covered : Rising xs → All (Enough d) (parts xs) → (z : Branch) → Single ys z
        → Sendable z ⊎ ((q : Branch → Bool) × Tight q × Covers q z)
    sendable_or_covered rises enough z single =
        let test : List Branch → Bool = λ U. leb (sum_of s U) (need (less d z.target) U) in
        elim (cases_Bool (R x.target z.target)) [
          | inr unrelated ↦ inr ((λ u. false), tight_none, (λ rel pos. absurd (both_ways _ unrelated rel)))
          | inl rel ↦ elim (cases_lt 0 (d z.target)) [
            | inr none ↦ inr ((λ u. false), tight_none, (λ rel pos. absurd (omega arith)))
            | inl pos ↦ elim (cases_Bool (list_all test (parts xs))) [
              | inl passes ↦ inl (record {
                related = rel;
                asks = pos;
                single = single;
                enough = All-weaker _ _ (λ U h. leb-true _ _ h) (parts xs) (each_true test (parts xs) passes);
              })
              | inr fails ↦
                  let r : (q : Branch → Bool) × (test (filter q xs) ≡ false) = filter_fails test xs rises fails in
                  let K : List Branch = filter r.0 xs in
                  let over : need (less d z.target) K < sum_of s K = leb-false _ _ r.1 in
                  let under : sum_of s K ≤ need d K = part_filter (Enough d) r.0 xs enough in
                  let split : need d K ≡ need (less d z.target) K + cond (hit R K z) 1 0 = need_less d z pos single K in
                  inr (r.0, grind arith, (λ rel pos. grind arith))
            ]
          ]
        ]

    some_sendable_or_covered : Rising xs → All (Enough d) (parts xs) → (zs : List Branch) → All (Single ys) zs
        → ((y : Branch) × Sendable y) ⊎ ((p : Branch → Bool) × Tight p × All (Covers p) zs)
    some_sendable_or_covered rises enough [] single = inr ((λ u. false), tight_none, tt)
    some_sendable_or_covered rises enough (z ∷ zs) single =
        elim (some_sendable_or_covered rises enough zs single.1) [
          | inl found ↦ inl found
          | inr r ↦ elim (sendable_or_covered rises enough z single.0) [
            | inl here ↦ inl (z, here)
            | inr r' ↦
                let p : Branch → Bool = r.0 in
                let q : Branch → Bool = r'.0 in
                let both : (v : Branch) → hit R (filter (union p q) xs) v ≡ (hit R (filter p xs) v || hit R (filter q xs) v) =
                λ v. any_union p q (λ u. R u.target v.target) xs in
                inr (
                  union p q,
                  tight_union enough p q r.1 r'.1,
                  ((λ rel pos. grind (arith, both z, r'.2)), All-weaker _ _ (λ v c rel pos. grind (arith, both v)) zs r.2),
                )
          ]
        ]

    some_sendable : (m : ℕ) → Rising xs → Rising ys
        → All (Enough d) (parts xs) → All (λ U. suc m + sum_of s U ≤ need d (x ∷ U)) (parts xs) → (y : Branch) × Sendable y
    some_sendable m rises rises_ys enough more =
        elim (some_sendable_or_covered rises enough ys (all_single ys rises_ys)) [
          | inl found ↦ found
          | inr r ↦
              let K : List Branch = filter r.0 xs in
              let a : suc m + sum_of s K ≤ need d (x ∷ K) = part_filter _ r.0 xs more in
              let b : need d (x ∷ K) ≤ need d K = sum_le _ _ ys (All-weaker _ _ (λ v c. covered_le _ _ _ c) ys r.2) in
              absurd (omega (arith, r.1))
        ]

  -- what x sends of n, so that enough is left
  record Row (x : Branch) (xs : List Branch) (n : ℕ) (d : ℕ → ℕ) : Type 0 where
    t : ℕ → ℕ
    related : (k : ℕ) → 0 < t k → R x.target k ≡ true
    within : (k : ℕ) → t k ≤ d k
    sent : sum_of (λ v. t v.target) ys ≡ n
    enough : All (Enough (λ k. d k - t k)) (parts xs)

  row_exists : (x : Branch) (xs : List Branch) → Rising xs → Rising ys → (n : ℕ) (d : ℕ → ℕ)
      → All (Enough d) (parts xs) → All (λ U. n + sum_of s U ≤ need d (x ∷ U)) (parts xs) → Row x xs n d
  row_exists x xs rises rises_ys zero d enough more =
      record {
        t = λ k. 0;
        related = λ k h. absurd (omega arith);
        within = λ k. omega arith;
        sent = sum_zero ys;
        enough = simp sub-zero enough;
      }
  row_exists x xs rises rises_ys (suc n) d enough more =
      let g : (y : Branch) × Sendable x xs d y = some_sendable x xs d n rises rises_ys enough more in
      let y : Branch = g.0 in
      let here : 0 < d y.target = g.1.asks in
      let more' : All (λ U. n + sum_of s U ≤ need (less d y.target) (x ∷ U)) (parts xs) =
      All-weaker _ _ (λ U h. let rel = g.1.related in let e = need_less d y here g.1.single (x ∷ U) in grind arith) (parts xs) more in
      let r : Row x xs n (less d y.target) = row_exists x xs rises rises_ys n (less d y.target) g.1.enough more' in
      record {
        t = λ k. r.t k + cond (eqb k y.target) 1 0;
        related = λ k h. let rel = g.1.related in grind (arith, nat_tests, r.related k);
        within = λ k. grind (arith, nat_tests, r.within k);
        sent = sum_add _ _ ys ∙ omega (arith, r.sent, g.1.single (λ v. 1));
        enough = subst (λ f. All (Enough f) (parts xs)) (fun_ext (λ k. omega arith)) r.enough;
      }

  -- what the sources send
  pub record Flow (xs : List Branch) (d : ℕ → ℕ) : Type 0 where
    pub w : ℕ → ℕ → ℕ
    pub sent : All (λ u. sum_of (λ v. w u.target v.target) ys ≡ s u) xs
    pub received : (k : ℕ) → sum_of (λ u. w u.target k) xs ≤ d k
    pub related : All (λ u. (k : ℕ) → 0 < w u.target k → R u.target k ≡ true) xs

  -- x sends t, and the others what they sent
  abbrev with_source : Branch → (ℕ → ℕ) → (ℕ → ℕ → ℕ) → ℕ → ℕ → ℕ
  with_source x t w i k = cond (eqb i x.target) (t k) (w i k)

  -- one source more
  flow_more : (x : Branch) (xs : List Branch) → All (λ u. x.target < u.target) xs
      → (d : ℕ → ℕ) (r : Row x xs (s x) d) → Flow xs (λ k. d k - r.t k) → Flow (x ∷ xs) d
  flow_more x xs above d r rest =
      let here : (k : ℕ) → with_source x r.t rest.w x.target k ≡ r.t k = λ k. grind (arith, nat_tests) in
      let later : All (λ u. (k : ℕ) → with_source x r.t rest.w u.target k ≡ rest.w u.target k) xs =
      All-weaker _ _ (λ u l k. grind (arith, nat_tests)) xs above in
      record {
        w = with_source x r.t rest.w;
        sent = (
          sum_same _ _ ys (all_always _ (λ v. here v.target) ys) ∙ r.sent,
          all_both _ _ _ (λ u l e. sum_same _ _ ys (all_always _ (λ v. l v.target) ys) ∙ e) xs later rest.sent,
        );
        received = λ k.
            let same = sum_same _ _ xs (All-weaker _ _ (λ u l. l k) xs later) in
            omega (arith, here k, rest.received k, r.within k);
        related = ((λ k h. r.related k (rw (here k) at h)), all_both _ _ _ (λ u l e k h. e k (rw (l k) at h)) xs later rest.related);
      }

  pub flow_exists : (xs : List Branch) → Rising xs → Rising ys → (d : ℕ → ℕ) → All (Enough d) (parts xs) → Flow xs d
  flow_exists [] rises rises_ys d enough = record { w = λ i k. 0; sent = tt; received = λ k. omega arith; related = tt }
  flow_exists (x ∷ xs) rises rises_ys d enough =
      let halves = all_split (Enough d) (parts xs) (map (λ U. x ∷ U) (parts xs)) enough in
      let r : Row x xs (s x) d =
      row_exists x xs rises.1 rises_ys (s x) d halves.0 (all_unmap (Enough d) (λ U. x ∷ U) (parts xs) halves.1) in
      flow_more x xs rises.0 d r (flow_exists xs rises.1 rises_ys (λ k. d k - r.t k) r.enough)
