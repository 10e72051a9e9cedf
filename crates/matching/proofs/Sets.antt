-- Sets of branches, kept by their targets, where the weights stand by target. Assumes nothing.
use Rattle.std.proofs.Common.{◌≡◌, ℕ, zero, suc, ◌+◌, ◌*◌, ◌<◌, Bool, true, false, not, ◌&&◌, ◌||◌, ◌==◌, cond, List, [], ◌∷◌, ◌++◌, length, map, get_or, filter, sum_by, add-mul, zero-add, refl, sym, ap, subst, ◌∙◌, inl, inr, arith}
use Rattle.std.specs.List.{AllByRecursion as All, list_any}
use Rattle.std.proofs.ByRecursion.{All-map}
use Rattle.std.proofs.lemmas.Bool.{cases_Bool, cases_lt, eq-eqb, false≢true, ne_eqb, or_cases, or_right}
use Rattle.std.proofs.lemmas.List.Sums.{sum_by-cons}
use Rattle.model.specs.Lists.{parts}
use Rattle.model.specs.Model.{mass}
use Rattle.model.specs.declared.Branch.{Branch}
use Rattle.matching.specs.Steps.{branches_from}
use Rattle.matching.proofs.Steps.{branches_none, branches_some}
use Rattle.matching.proofs.Sums.{Sum, sum_front, sum_same}
use Rattle.matching.proofs.Balance.{Part}

-- the branches whose targets a test keeps
abbrev pub kept : (ℕ → Bool) → List Branch → List Branch
kept P bs = filter (λ u. P u.target) bs

-- a sum over branches is one over targets
pub sum_targets : (h : Branch → ℕ) (ws : List ℕ) (low : ℕ)
    → ((i : ℕ) → get_or ws i 0 ≡ 0 → h (record { target = low + i; weight = get_or ws i 0 }) ≡ 0)
    → sum_by h (branches_from low ws) ≡ Sum (length ws) (λ i. h (record { target = low + i; weight = get_or ws i 0 }))
sum_targets h [] low z = refl
sum_targets h (w ∷ ws) low z =
    let F : ℕ → ℕ = λ i. h (record { target = low + i; weight = get_or (w ∷ ws) i 0 }) in
    let G : ℕ → ℕ = λ i. h (record { target = low + 1 + i; weight = get_or ws i 0 }) in
    let step : (i : ℕ) → G i ≡ F (suc i) = λ i. ap (λ t. h (record { target = t; weight = get_or ws i 0 })) (omega arith) in
    let rest = sum_targets h ws (low + 1) (λ i e. step i ∙ z (suc i) e) in
    let same = sum_same (length ws) G (λ i. F (suc i)) (λ i l. step i) in
    let front = sum_front (length ws) F in
    let first : F 0 ≡ h (record { target = low; weight = w }) = ap (λ t. h (record { target = t; weight = w })) (omega arith) in
    elim (cases_lt 0 w) [
      | inl pos ↦
          ap (sum_by h) (branches_some low w ws pos)
          ∙ (sum_by-cons h (record { target = low; weight = w }) (branches_from (low + 1) ws) ∙ omega arith)
      | inr none ↦ ap (sum_by h) (branches_none low w ws none) ∙ omega (arith, z 0 (omega arith))
    ]

-- the mass of a set, times k
kept_mass : (Q : Branch → Bool) (k : ℕ) (xs : List Branch) → mass (filter Q xs) * k ≡ sum_by (λ b. cond (Q b) (b.weight * k) 0) xs
kept_mass Q k [] = omega arith
kept_mass Q k (x ∷ xs) =
    let more = sum_by-cons (λ (b : Branch). cond (Q b) (b.weight * k) 0) x xs in
    elim (cases_Bool (Q x)) [
      | inl held ↦
          let m : mass (x ∷ filter Q xs) ≡ x.weight + mass (filter Q xs) = sum_by-cons (λ (b : Branch). b.weight) x (filter Q xs) in
          let here : cond (Q x) (x.weight * k) 0 ≡ x.weight * k = rw held refl in
          ap (λ b. mass (cond b (x ∷ filter Q xs) (filter Q xs)) * k) held
          ∙ (ap (λ n. n * k) m ∙ (add-mul x.weight (mass (filter Q xs)) k ∙ omega (arith, kept_mass Q k xs)))
      | inr left ↦
          let here : cond (Q x) (x.weight * k) 0 ≡ 0 = rw left refl in
          ap (λ b. mass (cond b (x ∷ filter Q xs) (filter Q xs)) * k) left ∙ omega (arith, kept_mass Q k xs)
    ]

-- a kept target that passes a test
pub any_kept : (f P : ℕ → Bool) (ws : List ℕ) (low i t : ℕ) → t ≡ low + i → 0 < get_or ws i 0 → P t ≡ true → f t ≡ true
    → list_any (λ u. f u.target) (kept P (branches_from low ws)) ≡ true
any_kept f P [] low i t e pos p q = absurd (omega arith)
any_kept f P (w ∷ ws) low zero t e pos p q =
    let here : t ≡ low = omega arith in
    rw (branches_some low w ws pos, rw here at p, rw here at q) refl
any_kept f P (w ∷ ws) low (suc i) t e pos p q =
    let rest = any_kept f P ws (low + 1) i t (omega arith) pos p q in
    elim (cases_lt 0 w) [
      | inl some ↦
          rw (branches_some low w ws some)
          (elim (P low) as (λ b. list_any (λ u. f u.target) (cond b (record { target = low; weight = w } ∷ kept P (branches_from (low + 1) ws)) (kept P (branches_from (low + 1) ws))) ≡ true) [
            | true ↦ or_right (f low) _ rest
            | false ↦ rest
          ])
      | inr none ↦ rw (branches_none low w ws none) rest
    ]

-- a target that is kept and passes a test
pub record Found (f P : ℕ → Bool) (ws : List ℕ) (low : ℕ) : Type 0 where
  pub place : ℕ
  pub some : 0 < get_or ws place 0
  pub kept : P (low + place) ≡ true
  pub passes : f (low + place) ≡ true

further : (f P : ℕ → Bool) (w : ℕ) (ws : List ℕ) (low : ℕ) → Found f P ws (low + 1) → Found f P (w ∷ ws) low
further f P w ws low h =
    let e : low + 1 + h.place ≡ low + suc h.place = omega arith in
    record { place = suc h.place; some = h.some; kept = ap P (sym e) ∙ h.kept; passes = ap f (sym e) ∙ h.passes }

pub found : (f P : ℕ → Bool) (ws : List ℕ) (low : ℕ) → list_any (λ u. f u.target) (kept P (branches_from low ws)) ≡ true
    → Found f P ws low
found f P [] low h = absurd (false≢true h)
found f P (w ∷ ws) low h =
    elim (cases_lt 0 w) [
      | inr none ↦ further f P w ws low (found f P ws (low + 1) (rw (branches_none low w ws none) at h))
      | inl some ↦
          let h' : list_any (λ u. f u.target) (kept P (record { target = low; weight = w } ∷ branches_from (low + 1) ws)) ≡ true =
          rw (branches_some low w ws some) at h in
          elim (cases_Bool (P low)) [
            | inr left ↦ further f P w ws low (found f P ws (low + 1) (rw left at h'))
            | inl held ↦
                let both : (f low || list_any (λ u. f u.target) (kept P (branches_from (low + 1) ws))) ≡ true = rw held at h' in
                elim (or_cases (f low) _ both) [
                  | inl here ↦
                      let e : low + 0 ≡ low = omega arith in
                      record { place = 0; some = some; kept = ap P e ∙ held; passes = ap f e ∙ here }
                  | inr there ↦ further f P w ws low (found f P ws (low + 1) there)
                ]
          ]
    ]

-- tests that agree on the targets keep the same
pub kept_same : (P Q : ℕ → Bool) (ws : List ℕ) (low : ℕ) → ((i : ℕ) → 0 < get_or ws i 0 → P (low + i) ≡ Q (low + i))
    → kept P (branches_from low ws) ≡ kept Q (branches_from low ws)
kept_same P Q [] low h = refl
kept_same P Q (w ∷ ws) low h =
    let rest = kept_same P Q ws (low + 1) (λ i pos.
    let e : low + 1 + i ≡ low + suc i = omega arith in ap P e ∙ (h (suc i) pos ∙ ap Q (sym e))) in
    elim (cases_lt 0 w) [
      | inr none ↦ rw (branches_none low w ws none) rest
      | inl some ↦
          let e : low + 0 ≡ low = omega arith in
          let here : P low ≡ Q low = ap P (sym e) ∙ (h 0 some ∙ ap Q e) in
          rw (branches_some low w ws some, here, rest) refl
    ]

-- what holds of every set that a test keeps holds of every part, and the other way round
pub parts_each : (T : List Branch → Type 0) (ws : List ℕ) (low : ℕ) → ((P : ℕ → Bool) → T (kept P (branches_from low ws)))
    → All T (parts (branches_from low ws))
parts_each T [] low h = (h (λ t. true), tt)
parts_each T (w ∷ ws) low h =
    elim (cases_lt 0 w) [
      | inr none ↦
          rw (branches_none low w ws none)
          (parts_each T ws (low + 1) (λ P. subst (λ bs. T (kept P bs)) (branches_none low w ws none) (h P)))
      | inl some ↦
          let b : Branch = record { target = low; weight = w } in
          let bs : List Branch = branches_from (low + 1) ws in
          let h' : (P : ℕ → Bool) → T (kept P (b ∷ bs)) = λ P. subst (λ bs. T (kept P bs)) (branches_some low w ws some) (h P) in
          let off : (P : ℕ → Bool) → T (kept P bs) = λ P.
          let Q : ℕ → Bool = λ t. not (t == low) && P t in
          let here : Q low ≡ false = rw (eq-eqb low low refl) refl in
          let same : kept Q bs ≡ kept P bs =
          kept_same Q P ws (low + 1) (λ i pos. rw (ne_eqb (low + 1 + i) low (λ e. absurd (omega arith))) refl) in
          subst T same (subst (λ k. T (cond k (b ∷ kept Q bs) (kept Q bs))) here (h' Q)) in
          let on : (P : ℕ → Bool) → T (b ∷ kept P bs) = λ P.
          let Q : ℕ → Bool = λ t. (t == low) || P t in
          let here : Q low ≡ true = rw (eq-eqb low low refl) refl in
          let same : kept Q bs ≡ kept P bs =
          kept_same Q P ws (low + 1) (λ i pos. rw (ne_eqb (low + 1 + i) low (λ e. absurd (omega arith))) refl) in
          subst (λ us. T (b ∷ us)) same (subst (λ k. T (cond k (b ∷ kept Q bs) (kept Q bs))) here (h' Q)) in
          rw (branches_some low w ws some)
          (all_append T (parts bs) (map (λ U. b ∷ U) (parts bs)) (parts_each T ws (low + 1) off)
          (All-map T (λ U. b ∷ U) (parts bs) (parts_each (λ U. T (b ∷ U)) ws (low + 1) on)))
    ]
  where
    all_append : (T : List Branch → Type 0) (xs ys : List (List Branch)) → All T xs → All T ys → All T (xs ++ ys)
    all_append T [] ys p q = q
    all_append T (x ∷ xs) ys p q = (p.0, all_append T xs ys p.1 q)

all_of_append : {X : Type 0} (T : X → Type 0) (xs ys : List X) → All T (xs ++ ys) → All T xs × All T ys
all_of_append T [] ys h = (tt, h)
all_of_append T (x ∷ xs) ys h = let r = all_of_append T xs ys h.1 in ((h.0, r.0), r.1)

all_unmap : {X Y : Type 0} (T : Y → Type 0) (f : X → Y) (xs : List X) → All T (map f xs) → All (λ x. T (f x)) xs
all_unmap T f [] h = tt
all_unmap T f (x ∷ xs) h = (h.0, all_unmap T f xs h.1)

pub parts_kept : {X : Type 0} (T : List X → Type 0) (p : X → Bool) (xs : List X) → All T (parts xs) → T (filter p xs)
parts_kept T p [] h = h.0
parts_kept T p (x ∷ xs) h =
    let r = all_of_append T (parts xs) (map (λ U. x ∷ U) (parts xs)) h in
    elim (p x) as (λ b. T (cond b (x ∷ filter p xs) (filter p xs))) [
      | true ↦ parts_kept (λ U. T (x ∷ U)) p xs (all_unmap T (λ U. x ∷ U) (parts xs) r.1)
      | false ↦ parts_kept T p xs r.0
    ]

pub each_branch : (F : Branch → Type 0) (ws : List ℕ) (low : ℕ)
    → ((i : ℕ) → 0 < get_or ws i 0 → F (record { target = low + i; weight = get_or ws i 0 })) → All F (branches_from low ws)
each_branch F [] low h = tt
each_branch F (w ∷ ws) low h =
    let rest = each_branch F ws (low + 1) (λ i pos. subst (λ t. F (record { target = t; weight = get_or ws i 0 })) (omega arith) (h (suc i) pos)) in
    elim (cases_lt 0 w) [
      | inr none ↦ rw (branches_none low w ws none) rest
      | inl some ↦ rw (branches_some low w ws some) (subst (λ t. F (record { target = t; weight = w })) (omega arith) (h 0 some), rest)
    ]

-- the same from target 0 on
pub sum_all : (h : Branch → ℕ) (ws : List ℕ) → ((i : ℕ) → get_or ws i 0 ≡ 0 → h (record { target = i; weight = get_or ws i 0 }) ≡ 0)
    → sum_by h (branches_from 0 ws) ≡ Sum (length ws) (λ i. h (record { target = i; weight = get_or ws i 0 }))
sum_all h ws z =
    let at : (i : ℕ) → h (record { target = 0 + i; weight = get_or ws i 0 }) ≡ h (record { target = i; weight = get_or ws i 0 }) =
    λ i. ap (λ t. h (record { target = t; weight = get_or ws i 0 })) (zero-add i) in
    sum_targets h ws 0 (λ i e. at i ∙ z i e) ∙ sum_same (length ws) _ _ (λ i l. at i)

pub each_all : (F : Branch → Type 0) (ws : List ℕ) → ((i : ℕ) → 0 < get_or ws i 0 → F (record { target = i; weight = get_or ws i 0 }))
    → All F (branches_from 0 ws)
each_all F ws h =
    each_branch F ws 0 (λ i pos. subst (λ t. F (record { target = t; weight = get_or ws i 0 })) (sym (zero-add i)) (h i pos))

-- the mass of a set, times k, by targets
pub part_of : (P : ℕ → Bool) (ws S : List ℕ) (n k : ℕ) → length ws ≡ n → ((r : ℕ) → get_or S r 0 ≡ get_or ws r 0 * k)
    → mass (kept P (branches_from 0 ws)) * k ≡ Part n P (λ r. get_or S r 0)
part_of P ws S n k wide same =
    kept_mass (λ u. P u.target) k (branches_from 0 ws)
    ∙ (sum_all (λ b. cond (P b.target) (b.weight * k) 0) ws
    (λ i e. rw e (elim (P i) as (λ b. cond b (0 * k) 0 ≡ 0) [ true ↦ omega arith | false ↦ refl ]))
    ∙ (sum_same (length ws) _ _ (λ i l. ap (λ x. cond (P i) x 0) (sym (same i)))
    ∙ ap (λ m. Part m P (λ r. get_or S r 0)) wide))
