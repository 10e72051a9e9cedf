-- What a set of rows has to send, against what a set of columns has to receive. Assumes nothing.
use Rattle.std.proofs.Common.{◌≡◌, ℕ, ◌+◌, ◌<◌, ◌≤◌, Bool, true, false, not, ◌&&◌, cond, refl, sym, ap, ◌∙◌, inl, inr, arith}
use Rattle.std.proofs.lemmas.Bool.{both_ways, cases_Bool, cases_lt, false≢true}
use Rattle.matching.proofs.Sums.{Sum, sum_add, sum_cond, sum_le, sum_none, sum_part, sum_same, sum_swap}

-- the sum over what p keeps
abbrev pub Part : ℕ → (ℕ → Bool) → (ℕ → ℕ) → ℕ
Part n p f = Sum n (λ i. cond (p i) (f i) 0)

pub part_le : (n : ℕ) (p : ℕ → Bool) (f : ℕ → ℕ) → Part n p f ≤ Sum n f
part_le n p f = sum_le n _ _ (λ i l. elim (p i) as (λ b. cond b (f i) 0 ≤ f i) [ true ↦ omega arith | false ↦ omega arith ])

pub part_mono : (n : ℕ) (p q : ℕ → Bool) (f : ℕ → ℕ) → ((i : ℕ) → 0 < f i → p i ≡ true → q i ≡ true) → Part n p f ≤ Part n q f
part_mono n p q f h =
    sum_le n _ _ (λ i l.
    elim (cases_lt 0 (f i)) [
      | inr z ↦ elim (p i) as (λ b. cond b (f i) 0 ≤ cond (q i) (f i) 0) [ true ↦ omega arith | false ↦ omega arith ]
      | inl pos ↦
          elim (cases_Bool (p i)) [
            | inl e ↦ rw (e, h i pos e) (omega arith)
            | inr e ↦ rw e (omega arith)
          ]
    ])

part_add : (n : ℕ) (p : ℕ → Bool) (f g h : ℕ → ℕ) → ((i : ℕ) → i < n → f i + g i ≡ h i) → Part n p h ≡ Part n p f + Part n p g
part_add n p f g h e =
    sum_same n _ _ (λ i l. elim (p i) as (λ b. cond b (h i) 0 ≡ cond b (f i) 0 + cond b (g i) 0) [ true ↦ sym (e i l) | false ↦ refl ])
    ∙ sum_add n _ _

split : (p q : Bool) (a : ℕ) → (p ≡ true → 0 < a → q ≡ true) → cond q a 0 ≡ cond p a 0 + cond (not p && q) a 0
split true true a h = omega arith
split true false a h = elim (cases_lt 0 a) [ inl l ↦ absurd (false≢true (h refl l)) | inr l ↦ omega arith ]
split false true a h = omega arith
split false false a h = refl

no_stray : (p q : Bool) (a : ℕ) → (q ≡ true → 0 < a → p ≡ true) → cond (not p && q) a 0 ≡ 0
no_stray true q a h = refl
no_stray false true a h = elim (cases_lt 0 a) [ inl l ↦ absurd (false≢true (h refl l)) | inr l ↦ omega arith ]
no_stray false false a h = refl

module _ (m n : ℕ) (A : ℕ → ℕ → ℕ) (s u d e : ℕ → ℕ) (sends : (i : ℕ) → i < m → Sum n (λ j. A i j) + u i ≡ s i)
    (receives : (j : ℕ) → j < n → Sum m (λ i. A i j) + e j ≡ d j) where
  -- what comes to q from elsewhere than p
  abbrev pub Strays : (ℕ → Bool) → (ℕ → Bool) → ℕ
  Strays p q = Sum m (λ i. Sum n (λ j. cond (not (p i) && q j) (A i j) 0))

  -- p sends to q only
  abbrev pub Only : (ℕ → Bool) → (ℕ → Bool) → Type 0
  Only p q = (i j : ℕ) → i < m → j < n → p i ≡ true → 0 < A i j → q j ≡ true

  pub balance : (p q : ℕ → Bool) → Only p q → Part m p s + (Part n q e + Strays p q) ≡ Part n q d + Part m p u
  balance p q only =
      let out : Part m p s ≡ Part m p (λ i. Sum n (λ j. A i j)) + Part m p u = part_add m p _ u s sends in
      let come : Part n q d ≡ Part n q (λ j. Sum m (λ i. A i j)) + Part n q e = part_add n q _ e d receives in
      let across : Part n q (λ j. Sum m (λ i. A i j)) ≡ Sum m (λ i. Sum n (λ j. cond (q j) (A i j) 0)) =
      sum_same n _ _ (λ j l. sum_cond (q j) m (λ i. A i j)) ∙ sym (sum_swap m n (λ i j. cond (q j) (A i j) 0)) in
      let row : (i : ℕ) → i < m → Sum n (λ j. cond (q j) (A i j) 0) ≡ cond (p i) (Sum n (λ j. A i j)) 0 + Sum n (λ j. cond (not (p i) && q j) (A i j) 0) =
      λ i l. sum_same n _ _ (λ j k. split (p i) (q j) (A i j) (only i j l k))
      ∙ (sum_add n _ _ ∙ ap (λ x. x + Sum n (λ j. cond (not (p i) && q j) (A i j) 0)) (sym (sum_cond (p i) n (λ j. A i j)))) in
      let rows : Sum m (λ i. Sum n (λ j. cond (q j) (A i j) 0)) ≡ Part m p (λ i. Sum n (λ j. A i j)) + Strays p q =
      sum_same m _ _ row ∙ sum_add m _ _ in
      omega arith

  -- no more than all that is unsent, and what q receives
  pub within : (p q : ℕ → Bool) → Only p q → Part m p s ≤ Part n q d + Sum m u
  within p q only = omega (arith, balance p q only, part_le m p u)

  -- where p has all that is unsent, q no room, and nothing comes to q from elsewhere
  pub tight : (p q : ℕ → Bool) → Only p q → ((i : ℕ) → i < m → 0 < u i → p i ≡ true) → ((j : ℕ) → j < n → q j ≡ true → e j ≡ 0)
      → ((i j : ℕ) → i < m → j < n → q j ≡ true → 0 < A i j → p i ≡ true) → Part m p s ≡ Part n q d + Sum m u
  tight p q only start full back =
      let unsent : Part m p u ≡ Sum m u =
      sum_same m _ _ (λ i l. elim (cases_Bool (p i)) [
        | inl h ↦ rw h refl
        | inr h ↦ rw h (elim (cases_lt 0 (u i)) [ inl pos ↦ absurd (both_ways (p i) h (start i l pos)) | inr z ↦ omega arith ])
      ]) in
      let room : Part n q e ≡ 0 =
      sum_same n _ (λ j. 0) (λ j l. elim (cases_Bool (q j)) [ inl h ↦ rw h (full j l h) | inr h ↦ rw h refl ]) ∙ sum_none n in
      let strays : Strays p q ≡ 0 =
      sum_same m _ (λ i. 0) (λ i l. sum_same n _ (λ j. 0) (λ j k. no_stray (p i) (q j) (A i j) (back i j l k)) ∙ sum_none n) ∙ sum_none m in
      omega (arith, balance p q only)

  -- and the other way round
  module _ (p q : ℕ → Bool) (only : Only p q) (same : Part m p s ≡ Part n q d + Sum m u) where
    pub tight_start : (i : ℕ) → i < m → 0 < u i → p i ≡ true
    tight_start i l pos =
        let b = balance p q only in
        let le : Part m p u ≤ Sum m u = part_le m p u in
        let rest : Part m (λ i. not (p i)) u + Part m p u ≡ Sum m u =
        sym (sum_add m _ _)
        ∙ sum_same m _ _ (λ i l. elim (p i) as (λ b. cond (not b) (u i) 0 + cond b (u i) 0 ≡ u i) [ true ↦ omega arith | false ↦ omega arith ]) in
        elim (cases_Bool (p i)) [
          | inl h ↦ h
          | inr h ↦
              let here : cond (not (p i)) (u i) 0 ≤ Part m (λ i. not (p i)) u = sum_part m i _ l in
              let big : u i ≤ Part m (λ i. not (p i)) u = rw h at here in
              absurd (omega arith)
        ]

    pub tight_back : (i j : ℕ) → i < m → j < n → q j ≡ true → 0 < A i j → p i ≡ true
    tight_back i j l k h pos =
        let b = balance p q only in
        let le : Part m p u ≤ Sum m u = part_le m p u in
        elim (cases_Bool (p i)) [
          | inl g ↦ g
          | inr g ↦
              let row : Sum n (λ j. cond (not (p i) && q j) (A i j) 0) ≤ Strays p q = sum_part m i _ l in
              let here : cond (not (p i) && q j) (A i j) 0 ≤ Sum n (λ j. cond (not (p i) && q j) (A i j) 0) = sum_part n j _ k in
              let value : cond (not (p i) && q j) (A i j) 0 ≡ A i j = rw (g, h) refl in
              absurd (omega arith)
        ]
