-- Where the next field of a file begins. Assumes nothing.
use Rattle.std.proofs.Common.{◌≡◌, ℕ, zero, suc, ◌+◌, ◌*◌, ◌≤◌, Bool, true, false, cond, leb, List, [], ◌∷◌, length, take, drop, Ok, Err, Result, sym, refl, ap, ◌∙◌, add-zero, arith}
use Rattle.std.proofs.lemmas.List.{length-drop, length-take-le}
use Rattle.std.proofs.lemmas.Bool.{leb-true}
use Rattle.fields.specs.declared.fault.FieldFault.{FieldFault}
use Rattle.fields.specs.Fields.{Leads, Read, field_of, starts}

starts_inside : (inside place : ℕ) (bs : List ℕ) → starts inside place bs ≡ starts 0 (place + inside) (drop inside bs)
starts_inside zero place [] = refl
starts_inside (suc k) place [] = refl
starts_inside zero place (b ∷ bs) = ap (λ n. starts 0 n (b ∷ bs)) (sym (add-zero place))
starts_inside (suc k) place (b ∷ bs) =
    starts_inside k (place + 1) bs ∙ ap (λ n. starts 0 n (drop k bs)) (let e : place + 1 + k ≡ place + suc k = omega arith in e)

err_is_no_ok : {T E : Type 0} {e : E} {x : T} → ◌≡◌ {A = Result T E} (Err e) (Ok x) → ⊥
err_is_no_ok h = let z : ◌≡◌ {A = ℕ} 0 1 = cc in omega arith

-- what is read passed its three tests
passed : (d a l : Bool) (x f : Read) (e₁ e₂ e₃ : FieldFault)
    → cond d (cond a (cond l (Ok x) (Err e₁)) (Err e₂)) (Err e₃) ≡ Ok f → (a ≡ true) × (l ≡ true) × (x ≡ f)
passed true true true x f e₁ e₂ e₃ h = (refl, refl, cc)
passed true true false x f e₁ e₂ e₃ h = absurd (err_is_no_ok h)
passed true false l x f e₁ e₂ e₃ h = absurd (err_is_no_ok h)
passed false a l x f e₁ e₂ e₃ h = absurd (err_is_no_ok h)

module _ (due : ℕ → Bool) (allowed : ℕ → ℕ → Bool) (place : ℕ) where
  -- a field that is read: its length is allowed, and it takes its bytes off the front
  pub record Taken (bs : List ℕ) (f : Read) : Type 0 where
    pub fits : allowed f.tag (length f.value) ≡ true
    pub whole : 3 + length f.value + length f.rest ≡ length bs
    pub next : starts 0 place bs ≡ record { place = place; bytes = bs } ∷ starts 0 (place + (3 + length f.value)) f.rest

  pub field_taken : (bs : List ℕ) (f : Read) → field_of due allowed place bs ≡ Ok f → Taken bs f
  field_taken [] f h = absurd (err_is_no_ok h)
  field_taken (_ ∷ []) f h = absurd (err_is_no_ok h)
  field_taken (_ ∷ _ ∷ []) f h = absurd (err_is_no_ok h)
  field_taken (tag ∷ high ∷ low ∷ rest) f h =
      let n : ℕ = high * 256 + low in
      let r = passed (due tag) (allowed tag n) (leb n (length rest)) _ f _ _ _ h in
      let l : n ≤ length rest = leb-true n (length rest) r.1 in
      let size = length-take-le n rest l in
      let s : 2 + n ≡ suc (suc n) = omega arith in
      let e : place + 1 + (2 + n) ≡ place + (3 + length (take n rest)) = omega (arith, size) in
      let read : Read = record { tag = tag; value = take n rest; rest = drop n rest } in
      let taken : Taken (tag ∷ high ∷ low ∷ rest) read = record {
        fits = rw size r.0;
        whole = omega (arith, size, length-drop n rest);
        next = ap (λ xs. record { place = place; bytes = tag ∷ high ∷ low ∷ rest } ∷ xs) (starts_inside (2 + n) (place + 1) (high ∷ low ∷ rest) ∙ rw (e, s));
      } in
      rw r.2 at taken

  pub leads : (bs : List ℕ) (f : Read) → field_of due allowed place bs ≡ Ok f → Leads due allowed place bs f (place + (3 + length f.value))
  leads bs f h = let t = field_taken bs f h in record { read = h; behind = refl; follows = t.next; shorter = omega (arith, t.whole) }
