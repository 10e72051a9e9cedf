-- What a line of each kind says, pushed on a text. Assumes nothing.
use Rattle.std.proofs.Common.{◌≡◌, ℕ, ◌+◌, ◌-◌, ◌≤◌, Bool, true, false, ◌&&◌, eqb, ltb, leb, List, [], ◌∷◌, ◌++◌, map, length, get_or, refl, inl, inr, arith}
use Rattle.std.specs.List.{range_with_len, AllByRecursion as All, list_all, list_any}
use Rattle.std.proofs.lemmas.Bool.Decides.{nat_tests}
use Rattle.std.proofs.ByRecursion.{All-map, All-weaker}
use Rattle.std.proofs.lemmas.Bool.{and_from, not_from_false, not_from_true}
use Rattle.model.specs.Lists.{greatest}
use Rattle.model.specs.Model.{Model, Step, steps_of}
use Rattle.model.proofs.Tests.{all_true}
use Rattle.model.proofs.Greatest.{greatest_least}
use Rattle.theory.specs.Lists.{AnyByRecursion as Any}
use Rattle.theory.specs.Sentences.{all_of, any_of, Line, not_of, step_to, part_holds, set_of, depths_of, fits_after, sets_of}
use Rattle.theory.specs.declared.Part.{Part}
use Rattle.theory.proofs.Tests.{all_false, any_false, any_true}
use Rattle.theory.proofs.Elements.{some_both, some_map, some_weaker}
use Rattle.theory.proofs.Saying.{Named, Says, says_push}

module _ (ls : List Line) (e : ℕ) (js : List ℕ) (named : All (Named ls e) js) where
  named_fit : list_all (λ j. ltb 0 j && leb j (length ls)) js ≡ true
  named_fit = all_true _ js (All-weaker _ _ (λ j n. let low = n.low in let high = n.high in grind (arith, nat_tests)) js named)

  named_shallow : greatest (map (λ j. get_or (depths_of ls) (j - 1) 0) js) ≤ e
  named_shallow = greatest_least _ e js (All-weaker _ _ (λ j n. n.shallow) js named)

-- a line that may stand after the text, and what it then says
pub record Pushed (m : Model) (ls : List Line) (l : Line) (X Y : ℕ → Type 0) (e : ℕ) : Type 0 where
  pub fits : fits_after (length ls) l ≡ true
  pub says : Says m (ls ++ l ∷ []) (length ls + 1) X Y e

abbrev pub Only : ℕ → ℕ → Type 0
Only x z = z ≡ x

-- P of each element and its number, counted from i
abbrev pub Along : {V : Type 0} → (ℕ → V → Type 0) → ℕ → List V → Type 0
Along P i [] = Unit {0}
Along P i (v ∷ vs) = P i v × Along P (i + 1) vs

-- what holds of the numbers alone
all_along : {V : Type 0} (P : ℕ → V → Type 0) (Q : ℕ → Type 0)
    → ((i : ℕ) (v : V) → P i v → Q i) → (i : ℕ) (vs : List V) → Along P i vs → All Q (range_with_len i (length vs))
all_along P Q f i [] h = tt
all_along P Q f i (v ∷ vs) h = (f i v h.0, all_along P Q f (i + 1) vs h.1)

-- a part that the step a passes
pub record Passed (m : Model) (ls : List Line) (a : Step) (e : ℕ) (q : Part) : Type 0 where
  pub named : Named ls e q.line
  pub ranged : (ltb 0 q.m && leb q.m 1000000000 && leb q.k q.m) ≡ true
  pub passes : part_holds (sets_of m ls) a q ≡ true

module _ (m : Model) (ls : List Line) where
  pub push_not : {j : ℕ} {X Y : ℕ → Type 0} {e : ℕ} → Says m ls j X Y e → Pushed m ls (not_of j) Y X e
  push_not {j} {X} {Y} {e} s =
      let named : All (Named ls e) (j ∷ []) = (s.named, tt) in
      record {
        fits = and_from _ true (named_fit ls e (j ∷ []) named) refl;
        says = says_push m ls (not_of j) Y X e
            (λ y h. not_from_false _ (s.fails y h))
            (λ x h. not_from_true _ (s.holds x h))
            (omega (arith, named_shallow ls e (j ∷ []) named));
      }

  -- an all-line of lines that all hold in x, each of them failing somewhere
  pub push_all : {V : Type 0} (line at : V → ℕ) (x e : ℕ) (vs : List V)
      → All (λ v. Says m ls (line v) (Only x) (Only (at v)) e) vs
      → Pushed m ls (all_of (map line vs)) (Only x) (λ z. Any (λ v. z ≡ at v) vs) e
  push_all line at x e vs h =
      let js : List ℕ = map line vs in
      let named : All (Named ls e) js = All-map (Named ls e) line vs (All-weaker _ _ (λ v s. s.named) vs h) in
      let holds_in : (z : ℕ) → Only x z → All (λ j. set_of (sets_of m ls) j z ≡ true) js =
      λ z k. All-map _ line vs (All-weaker _ _ (λ v s. s.holds z k) vs h) in
      let fails_in : (z : ℕ) → Any (λ v. z ≡ at v) vs → Any (λ j. set_of (sets_of m ls) j z ≡ false) js =
      λ z k. some_map _ line vs (some_both _ _ _ (λ v s e. s.fails z e) vs h k) in
      record {
        fits = and_from _ true (named_fit ls e js named) refl;
        says = says_push m ls (all_of js) (Only x) (λ z. Any (λ v. z ≡ at v) vs) e
            (λ z k. all_true _ js (holds_in z k))
            (λ z k. all_false _ js (fails_in z k))
            (omega (arith, named_shallow ls e js named));
      }

  -- an any-line of lines that each hold at one place
  pub push_any : {V : Type 0} (at : V → ℕ) (Y : V → ℕ → Type 0) (e i : ℕ) (vs : List V)
      → Along (λ j v. Says m ls j (Only (at v)) (Y v) e) i vs
      → Pushed m ls (any_of (range_with_len i (length vs))) (λ z. Any (λ v. z ≡ at v) vs) (λ z. All (λ v. Y v z) vs) e
  push_any {V} at Y e i vs h =
      let js : List ℕ = range_with_len i (length vs) in
      let named : All (Named ls e) js = all_along _ (Named ls e) (λ j v s. s.named) i vs h in
      record {
        fits = and_from _ true (named_fit ls e js named) refl;
        says = says_push m ls (any_of js) (λ z. Any (λ v. z ≡ at v) vs) (λ z. All (λ v. Y v z) vs) e
            (λ z k. any_true _ js (somewhere z i vs h k))
            (λ z k. any_false _ js (nowhere_of z i vs h k))
            (omega (arith, named_shallow ls e js named));
      }
    where
      somewhere : (z i : ℕ) (vs : List V) → Along (λ j v. Says m ls j (Only (at v)) (Y v) e) i vs
          → Any (λ v. z ≡ at v) vs → Any (λ j. set_of (sets_of m ls) j z ≡ true) (range_with_len i (length vs))
      somewhere z i [] h k = k
      somewhere z i (v ∷ vs) h (inl k) = inl (h.0.holds z k)
      somewhere z i (v ∷ vs) h (inr k) = inr (somewhere z (i + 1) vs h.1 k)

      nowhere_of : (z i : ℕ) (vs : List V) → Along (λ j v. Says m ls j (Only (at v)) (Y v) e) i vs
          → All (λ v. Y v z) vs → All (λ j. set_of (sets_of m ls) j z ≡ false) (range_with_len i (length vs))
      nowhere_of z i [] h k = tt
      nowhere_of z i (v ∷ vs) h k = (h.0.fails z k.0, nowhere_of z (i + 1) vs h.1 k.1)

  -- a step-line that a step a of x passes, and no step of y
  pub push_step : (a : Step) (qs : List Part) (x y e : ℕ)
      → ltb a.action 32 ≡ true → All (Passed m ls a e) qs → Any (λ b. b ≡ a) (steps_of m x)
      → All (λ b. eqb b.action a.action ≡ true → Any (λ q. part_holds (sets_of m ls) b q ≡ false) qs) (steps_of m y)
      → Pushed m ls (step_to a.action qs) (Only x) (Only y) (e + 1)
  push_step a qs x y e small h here no_other =
      let js : List ℕ = map (λ q. q.line) qs in
      let named : All (Named ls e) js = All-map (Named ls e) _ qs (All-weaker _ _ (λ q p. p.named) qs h) in
      let takes : Step → Bool = λ b. eqb b.action a.action && list_all (part_holds (sets_of m ls) b) qs in
      let passes : list_all (part_holds (sets_of m ls) a) qs ≡ true = all_true _ qs (All-weaker _ _ (λ q p. p.passes) qs h) in
      let x_takes : list_any takes (steps_of m x) ≡ true =
      any_true takes (steps_of m x) (some_weaker _ _ (λ b i. grind (arith, nat_tests)) (steps_of m x) here) in
      let y_fails : list_any takes (steps_of m y) ≡ false =
      any_false takes (steps_of m y)
      (All-weaker _ _ (λ b f. grind (arith, all_false (part_holds (sets_of m ls) b) qs)) (steps_of m y) no_other) in
      record {
        fits = and_from _ _ (named_fit ls e js named) (and_from _ _ small (all_true _ qs (All-weaker _ _ (λ q p. p.ranged) qs h)));
        says = says_push m ls (step_to a.action qs) (Only x) (Only y) (e + 1)
            (λ z k. grind arith)
            (λ z k. grind arith)
            (omega (arith, named_shallow ls e js named));
      }
