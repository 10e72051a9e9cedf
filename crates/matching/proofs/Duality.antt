-- From a flow that cannot be improved: whether steps match, the weight function, and the cut. Assumes nothing.
use Rattle.std.proofs.Common.{◌≡◌, ℕ, ◌+◌, ◌-◌, ◌*◌, ◌<◌, ◌≤◌, Bool, true, ◌&&◌, ltb, List, [], length, get_or, sum_by, refl, sym, ap, ◌∙◌, mul_comm, inl, inr, arith}
use Rattle.std.specs.List.{list_any, sum}
use Rattle.std.proofs.lemmas.Bool.{and_parts, cases_lt, ltb-true}
use Rattle.model.specs.Model.{Step, mass, total}
use Rattle.model.specs.declared.Branch.{Branch}
use Rattle.theory.specs.Matching.{Holds, Relation, Weights, surplus}
use Rattle.matching.specs.Steps.{branches_from}
use Rattle.matching.specs.Tables.{allows, amount}
use Rattle.matching.proofs.Balance.{Part, balance, within}
use Rattle.matching.proofs.Sets.{any_kept, each_all, kept, part_of, sum_all}
use Rattle.matching.proofs.Steps.{branches_mass}
use Rattle.matching.proofs.Sums.{Sum, sum_by_at, sum_part, sum_same, sum_scaled}
use Rattle.matching.proofs.Tables.{column, inside}

-- Two steps, by their actions and the weights of their targets, and a flow between them: the amounts, the supplies and what of
-- them is unsent, the demands and the room that is left of them.
pub record Net : Type 0 where
  pub from_action : ℕ
  pub to_action : ℕ
  pub from : List ℕ
  pub to : List ℕ
  pub amounts : List (List ℕ)
  pub supply : List ℕ
  pub unsent : List ℕ
  pub demand : List ℕ
  pub room : List ℕ

-- whether the pair of a row and a column may carry anything
abbrev pub may_carry : Relation → Net → ℕ → ℕ → Bool
may_carry R t r c = allows R t.supply t.demand r c

-- what holds of a flow over n targets
pub record Flowing (R : Relation) (n : ℕ) (t : Net) : Type 0 where
  pub left : length t.from ≡ n
  pub right : length t.to ≡ n
  pub high : length t.amounts ≡ n
  pub wide : (r : ℕ) → r < n → length (get_or t.amounts r []) ≡ n
  pub supply : (r : ℕ) → get_or t.supply r 0 ≡ get_or t.from r 0 * sum t.to
  pub demand : (c : ℕ) → get_or t.demand c 0 ≡ get_or t.to c 0 * sum t.from
  pub sends : (r : ℕ) → sum (get_or t.amounts r []) + get_or t.unsent r 0 ≡ get_or t.supply r 0
  pub receives : (c : ℕ) → column t.amounts c + get_or t.room c 0 ≡ get_or t.demand c 0
  pub carries : (r c : ℕ) → 0 < amount t.amounts r c → may_carry R t r c ≡ true

-- rows P and columns Q that no way leaves, with all that is unsent
pub record Shut (R : Relation) (t : Net) (P Q : ℕ → Bool) : Type 0 where
  pub start : (r : ℕ) → 0 < get_or t.unsent r 0 → P r ≡ true
  pub along : (r c : ℕ) → P r ≡ true → may_carry R t r c ≡ true → Q c ≡ true
  pub back : (r c : ℕ) → Q c ≡ true → 0 < amount t.amounts r c → P r ≡ true

-- what it says that a pair may carry something
pub record Allowed (R : Relation) (t : Net) (r c : ℕ) : Type 0 where
  pub from : 0 < get_or t.from r 0
  pub to : 0 < get_or t.to c 0
  pub related : R r c ≡ true

pub factor : (a b n : ℕ) → n ≡ a * b → 0 < n → 0 < a
factor a b n e pos =
    elim (cases_lt 0 a) [
      | inl some ↦ some
      | inr none ↦ let z : a ≡ 0 = omega arith in absurd (omega (arith, rw z at e))
    ]

module _ (R : Relation) (n : ℕ) (t : Net) (f : Flowing R n t) where
  abbrev ws : List ℕ
  ws = t.from

  abbrev vs : List ℕ
  vs = t.to

  abbrev A : List (List ℕ)
  A = t.amounts

  abbrev S : List ℕ
  S = t.supply

  abbrev U : List ℕ
  U = t.unsent

  abbrev D : List ℕ
  D = t.demand

  abbrev M : List ℕ
  M = t.room

  abbrev supplies : ℕ → ℕ
  supplies r = get_or t.supply r 0

  abbrev unsents : ℕ → ℕ
  unsents r = get_or t.unsent r 0

  abbrev demands : ℕ → ℕ
  demands c = get_or t.demand c 0

  abbrev rooms : ℕ → ℕ
  rooms c = get_or t.room c 0

  abbrev pub a : Step
  a = record { action = t.from_action; branches = branches_from 0 ws }

  abbrev pub b : Step
  b = record { action = t.to_action; branches = branches_from 0 vs }

  -- a place with a weight is one of the n
  pub place_of : (xs : List ℕ) (i : ℕ) → length xs ≡ n → 0 < get_or xs i 0 → i < n
  place_of xs i e pos = omega (arith, inside xs i pos)

  pub allowed : (r c : ℕ) → may_carry R t r c ≡ true → Allowed R t r c
  allowed r c h =
      let p = and_parts (ltb 0 (get_or S r 0)) (ltb 0 (get_or D c 0) && R r c) h in
      let q = and_parts (ltb 0 (get_or D c 0)) (R r c) p.1 in
      record {
        from = factor (get_or ws r 0) (sum vs) (get_or S r 0) (f.supply r) (ltb-true 0 (get_or S r 0) p.0);
        to = factor (get_or vs c 0) (sum ws) (get_or D c 0) (f.demand c) (ltb-true 0 (get_or D c 0) q.0);
        related = q.1;
      }

  -- the sums by place
  row_sum : (r : ℕ) → r < n → Sum n (λ c. amount A r c) ≡ sum (get_or A r [])
  row_sum r l = ap (λ k. Sum k (λ c. amount A r c)) (sym (f.wide r l)) ∙ sym (sum_by_at (λ x. x) 0 (get_or A r []))

  column_sum : (c : ℕ) → Sum n (λ r. amount A r c) ≡ column A c
  column_sum c = ap (λ k. Sum k (λ r. amount A r c)) (sym f.high) ∙ sym (sum_by_at (λ row. get_or row c 0) [] A)

  pub sends_at : (r : ℕ) → r < n → Sum n (λ c. amount A r c) + get_or U r 0 ≡ get_or S r 0
  sends_at r l = omega (arith, row_sum r l, f.sends r)

  pub receives_at : (c : ℕ) → c < n → Sum n (λ r. amount A r c) + get_or M c 0 ≡ get_or D c 0
  receives_at c l = omega (arith, column_sum c, f.receives c)

  -- all that is unsent
  abbrev pub Left : ℕ
  Left = Sum n unsents

  -- the columns to which a set of rows stands
  abbrev pub stood_to : (ℕ → Bool) → ℕ → Bool
  stood_to P c = list_any (λ u. R u.target c) (kept P (branches_from 0 ws))

  pub surplus_parts : (P : ℕ → Bool) → surplus R a b (kept P (branches_from 0 ws)) ≡ Part n P supplies - Part n (stood_to P) demands
  surplus_parts P =
      let out : mass (kept P (branches_from 0 ws)) * total b ≡ Part n P supplies =
      ap (λ k. mass (kept P (branches_from 0 ws)) * k) (branches_mass vs 0) ∙ part_of P ws S n (sum vs) f.left f.supply in
      let come : mass (kept (stood_to P) (branches_from 0 vs)) * total a ≡ Part n (stood_to P) demands =
      ap (λ k. mass (kept (stood_to P) (branches_from 0 vs)) * k) (branches_mass ws 0) ∙ part_of (stood_to P) vs D n (sum ws) f.right f.demand in
      ap (λ x. x - mass (kept (stood_to P) (branches_from 0 vs)) * total a) out ∙ ap (λ x. Part n P supplies - x) come

  pub stands : (P : ℕ → Bool) (r c : ℕ) → P r ≡ true → may_carry R t r c ≡ true → stood_to P c ≡ true
  stands P r c p h =
      let k = allowed r c h in
      any_kept (λ u. R u c) P ws 0 r r (omega arith) k.from p k.related

  pub only : (P : ℕ → Bool) (r c : ℕ) → r < n → c < n → P r ≡ true → 0 < amount A r c → stood_to P c ≡ true
  only P r c l k p pos = stands P r c p (f.carries r c pos)

  pub bounded : (P : ℕ → Bool) → surplus R a b (kept P (branches_from 0 ws)) ≤ Left
  bounded P =
      omega (arith, surplus_parts P, within n n (amount A) supplies unsents demands rooms sends_at receives_at P (stood_to P) (only P))

  -- where all is sent, there is no room
  no_room : Left ≡ 0 → (c : ℕ) → c < n → get_or M c 0 ≡ 0
  no_room none c l =
      let all : ℕ → Bool = λ i. true in
      let bal = balance n n (amount A) supplies unsents demands rooms sends_at receives_at all all (λ i j p q r s. refl) in
      let out : Sum n supplies ≡ sum ws * sum vs =
      sum_same n _ _ (λ i p. f.supply i) ∙ (sum_scaled n (λ r. get_or ws r 0) (sum vs) ∙ ap (λ x. x * sum vs) (ap (λ k. Sum k (λ r. get_or ws r 0)) (sym f.left) ∙ sym (sum_by_at (λ x. x) 0 ws))) in
      let come : Sum n demands ≡ sum vs * sum ws =
      sum_same n _ _ (λ i p. f.demand i) ∙ (sum_scaled n (λ c. get_or vs c 0) (sum ws) ∙ ap (λ x. x * sum ws) (ap (λ k. Sum k (λ c. get_or vs c 0)) (sym f.right) ∙ sym (sum_by_at (λ x. x) 0 vs))) in
      let here : get_or M c 0 ≤ Sum n rooms = sum_part n c rooms l in
      omega (arith, mul_comm (sum ws) (sum vs))

  -- a flow that leaves nothing is a weight function
  pub weighs : Left ≡ 0 → Weights (Holds R) a b (amount A)
  weighs none =
      record {
        sent = each_all _ ws (λ r pos.
            let l : r < n = place_of ws r f.left pos in
            let row : sum_by (λ (v : Branch). amount A r v.target) (branches_from 0 vs) ≡ Sum n (λ c. amount A r c) =
            sum_all (λ v. amount A r v.target) vs (λ c z. no_amount r c (λ k. absurd (omega (arith, k.to))))
            ∙ ap (λ k. Sum k (λ c. amount A r c)) f.right in
            let is : Sum n (λ c. amount A r c) ≡ get_or ws r 0 * sum vs = omega (arith, sends_at r l, f.supply r, sum_part n r unsents l) in
            row ∙ (is ∙ ap (λ k. get_or ws r 0 * k) (sym (branches_mass vs 0))));
        received = each_all _ vs (λ c pos.
            let l : c < n = place_of vs c f.right pos in
            let row : sum_by (λ (u : Branch). amount A u.target c) (branches_from 0 ws) ≡ Sum n (λ r. amount A r c) =
            sum_all (λ u. amount A u.target c) ws (λ r z. no_amount r c (λ k. absurd (omega (arith, k.from))))
            ∙ ap (λ k. Sum k (λ r. amount A r c)) f.left in
            let is : Sum n (λ r. amount A r c) ≡ get_or vs c 0 * sum ws = omega (arith, receives_at c l, f.demand c, no_room none c l) in
            row ∙ (is ∙ ap (λ k. get_or vs c 0 * k) (sym (branches_mass ws 0))));
        related = each_all _ ws (λ r p. each_all _ vs (λ c q pos. (allowed r c (f.carries r c pos)).related));
      }
    where
      no_amount : (r c : ℕ) → (Allowed R t r c → ⊥) → amount A r c ≡ 0
      no_amount r c h =
          elim (cases_lt 0 (amount A r c)) [
            | inl pos ↦ absurd (h (allowed r c (f.carries r c pos)))
            | inr none ↦ omega arith
          ]
