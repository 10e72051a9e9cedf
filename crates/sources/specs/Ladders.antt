-- What a ladder answers about its steps, by the test whether it has one, and that it is lawful. Assumes nothing.
use Rattle.std.specs.Prelude.{◌≡◌, ℕ, zero, suc, ◌+◌, ◌-◌, ◌<◌, ◌≤◌, Bool, true, false, cond, ◌&&◌, List, [], ◌∷◌, ◌++◌, map, length, get_or, ◌==◌, nat_eq, nat_lt, slice_index_or, refl}
use Rattle.std.proofs.Common.{inl, inr, ap, ◌∙◌, arith, zero-add}
use Rattle.std.specs.List.{range_with_len}
use Rattle.std.proofs.lemmas.List.FromFn.{get_or-map-range_with_len, length-map-range_with_len}
use Rattle.std.proofs.ByRecursion.{All-map, All-push, All-weaker}
use Rattle.std.proofs.lemmas.List.{get_or_past, length_push}
use Rattle.std.proofs.lemmas.Bool.{cases_Bool, cases_lt, cond_above, cond_below, ne_eqb}
use Rattle.std.proofs.lemmas.Bool.Decides.{nat_tests}
use Rattle.model.specs.Model.{Model, Step, branch_at, count, no_branch, no_step, step_at, steps_of, total}
use Rattle.model.specs.declared.Branch.{Branch}
use Rattle.model.proofs.Elements.{all_counting, get_or_push_default}
use Rattle.model.proofs.Laws.{Lawful, LawfulRow, LawfulStep, row_among_more, void_is_lawful}
use Rattle.sources.specs.declared.ladder.Ladder.{Ladder}
use Rattle.sources.specs.Kinds.{fits, has, ladder_of, rung}

-- what a row of one step or none is asked
get_or_one_or_none : (t : Bool) (a : Step) (i : ℕ) → slice_index_or (cond t (a ∷ []) []) i no_step ≡ cond (t && i == 0) a no_step
get_or_one_or_none false a i = refl
get_or_one_or_none true a zero = refl
get_or_one_or_none true a (suc i) = grind (arith, nat_tests)

length_one_or_none : (t : Bool) (a : Step) → length (cond t (a ∷ []) []) ≡ cond (t && true) 1 0
length_one_or_none false a = refl
length_one_or_none true a = refl

-- what a step or none is asked, and a branch of two
ask_step_or_none : (ask : Step → ℕ) (t : Bool) (a : Step) → ask (cond t a no_step) ≡ cond t (ask a) (ask no_step)
ask_step_or_none ask false a = refl
ask_step_or_none ask true a = refl

ask_branch_of_two : (ask : Branch → ℕ) (b c : Branch) (j : ℕ)
    → ask (slice_index_or (b ∷ c ∷ []) j no_branch) ≡ cond (j == 0) (ask b) (cond (j == 1) (ask c) (ask no_branch))
ask_branch_of_two ask b c zero = refl
ask_branch_of_two ask b c (suc zero) = refl
ask_branch_of_two ask b c (suc (suc j)) = grind (arith, nat_tests)

module _ (l : Ladder) where
  abbrev n : ℕ
  n = l.states

  abbrev step : ℕ → Step
  step = rung l.action l.ok l.miss

  -- all rows but the last, which is empty
  abbrev rungs : List (List Step)
  rungs = map (λ i. step i ∷ []) (range_with_len 0 (n - 1))

  length_rungs : length rungs ≡ n - 1
  length_rungs = length-map-range_with_len (λ i. step i ∷ []) 0 (n - 1)

  row_at : (s : ℕ) → slice_index_or (rungs ++ [] ∷ []) s [] ≡ cond (nat_lt (s + 1) n) (step s ∷ []) []
  row_at s =
      get_or_push_default rungs s [] ∙ elim (cases_lt (s + 1) n) [
        | inl h ↦ get_or-map-range_with_len _ 0 (n - 1) s s [] (omega arith) (omega arith) ∙ cond_below (s + 1) n _ _ h
        | inr h ↦ cond_above (s + 1) n _ _ _ h (get_or_past rungs s [] (omega (arith, length_rungs)))
      ]

  ladder_steps : (s : ℕ) → steps_of (ladder_of l) s ≡ cond (fits l && nat_lt (s + 1) n) (step s ∷ []) []
  ladder_steps s =
      elim (cases_Bool (fits l)) [
        | inl e ↦ rw e (row_at s)
        | inr e ↦ rw e
      ]

  step_is : (s i : ℕ) → step_at (ladder_of l) s i ≡ cond (has l s i) (step s) no_step
  step_is s i = ap (λ row. get_or row i no_step) (ladder_steps s) ∙ get_or_one_or_none (fits l && nat_lt (s + 1) n) (step s) i

  pub answer_is : (ask : Step → ℕ) (s i : ℕ) → ask (step_at (ladder_of l) s i) ≡ cond (has l s i) (ask (step s)) (ask no_step)
  answer_is ask s i = ap ask (step_is s i) ∙ ask_step_or_none ask (has l s i) (step s)

  pub branch_answer_is : (ask : Branch → ℕ) (s i j : ℕ) → ask (branch_at (ladder_of l) s i j)
      ≡ cond (has l s i) (cond (j == 0) (ask (record { target = 0; weight = l.ok })) (cond (j == 1) (ask (record { target = s + 1; weight = l.miss })) (ask no_branch))) (ask no_branch)
  branch_answer_is ask s i j =
      answer_is (λ a. ask (slice_index_or a.branches j no_branch)) s i
      ∙ ap (λ k. cond (has l s i) k (ask no_branch)) (ask_branch_of_two ask _ _ j)

  length_rows : 1 ≤ n → length (rungs ++ [] ∷ []) ≡ n
  length_rows h = omega (arith, length_push rungs [], length_rungs)

  -- what a ladder answers
  pub count_is : count (ladder_of l) ≡ cond (fits l) n 0
  count_is =
      elim (cases_Bool (fits l)) [
        | inl e ↦ let h : 1 ≤ n = grind (arith, nat_tests) in rw e (length_rows h)
        | inr e ↦ rw e
      ]

  pub steps_are : (s : ℕ) → length (steps_of (ladder_of l) s) ≡ cond (has l s 0) 1 0
  steps_are s = ap length (ladder_steps s) ∙ length_one_or_none (fits l && nat_lt (s + 1) n) (step s)

  pub action_is : (s i : ℕ) → (step_at (ladder_of l) s i).action ≡ cond (has l s i) l.action 0
  action_is = answer_is (λ a. a.action)

  pub total_is : (s i : ℕ) → total (step_at (ladder_of l) s i) ≡ cond (has l s i) (l.ok + l.miss) 0
  total_is s i = let e = answer_is total s i in simp zero-add at e

  pub branches_are : (s i : ℕ) → length (step_at (ladder_of l) s i).branches ≡ cond (has l s i) 2 0
  branches_are = answer_is (λ a. length a.branches)

  pub target_is : (s i j : ℕ) → (branch_at (ladder_of l) s i j).target ≡ cond (has l s i) (cond (j == 0) 0 (cond (j == 1) (s + 1) 0)) 0
  target_is = branch_answer_is (λ b. b.target)

  pub weight_is : (s i j : ℕ) → (branch_at (ladder_of l) s i j).weight ≡ cond (has l s i) (cond (j == 0) l.ok (cond (j == 1) l.miss 0)) 0
  weight_is = branch_answer_is (λ b. b.weight)

  -- the two measures are those of the first state
  pub most_steps_is : (ladder_of l).p ≡ length (steps_of (ladder_of l) 0)
  most_steps_is = let e = steps_are 0 in grind (arith, nat_tests)

  pub most_total_is : (ladder_of l).z ≡ total (step_at (ladder_of l) 0 0)
  most_total_is = let e = total_is 0 0 in grind (arith, nat_tests)

  abbrev whole : Model
  whole = record { states = rungs ++ [] ∷ []; p = cond (n == 1) 0 1; z = cond (n == 1) 0 (l.ok + l.miss) }

  rung_is_lawful : fits l ≡ true → (i : ℕ) → i + 1 < n → LawfulStep n (l.ok + l.miss) (step i)
  rung_is_lawful e i h =
      let up : 1 ≤ l.ok = grind (arith, nat_tests) in
      let down : 1 ≤ l.miss = grind (arith, nat_tests) in
      record {
        known = grind (arith, nat_tests);
        some = omega arith;
        rises = grind (arith, nat_tests);
        sound = ((omega arith, up), ((h, down), tt));
        light = omega arith;
      }

  row_is_lawful : fits l ≡ true → (i : ℕ) → i + 1 < n → LawfulRow (count whole) whole.p whole.z (step i ∷ [])
  row_is_lawful e i h =
      let many : nat_eq n 1 ≡ false = ne_eqb n 1 (λ one. omega arith) in
      rw many (row_among_more n (count whole) 1 1 (l.ok + l.miss) (l.ok + l.miss) (step i ∷ []) (omega (arith, length_rows (omega arith)))
      (omega arith) (omega arith) (omega arith, (rung_is_lawful e i h, tt)))

  whole_is_lawful : fits l ≡ true → Lawful whole
  whole_is_lawful e =
      let some : 1 ≤ n = grind (arith, nat_tests) in
      let few : n ≤ 64 = grind (arith, nat_tests) in
      let light : l.ok + l.miss ≤ 30000 = grind (arith, nat_tests) in
      let long = length_rows some in
      record {
        few = omega arith;
        steps = grind (arith, nat_tests);
        totals = grind (arith, nat_tests);
        void = inl (omega arith);
        rows = All-push _ rungs [] (All-map _ (λ i. step i ∷ []) (range_with_len 0 (n - 1))
            (All-weaker _ _ (λ i h. row_is_lawful e i (omega arith)) (range_with_len 0 (n - 1)) (all_counting 0 (n - 1)))) (omega arith, tt);
      }

  pub ladder_is_lawful : Lawful (ladder_of l)
  ladder_is_lawful =
      elim (cases_Bool (fits l)) [
        | inl e ↦ rw e (whole_is_lawful e)
        | inr e ↦ rw e void_is_lawful
      ]
