-- The laws of a model one by one, out of the test and back into it, what keeps them, and what they bound. Assumes nothing.
use Rattle.std.proofs.Common.{◌≡◌, ℕ, ◌<◌, ◌≤◌, Bool, true, ◌&&◌, leb, ◌⊎◌, List, [], length, refl, inl, inr, arith}
use Rattle.std.specs.List.{AllByRecursion as All, list_all}
use Rattle.std.proofs.ByRecursion.{All-weaker}
use Rattle.std.proofs.lemmas.Bool.{cases_lt}
use Rattle.std.proofs.lemmas.Bool.Decides.{nat_tests}
use Rattle.model.specs.Model.{Model, Step, branch_at, count, lawful, lawful_step, no_branch, no_step, rising, sound_branch, step_at, steps_of, total, void}
use Rattle.model.specs.declared.Branch.{Branch}
use Rattle.model.proofs.Tests.{all_at, all_true, each_true}

-- what lawful_step says
pub record LawfulStep (n z : ℕ) (a : Step) : Type 0 where
  pub known : a.action < 32
  pub some : 0 < length a.branches
  pub rises : rising 0 a.branches ≡ true
  pub sound : All (λ b. (b.target < n) × (0 < b.weight)) a.branches
  pub light : total a ≤ z

pub step_parts : (n z : ℕ) (a : Step) → lawful_step n z a ≡ true → LawfulStep n z a
step_parts n z a h =
    let each : list_all (sound_branch n) a.branches ≡ true = grind (arith, nat_tests) in
    record {
      known = grind (arith, nat_tests);
      some = grind (arith, nat_tests);
      rises = grind (arith, nat_tests);
      sound = All-weaker _ _ (λ b e. (grind (arith, nat_tests), grind (arith, nat_tests))) a.branches (each_true (sound_branch n) a.branches each);
      light = grind (arith, nat_tests);
    }

pub step_from_parts : (n z : ℕ) (a : Step) → LawfulStep n z a → lawful_step n z a ≡ true
step_from_parts n z a h =
    let each = all_true (sound_branch n) a.branches (All-weaker _ _ (λ b s. grind (arith, nat_tests)) a.branches h.sound) in
    grind (arith, nat_tests)

-- a row of steps in a model of n states with the measures p and z
abbrev pub LawfulRow : ℕ → ℕ → ℕ → List Step → Type 0
LawfulRow n p z row = (length row ≤ p) × All (LawfulStep n z) row

-- what lawful says
pub record Lawful (m : Model) : Type 0 where
  pub few : count m ≤ 64
  pub steps : m.p ≤ 300
  pub totals : m.z ≤ 1000000000
  pub void : (0 < count m) ⊎ ((m.p ≡ 0) × (m.z ≡ 0))
  pub rows : All (LawfulRow (count m) m.p m.z) m.states

abbrev lawful_row : Model → List Step → Bool
lawful_row m row = leb (length row) m.p && list_all (lawful_step (count m) m.z) row

pub lawful_parts : (m : Model) → lawful m ≡ true → Lawful m
lawful_parts m h =
    let each : list_all (lawful_row m) m.states ≡ true = grind (arith, nat_tests) in
    record {
      few = grind (arith, nat_tests);
      steps = grind (arith, nat_tests);
      totals = grind (arith, nat_tests);
      void = elim (cases_lt 0 (count m)) [
        | inl some ↦ inl some
        | inr none ↦ inr (grind (arith, nat_tests), grind (arith, nat_tests))
      ];
      rows = All-weaker _ _ (λ row e. (
        grind (arith, nat_tests),
        let steps : list_all (lawful_step (count m) m.z) row ≡ true = grind (arith, nat_tests) in
            All-weaker _ _ (step_parts (count m) m.z) row (each_true (lawful_step (count m) m.z) row steps),
      )) m.states (each_true (lawful_row m) m.states each);
    }

pub lawful_from_parts : (m : Model) → Lawful m → lawful m ≡ true
lawful_from_parts m h =
    let each = all_true (lawful_row m) m.states (All-weaker _ _ (λ row r.
    let steps = all_true (lawful_step (count m) m.z) row (All-weaker _ _ (step_from_parts (count m) m.z) row r.1) in grind (arith, nat_tests)) m.states h.rows) in
    elim h.void [
      | inl some ↦ grind (arith, nat_tests)
      | inr none ↦ grind (arith, nat_tests)
    ]

pub void_is_lawful : Lawful void
void_is_lawful = record { few = omega arith; steps = omega arith; totals = omega arith; void = inr (refl, refl); rows = tt }

-- a row stays lawful among more states and under larger measures
pub row_among_more : (n m p q z y : ℕ) (row : List Step) → n ≤ m → p ≤ q → z ≤ y → LawfulRow n p z row → LawfulRow m q y row
row_among_more n m p q z y row wide long heavy r = (
  omega (arith, r.0),
  All-weaker _ _ (λ a h. record {
    known = h.known;
    some = h.some;
    rises = h.rises;
    sound = All-weaker _ _ (λ b s. (omega (arith, s.0), s.1)) a.branches h.sound;
    light = omega (arith, h.light);
  }) row r.1,
)

-- what holds of every lawful step and of the one that stands for none holds of any step that is asked for
step_at_holds : (P : Step → Type 0) (m : Model) → Lawful m → ((a : Step) → LawfulStep (count m) m.z a → P a) → P no_step
    → (s i : ℕ) → P (step_at m s i)
step_at_holds P m law each none s i =
    let rows = All-weaker _ (All P) (λ row r. All-weaker _ P each row r.1) m.states law.rows in
    all_at P (steps_of m s) i no_step (all_at (All P) m.states s [] rows tt) none

pub total_bound : (m : Model) → lawful m ≡ true → (s i : ℕ) → total (step_at m s i) ≤ 1000000000
total_bound m h =
    let law = lawful_parts m h in
    step_at_holds (λ a. total a ≤ 1000000000) m law (λ a l. omega (arith, l.light, law.totals)) (omega arith)

pub target_at_most : (m : Model) → Lawful m → (s i j : ℕ) → (branch_at m s i j).target ≤ count m
target_at_most m law s i j =
    let fine : Branch → Type 0 = λ b. b.target ≤ count m in
    all_at fine _ j no_branch (step_at_holds (λ a. All fine a.branches) m law
    (λ a l. All-weaker _ fine (λ b x. omega (arith, x.0)) a.branches l.sound) tt s i) (omega arith)

pub targets_inside : (m : Model) → lawful m ≡ true → (s i : ℕ) → All (λ b. b.target < count m) (step_at m s i).branches
targets_inside m h =
    step_at_holds (λ a. All (λ b. b.target < count m) a.branches) m (lawful_parts m h)
    (λ a l. All-weaker _ _ (λ b x. x.0) a.branches l.sound) tt
