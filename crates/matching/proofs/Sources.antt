-- The branches of a step of a lawful model may be added one after another. Assumes nothing.
use Rattle.std.proofs.Common.{◌≡◌, ℕ, zero, suc, ◌+◌, ◌<◌, ◌≤◌, true, nat_lt, nat_le, List, [], ◌∷◌, length, get_or, take, None, refl, arith}
use Rattle.std.specs.List.{AllByRecursion as All, list_all}
use Rattle.std.proofs.ByRecursion.{All-weaker}
use Rattle.std.proofs.lemmas.Bool.{and_from, and_parts, leb-true, lt-ltb}
use Rattle.std.proofs.lemmas.List.Sums.{sum_by_more_le}
use Rattle.model.specs.Model.{Model, Step, count, lawful, no_branch, no_step, rising, step_at, steps_of, total}
use Rattle.model.specs.declared.Branch.{Branch}
use Rattle.model.proofs.Laws.{Lawful, LawfulStep, lawful_parts}
use Rattle.model.proofs.Tests.{all_at}
use Rattle.matching.specs.Steps.{refusal, rises_above}
use Rattle.matching.proofs.Steps.{may_be_added}

-- a step's first branches
abbrev pub first_branches : Step → ℕ → Step
first_branches a n = record { action = a.action; branches = take n a.branches }

-- a branch to a state, with a weight
abbrev pub Sound : Branch → Type 0
Sound b = (b.target < 64) × (0 < b.weight)

-- what holds of each step that a lawful model is asked for
pub record Addable (a : Step) : Type 0 where
  pub rises : rising 0 a.branches ≡ true
  pub sound : All Sound a.branches
  pub light : total a ≤ 1000000000

addable_step : (m : Model) → Lawful m → (a : Step) → LawfulStep (count m) m.z a → Addable a
addable_step m law a l =
    record {
      rises = l.rises;
      sound = All-weaker _ _ (λ b h. (omega (arith, law.few, h.0), h.1)) a.branches l.sound;
      light = omega (arith, l.light, law.totals);
    }

pub addable : (m : Model) → lawful m ≡ true → (s i : ℕ) → Addable (step_at m s i)
addable m h s i =
    let law = lawful_parts m h in
    let rows : All (All Addable) m.states =
    All-weaker _ (All Addable) (λ row r. All-weaker _ Addable (addable_step m law) row r.1) m.states law.rows in
    all_at Addable (steps_of m s) i no_step (all_at (All Addable) m.states s [] rows tt)
    (record { rises = refl; sound = tt; light = omega arith })

-- the targets of the first branches lie below the next one
below_next : (low : ℕ) (bs : List Branch) (n : ℕ) → n < length bs → rising low bs ≡ true
    → (low ≤ (get_or bs n no_branch).target) × (list_all (λ c. nat_lt c.target (get_or bs n no_branch).target) (take n bs) ≡ true)
below_next low [] n l h = absurd (omega arith)
below_next low (b ∷ bs) zero l h = (leb-true low b.target (and_parts _ _ h).0, refl)
below_next low (b ∷ bs) (suc n) l h =
    let p = and_parts (nat_le low b.target) (rising (b.target + 1) bs) h in
    let r = below_next (b.target + 1) bs n (omega arith) p.1 in
    (omega (arith, leb-true low b.target p.0), and_from _ _ (lt-ltb b.target (get_or bs n no_branch).target (omega arith)) r.1)

sound_at : (bs : List Branch) (n : ℕ) → n < length bs → All Sound bs → Sound (get_or bs n no_branch)
sound_at [] n l h = absurd (omega arith)
sound_at (b ∷ bs) zero l h = h.0
sound_at (b ∷ bs) (suc n) l h = sound_at bs n (omega arith) h.1

-- the next branch of a step may be added to the ones before it
module _ (a : Step) (h : Addable a) (n : ℕ) (l : n < length a.branches) where
  abbrev next : Branch
  next = get_or a.branches n no_branch

  pub next_sound : Sound next
  next_sound = sound_at a.branches n l h.sound

  next_rises : rises_above (first_branches a n) next.target ≡ true
  next_rises = and_from _ _ (lt-ltb next.target 64 next_sound.0) (below_next 0 a.branches n l h.rises).1

  next_light : total (first_branches a n) + next.weight ≤ 1000000000
  next_light = omega (arith, h.light, sum_by_more_le (λ (b : Branch). b.weight) a.branches n no_branch l)

  pub next_fits : refusal (first_branches a n) next ≡ None
  next_fits = may_be_added (first_branches a n) next next_rises next_sound.1 next_light

  -- the same where the step and the branch are given
  module _ (s : Step) (t w : ℕ) (e : s ≡ first_branches a n) (p : t ≡ next.target) (q : w ≡ next.weight) where
    abbrev given : Branch
    given = record { target = t; weight = w }

    pub given_fits : refusal s given ≡ None
    given_fits = rw (e, p, q) next_fits
