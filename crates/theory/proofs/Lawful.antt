-- What a lawful model says of each of its steps. Assumes nothing.
use Rattle.std.proofs.Common.{◌≡◌, ℕ, ◌<◌, ◌≤◌, true, List, [], ◌∷◌, length, arith}
use Rattle.std.specs.List.{AllByRecursion as All}
use Rattle.std.proofs.ByRecursion.{All-weaker}
use Rattle.std.proofs.lemmas.List.Sums.{sum_by-cons}
use Rattle.model.specs.Model.{Model, Step, count, lawful, mass, rising, steps_of, total}
use Rattle.model.specs.declared.Branch.{Branch}
use Rattle.model.proofs.Laws.{LawfulStep, lawful_parts}
use Rattle.model.proofs.Tests.{all_at}

pub record SoundStep (n : ℕ) (a : Step) : Type 0 where
  pub known : a.action < 32
  pub inside : All (λ b. b.target < n) a.branches
  pub rises : rising 0 a.branches ≡ true
  pub heavy : 0 < total a
  pub light : total a ≤ 1000000000

mass_positive : (bs : List Branch) → 0 < length bs → All (λ b. 0 < b.weight) bs → 0 < mass bs
mass_positive [] l h = absurd (omega arith)
mass_positive (b ∷ bs) l h = omega (arith, sum_by-cons (λ x. x.weight) b bs, h.0)

sound_step : (n z : ℕ) (a : Step) → z ≤ 1000000000 → LawfulStep n z a → SoundStep n a
sound_step n z a small h =
    record {
      known = h.known;
      inside = All-weaker _ _ (λ b s. s.0) a.branches h.sound;
      rises = h.rises;
      heavy = mass_positive a.branches h.some (All-weaker _ _ (λ b s. s.1) a.branches h.sound);
      light = omega (arith, h.light);
    }

pub steps_are_sound : (m : Model) → lawful m ≡ true → (s : ℕ) → All (SoundStep (count m)) (steps_of m s)
steps_are_sound m law s =
    let laws = lawful_parts m law in
    let sound : (a : Step) → LawfulStep (count m) m.z a → SoundStep (count m) a = λ a h. sound_step (count m) m.z a laws.totals h in
    let rows = All-weaker _ (All (SoundStep (count m))) (λ row r. All-weaker _ _ sound row r.1) m.states laws.rows in
    all_at (All (SoundStep (count m))) m.states s [] rows tt
