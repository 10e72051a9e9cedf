-- After a round that parts nothing, the unparted pairs are those that some bisimulation relates. Assumes nothing.
use Rattle.std.proofs.Common.{◌≡◌, ℕ, zero, suc, ◌<◌, Bool, true, false, not, eqb, ltb, arith}
use Rattle.std.specs.List.{list_all}
use Rattle.std.proofs.lemmas.Bool.Decides.{nat_tests}
use Rattle.std.proofs.ByRecursion.{All-weaker}
use Rattle.std.proofs.lemmas.Bool.{and_from, and_parts, false≢true, lt-ltb}
use Rattle.model.specs.Model.{Model, Step, count, lawful}
use Rattle.theory.specs.Matching.{Holds, Matches}
use Rattle.theory.specs.Stages.{Bisimulation, levels, settled, stage, states}
use Rattle.theory.specs.Laws.{SettledExact, SettledExactWide}
use Rattle.theory.proofs.Counting.{all_below, each_below}
use Rattle.theory.proofs.Weights.{match_exact}
use Rattle.theory.proofs.Lawful.{SoundStep}
use Rattle.theory.proofs.Tables.{tabled_in}
use Rattle.theory.proofs.Meeting.{Matching, both_from_met, both_weaker, met_from_both}
use Rattle.theory.proofs.Stages.{Stable, stage_inside, stage_met, stage_up}
use Rattle.theory.proofs.Levels.{level_from, parted_at, stage_from_zero, zero_from_stage}

module _ (m : Model) (law : lawful m ≡ true) (q : ℕ) where
  abbrev new : ℕ → ℕ → Bool
  new s t = not (eqb (levels m (suc q) s t) (suc q))

  pub stable_from_settled : settled m (suc q) (levels m (suc q)) ≡ true → Stable m q
  stable_from_settled h s t here =
      let l = stage_inside m law q s t here in
      let quiet : list_all (λ s. list_all (new s) (states m)) (states m) ≡ true = (and_parts (ltb 0 (suc q)) _ h).1 in
      let old : new s t ≡ true = each_below (new s) (count m) (each_below _ (count m) quiet s l.0) t l.1 in
      grind (arith, nat_tests, level_from m law (suc q) s t q)

  pub settled_from_stable : Stable m q → settled m (suc q) (levels m (suc q)) ≡ true
  settled_from_stable h =
      let old : (s t : ℕ) → s < count m → t < count m → new s t ≡ true =
      λ s t ls lt. grind (arith, nat_tests, parted_at m law (suc q) s t q ls lt, h s t) in
      and_from (ltb 0 (suc q)) _ (lt-ltb 0 (suc q) (omega arith)) (all_below _ (count m) (λ s ls.
      all_below (new s) (count m) (λ t lt. old s t ls lt)))

-- weights under a relation are weights under a wider one
weights_wider : (R S : ℕ → ℕ → Type 0) → ((u v : ℕ) → R u v → S u v) → (a b : Step) → Matches R a b → Matches S a b
weights_wider R S sub a b h =
    record {
      action = h.action;
      w = h.w;
      weights = record {
        sent = h.weights.sent;
        received = h.weights.received;
        related = All-weaker _ _ (λ u k.
            All-weaker _ _ (λ v f pos. sub u.target v.target (f pos)) b.branches k) a.branches h.weights.related;
      };
    }

module _ (m : Model) (law : lawful m ≡ true) where
  stable_bisimulation : (q : ℕ) → Stable m q → Bisimulation m (Holds (stage m (suc q)))
  stable_bisimulation q stable =
      let weights : (a b : Step) → SoundStep (count m) a → SoundStep (count m) b
      → Matching (stage m q) a b → Matches (Holds (stage m (suc q))) a b =
      λ a b la lb e. weights_wider _ _ stable a b ((match_exact (stage m q) a b la.rises lb.rises).0 e) in
      record {
        inside = stage_inside m law (suc q);
        met = λ s t h.
            let k = both_weaker m law _ _ weights s t (both_from_met m (stage m q) s t (stage_met m law q s t h)) in
            record { forth = k.0; back = k.1 };
      }

  bisimulation_in_stage : (R : ℕ → ℕ → Type 0) → Bisimulation m R → (k s t : ℕ) → R s t → stage m k s t ≡ true
  bisimulation_in_stage R bis zero s t h = let l = bis.inside s t h in tabled_in m false (λ u v. true) s t l.0 l.1
  bisimulation_in_stage R bis (suc k) s t h =
      let within : (u v : ℕ) → R u v → stage m k u v ≡ true = bisimulation_in_stage R bis k in
      let match : (a b : Step) → SoundStep (count m) a → SoundStep (count m) b → Matches R a b → Matching (stage m k) a b =
      λ a b la lb e. (match_exact (stage m k) a b la.rises lb.rises).1 (weights_wider _ _ within a b e) in
      let x = bis.met s t h in
      stage_up m law k s t (within s t h) (met_from_both m (stage m k) s t (both_weaker m law _ _ match s t (x.forth, x.back)))

  settled_relates : (r s t : ℕ) → s < count m → t < count m
      → settled m r (levels m r) ≡ true → levels m r s t ≡ 0 → Bisimulation m (Holds (stage m r)) × Holds (stage m r) s t
  settled_relates zero s t ls lt h e = absurd (false≢true h)
  settled_relates (suc q) s t ls lt h e =
      (stable_bisimulation q (stable_from_settled m law q h), stage_from_zero m law (suc q) s t ls lt e)

pub settled_exact_wide : SettledExactWide
settled_exact_wide m law r s t ls lt h = (
  λ e. let k = settled_relates m law r s t ls lt h e in (Holds (stage m r), k.0, k.1),
  λ R bis k. zero_from_stage m law r s t (bisimulation_in_stage m law R bis r s t k),
)

pub settled_exact : SettledExact
settled_exact m law r s t ls lt h = (
  λ e. let k = settled_relates m law r s t ls lt h e in (stage m r, k.0, k.1),
  λ R. (settled_exact_wide m law r s t ls lt h).1 (Holds R),
)
