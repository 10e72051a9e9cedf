-- Assumes nothing.
use Rattle.std.proofs.Common.{◌≡◌, ℕ, ◌<◌, true, false, take}
use Rattle.std.specs.List.{list_any}
use Rattle.model.specs.Model.{step_at, steps_of}
use Rattle.theory.specs.Matching.{matches}
use Rattle.meeting.specs.Steps.{is_followed}
use Rattle.meeting.proofs.meeting.Meeting.first_unmatched.Given as goal

-- step i matches no step before j
abbrev pub invariant-loop-j : goal.invariant-loop-j
invariant-loop-j g l =
    list_any (λ b. matches (g.R.Relation.pairs l.fn.self.relation.now) (step_at (g.S.Source.meaning l.fn.self.source.now) l.fn.s l.i) b)
    (take l.j (steps_of (g.S.Source.meaning l.fn.self.source.now) l.fn.t)) ≡ false

-- each step before i matches one
abbrev pub invariant-moves : goal.invariant-moves
invariant-moves g l =
    (k : ℕ) → k < l.i
    → is_followed (g.S.Source.meaning l.fn.self.source.now) (g.R.Relation.pairs l.fn.self.relation.now) l.fn.t (step_at (g.S.Source.meaning l.fn.self.source.now) l.fn.s k) ≡ true
