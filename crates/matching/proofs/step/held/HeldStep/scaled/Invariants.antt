-- The weights so far.
use Rattle.std.proofs.Common.{◌≡◌, ℕ, ◌*◌, ◌<◌, length, get_or}
use Rattle.matching.proofs.step.held.HeldStep.scaled.Given as goal

abbrev pub invariant-loop-target : goal.invariant-loop-target
invariant-loop-target l = record {
  wide : length l.scaled ≡ 64;
  below : (t : ℕ) → t < l.target → get_or l.scaled t 0 ≡ get_or l.self.weights t 0 * l.total;
}
