-- Nothing is sent at first.
use Rattle.std.proofs.Common.{ℕ, [], replicate, refl, rules}
use Rattle.std.proofs.lemmas.List.{get_or-replicate}
use Rattle.matching.proofs.Flows.{carries_none, receives_none, sends_none}
use Rattle.matching.proofs.flow.Flow.new.Goals as goal

pub invariant_of-result : goal.invariant_of-result
invariant_of-result c =
    let t = c.args.task in
    record {
      high = refl;
      long = search rules;
      wide = λ r l. rw (get_or-replicate 64 r (replicate {A = ℕ} 64 0) [] l) refl;
      sends = sends_none 64 t.supply;
      receives = receives_none 64 t.demand;
      carries = carries_none 64 t.allowed;
    }
