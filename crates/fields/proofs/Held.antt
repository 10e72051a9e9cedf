-- The values that some bytes hold, as an iterator gives them. Assumes nothing.
use Rattle.std.proofs.Common.{ℕ, List, refl}
use Rattle.std.specs.Iterator.{YieldsFirst}
use Rattle.std.proofs.lemmas.Iterator.{YieldsList}
use Rattle.std.proofs.lemmas.Iterator.Consumers.{YieldsList-from_first}
use Rattle.fields.specs.declared.values.Values.{Values}

-- they come in turn
pub held_in_turn : {A P : Type 0} (held : List ℕ → List A) (values : Values P)
    → YieldsList (YieldsFirst (λ s. held s.bytes.now)) (λ x. x) values (held values.bytes.now)
held_in_turn held values = YieldsList-from_first (λ x. x) (λ s. held s.bytes.now) (held values.bytes.now) refl
