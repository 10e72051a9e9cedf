-- Assumes nothing.
use Rattle.fields.proofs.Starts.{leads}
use Rattle.fields.proofs.file.Fields.due.Goals as goal

pub returns-in-Ok-clause-answer : goal.returns-in-Ok-clause-answer
returns-in-Ok-clause-answer g c =
    rw c.in-Ok.is (leads _ _ _ _ _ (rw c.in-Ok.is at c.read_field-field.ensures.answer))
