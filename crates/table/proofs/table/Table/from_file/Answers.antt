-- Assumes nothing.
use Rattle.table.proofs.Turns.{value_long}
use Rattle.table.proofs.table.Table.from_file.Goals as goal

pub add-requires : goal.add-requires
add-requires c =
    let taken = rw (c.in_ok-field.was, c.loop-field.invariant.rule) at c.in-Some.ensures.steps.2 in
    value_long _ _ _ _ taken.2
