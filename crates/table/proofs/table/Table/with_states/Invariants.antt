-- As many states as were counted have no steps. Assumes nothing.
use Rattle.std.proofs.Common.{◌≡◌, replicate}
use Rattle.table.proofs.Arrays.{no_row}
use Rattle.table.proofs.table.Table.with_states.Given as goal

abbrev pub invariant-loop : goal.invariant-loop
invariant-loop l = l.rows.items ≡ replicate l.counter no_row
