-- What a table's own invariants say of its states and steps. Assumes nothing.
use Rattle.std.proofs.Common.{◌≡◌, ℕ, length, get_or, ap, ◌∙◌}
use Rattle.std.proofs.lemmas.List.{length-map}
use Rattle.model.specs.Model.{count, steps_of}
use Rattle.model.proofs.Elements.{get_or_map_default}
use Rattle.table.specs.Arrays.{row_in, step_in}
use Rattle.table.specs.Meaning.{table_of}
use Rattle.table.specs.declared.table.Table.{Table}
use Rattle.table.proofs.Arrays.{Placed, no_row, placed_parts}

module _ (t : Table) where
  pub holds : Placed (length t.branches.items) t.rows.items
  holds = placed_parts t.rows.items t.branches.items t.placed

  pub count_is : count (table_of t) ≡ length t.rows.items
  count_is = length-map t.rows.items (row_in t.branches.items)

  pub steps_are_counted : (s : ℕ) → length (steps_of (table_of t) s) ≡ length (get_or t.rows.items s no_row).items
  steps_are_counted s =
      ap length (get_or_map_default (row_in t.branches.items) t.rows.items s no_row)
      ∙ length-map (get_or t.rows.items s no_row).items (step_in t.branches.items)
