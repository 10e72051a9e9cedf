-- The fields that are left decide about the file. Assumes nothing.
use Rattle.std.proofs.Common.{◌≡◌}
use Rattle.table.specs.File.{model_file}
use Rattle.table.specs.Meaning.{states_of}
use Rattle.table.specs.declared.format.ModelField.TheVariants.{Step}
use Rattle.table.proofs.Turns.{left}
use Rattle.table.proofs.table.Table.from_file.Given as goal

abbrev pub invariant-loop-field : goal.invariant-loop-field
invariant-loop-field l =
    record {
      rule : l.field-iterator.rule ≡ Step;
      decides : model_file l.bytes ≡ left (states_of l.table) l.field-iterator.place l.field-iterator.rest.now;
    }
