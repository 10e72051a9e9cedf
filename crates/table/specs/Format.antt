-- The fields of a model file. Assumes nothing.
use Rattle.std.specs.Prelude.{ℕ, ◌-◌, ◌%◌, Bool, ◌&&◌, ◌==◌, nat_le}
use Rattle.table.specs.declared.format.ModelField.{ModelField}
use Rattle.table.specs.declared.format.ModelField.TheVariants.{States, Step}

abbrev pub model_tag : ModelField → ℕ
model_tag States = 0x01
model_tag Step = 0x02

abbrev pub due_tag : ModelField → ℕ → Bool
due_tag field tag = tag == model_tag field

-- one byte for the number of states; two bytes and 1 to 64 branches of three for a step
abbrev pub allowed_size : ModelField → ℕ → Bool
allowed_size States size = size == 1
allowed_size Step size = nat_le 5 size && nat_le size 194 && (size - 2) % 3 == 0
