-- How the fields of a model file take their turns. Assumes nothing.
use Rattle.std.proofs.Common.{ℕ, ◌-◌, ◌%◌, ◌≤◌, ◌&&◌, eqb, leb, List, length, Ok, Result}
use Rattle.std.proofs.lemmas.Bool.{and_parts, leb-true}
use Rattle.fields.specs.Fields.{Leads, Read, in_turn, starts, then}
use Rattle.fields.specs.declared.fault.FileFault.{FileFault}
use Rattle.fields.proofs.Starts.{field_taken}
use Rattle.model.specs.Model.{Model, Step}
use Rattle.table.specs.Arrays.{measured}
use Rattle.table.specs.File.{step_field}
use Rattle.table.specs.Format.{allowed_size, due_tag}
use Rattle.table.specs.declared.format.ModelField.TheVariants.{Step as StepField}

-- the model that a file gives whose fields from a place on are still to come
abbrev pub left : List (List Step) → ℕ → List ℕ → Result Model FileFault
left ss place bs = then (in_turn step_field ss (starts 0 place bs)) (λ all. Ok (measured all))

-- the value of a step that is read has a state, an action and a branch
pub value_long : (place next : ℕ) (bs : List ℕ) (f : Read) → Leads (due_tag StepField) (λ _ size. allowed_size StepField size) place bs f next
    → 5 ≤ length f.value
value_long place next bs f h =
    let n : ℕ = length f.value in
    let taken = field_taken (due_tag StepField) (λ _ size. allowed_size StepField size) place bs f h.read in
    let r = and_parts (leb 5 n && leb n 194) (eqb ((n - 2) % 3) 0) taken.fits in
    leb-true 5 n (and_parts (leb 5 n) (leb n 194) r.0).0
