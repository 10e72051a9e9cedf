-- The number and the place of each fault of a file. Assumes nothing.
use Rattle.std.specs.Prelude.{ℕ, List, ◌++◌, codes}
use Rattle.std.specs.Fmt.{decimal}
use Rattle.fields.specs.declared.fault.FileFault.{FileFault}
use Rattle.fields.specs.declared.fault.FileFault.TheVariants.{Field, Limit, Number}
use Rattle.fields.specs.declared.fault.Flaw.{Flaw}
use Rattle.fields.specs.declared.fault.Flaw.TheVariants.{Length, Short, Tag}

abbrev pub flaw_number : Flaw → ℕ
flaw_number Short = 1
flaw_number Tag = 2
flaw_number Length = 3

abbrev pub number_of : FileFault → ℕ
number_of (Field fault) = flaw_number fault.flaw
number_of (Number place) = 4
number_of (Limit place) = 5

abbrev pub place_of : FileFault → ℕ
place_of (Field fault) = fault.place
place_of (Number place) = place
place_of (Limit place) = place

-- what is printed of a fault
abbrev pub fault_text : FileFault → List ℕ
fault_text fault = decimal (number_of fault) ++ (codes " " ++ decimal (place_of fault))
