-- That each step keeps to the table's branches, as a test and as what it says. Assumes nothing.
use Rattle.std.proofs.Common.{◌≡◌, ℕ, ◌+◌, ◌≤◌, true, List, [], length}
use Rattle.std.specs.List.{AllByRecursion as All}
use Rattle.std.proofs.ByRecursion.{All-weaker}
use Rattle.std.proofs.lemmas.Bool.{le-leb, leb-true}
use Rattle.model.specs.declared.Branch.{Branch}
use Rattle.model.proofs.Tests.{all_true, each_true}
use Rattle.table.specs.Arrays.{Row, placed}
use Rattle.table.specs.declared.row.Entry.{Entry}

abbrev pub no_row : Row
no_row = record { items = [] }

-- an entry keeps to the first n branches
abbrev pub Inside : ℕ → Entry → Type 0
Inside n e = e.first + e.count ≤ n

-- so do all of a table's
abbrev pub Placed : ℕ → List Row → Type 0
Placed n rows = All (λ r. All (Inside n) r.items) rows

pub placed_parts : (rows : List Row) (bs : List Branch) → placed rows bs ≡ true → Placed (length bs) rows
placed_parts rows bs h =
    All-weaker _ _ (λ r p. All-weaker _ _ (λ e l. leb-true (e.first + e.count) (length bs) l) r.items (each_true _ r.items p)) rows
    (each_true _ rows h)

pub placed_from_parts : (rows : List Row) (bs : List Branch) → Placed (length bs) rows → placed rows bs ≡ true
placed_from_parts rows bs h =
    all_true _ rows
    (All-weaker _ _ (λ r p. all_true _ r.items (All-weaker _ _ (λ e l. le-leb (e.first + e.count) (length bs) l) r.items p)) rows h)
