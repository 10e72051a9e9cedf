-- What a search for room reaches. Assumes nothing.
use Rattle.std.specs.Prelude.{◌≡◌, ◌≢◌, ℕ, ◌+◌, ◌<◌, ◌≤◌, Bool, true, false, not, length, count_by, sum, slice_index, slice_index_or}
use Rattle.matching.specs.Tables.{amount, cell}
use Rattle.matching.specs.declared.flow.Flow.{Flow}
use Rattle.matching.specs.declared.marks.Marks.{Marks}

abbrev pub row_marked : Marks → ℕ → Bool
row_marked m r = slice_index_or m.rows r false

abbrev pub column_marked : Marks → ℕ → Bool
column_marked m c = slice_index_or m.columns c false

-- whether row r may send to column c
abbrev pub may_send : Flow → ℕ → ℕ → Bool
may_send f r c = cell false f.task.allowed r c

-- how many rows and columns have no mark
abbrev pub unmarked : Marks → ℕ
unmarked m = count_by not m.rows + count_by not m.columns

-- every column to which row r may send is marked
pub record RowDone (f : Flow) (m : Marks) (r : ℕ) : Type 0 where
  pub along : (c : ℕ) → may_send f r c ≡ true → column_marked m c ≡ true

-- column c has less room than asked for, and every row that sends that much to it is marked
pub record ColumnDone (f : Flow) (least : ℕ) (m : Marks) (c : ℕ) : Type 0 where
  pub full : slice_index f.room c < least
  pub senders : (r : ℕ) → least ≤ amount f.amounts r c → row_marked m r ≡ true

-- rows P and columns Q that hold each column to which one of P may send, and each row that sends to one of Q
pub record Closed (f : Flow) (P Q : ℕ → Bool) : Type 0 where
  pub along : (r c : ℕ) → P r ≡ true → may_send f r c ≡ true → Q c ≡ true
  pub back : (r c : ℕ) → Q c ≡ true → 0 < amount f.amounts r c → P r ≡ true

-- what is marked lies in P and Q
pub record Inside (m : Marks) (P Q : ℕ → Bool) : Type 0 where
  pub rows : (r : ℕ) → row_marked m r ≡ true → P r ≡ true
  pub columns : (c : ℕ) → column_marked m c ≡ true → Q c ≡ true

-- A search that found no room: from the marks m to the marks n. What is new is done, and lies in each closed set that holds m.
pub record Spread (f : Flow) (least : ℕ) (m n : Marks) : Type 0 where
  pub rows : (r : ℕ) → row_marked m r ≡ true → row_marked n r ≡ true
  pub columns : (c : ℕ) → column_marked m c ≡ true → column_marked n c ≡ true
  pub new_rows : (r : ℕ) → row_marked m r ≡ false → row_marked n r ≡ true → RowDone f n r
  pub new_columns : (c : ℕ) → column_marked m c ≡ false → column_marked n c ≡ true → ColumnDone f least n c
  pub fewer : unmarked n ≤ unmarked m
  pub wide : length n.rows ≡ length m.rows
  pub inside : (P Q : ℕ → Bool) → Closed f P Q → Inside m P Q → Inside n P Q

-- A flow after another one: the same task, as much unsent, and the marked columns as they were, but for column c.
pub record Kept (f g : Flow) (m : Marks) (c : ℕ) : Type 0 where
  pub task : g.task ≡ f.task
  pub unsent : g.unsent ≡ f.unsent
  pub columns : (k r : ℕ) → column_marked m k ≡ true → k ≢ c → amount g.amounts r k ≡ amount f.amounts r k

-- Row r found no column with room: nothing has changed but the marks, and row r is done.
pub record Blocked (f g : Flow) (least : ℕ) (m n : Marks) (r : ℕ) : Type 0 where
  pub same : g ≡ f
  pub spread : Spread f least m n
  pub done : RowDone f n r

-- Column c, to which row r may send and that had no mark, has room now.
pub record Opened (f g : Flow) (m : Marks) (r least c : ℕ) : Type 0 where
  pub column : c < 64
  pub allowed : may_send f r c ≡ true
  pub fresh : column_marked m c ≡ false
  pub space : least ≤ slice_index g.room c
  pub kept : Kept f g m c

-- Column c has no room, nor was any made.
pub record Crowded (f g : Flow) (least : ℕ) (m n : Marks) (c : ℕ) : Type 0 where
  pub same : g ≡ f
  pub spread : Spread f least m n
  pub done : ColumnDone f least n c

-- Column c has room.
pub record Roomed (f g : Flow) (least : ℕ) (m : Marks) (c : ℕ) : Type 0 where
  pub space : least ≤ slice_index g.room c
  pub kept : Kept f g m c

-- What is marked is done, and lies in each closed set that holds the rows with something unsent.
pub record Reached (f : Flow) (least : ℕ) (m : Marks) : Type 0 where
  pub rows : (r : ℕ) → row_marked m r ≡ true → RowDone f m r
  pub columns : (c : ℕ) → column_marked m c ≡ true → ColumnDone f least m c
  pub inside : (P Q : ℕ → Bool) → Closed f P Q → ((r : ℕ) → 0 < slice_index f.unsent r → P r ≡ true) → Inside m P Q

-- No way is left to send that much: each row that has it unsent is marked.
pub record Stuck (f : Flow) (least : ℕ) (m : Marks) : Type 0 where
  pub started : (r : ℕ) → least ≤ slice_index f.unsent r → row_marked m r ≡ true
  pub reached : Reached f least m

-- More was sent.
pub record Sent (f g : Flow) : Type 0 where
  pub task : g.task ≡ f.task
  pub less : sum g.unsent < sum f.unsent

-- Nothing was sent, and no way is left.
pub record Ended (f g : Flow) (least : ℕ) (n : Marks) : Type 0 where
  pub same : g ≡ f
  pub stuck : Stuck f least n
