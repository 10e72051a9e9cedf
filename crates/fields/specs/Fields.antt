-- A field off the front of a file's bytes, and a whole file as the fields of it in turn. Assumes nothing.
use Rattle.std.specs.Prelude.{◌≡◌, ℕ, zero, suc, ◌+◌, ◌*◌, ◌<◌, Bool, cond, List, [], ◌∷◌, length, take, drop, Ok, Err, Result, nat_le}
use Rattle.fields.specs.declared.fault.FieldFault.{FieldFault}
use Rattle.fields.specs.declared.field.Field.{Field as CodeField}
use Rattle.fields.specs.declared.fault.FileFault.{FileFault}
use Rattle.fields.specs.declared.fault.FileFault.TheVariants.{Field}
use Rattle.fields.specs.declared.fault.Flaw.{Flaw}
use Rattle.fields.specs.declared.fault.Flaw.TheVariants.{Length, Short, Tag}

-- a field as it is read: its tag, its value, and the bytes after it
pub record Read : Type 0 where
  pub tag : ℕ
  pub value : List ℕ
  pub rest : List ℕ

abbrev fault : ℕ → Flaw → Result Read FieldFault
fault place flaw = Err (record { flaw = flaw; place = place })

-- The field at the front: the head is there, the tag is due, the tag allows the length, and the value is there; else the
-- first of these that fails.
abbrev pub field_of : (ℕ → Bool) → (ℕ → ℕ → Bool) → ℕ → List ℕ → Result Read FieldFault
field_of due allowed place [] = fault place Short
field_of due allowed place (tag ∷ []) = fault place Short
field_of due allowed place (tag ∷ high ∷ []) = fault place Short
field_of due allowed place (tag ∷ high ∷ low ∷ rest) =
    let size : ℕ = high * 256 + low in
    cond (due tag) (cond (allowed tag size) (cond (nat_le size (length rest))
    (Ok (record { tag = tag; value = take size rest; rest = drop size rest }))
    (fault place Short)) (fault place Length)) (fault place Tag)

-- the same of the code's own field, by the tag of its kind
abbrev pub as_read : {K : Type 0} → (K → ℕ) → CodeField K → Read
as_read tag_of f = record { tag = tag_of f.kind; value = f.value.now; rest = f.rest.now }

-- what comes after an Ok
abbrev pub then : {T U E : Type 0} → Result T E → (T → Result U E) → Result U E
then (Ok x) k = k x
then (Err e) k = Err e

-- a field's fault as its file's
abbrev pub of_file : {T : Type 0} → Result T FieldFault → Result T FileFault
of_file (Ok x) = Ok x
of_file (Err e) = Err (Field e)

-- the length that a head gives
abbrev pub size_given : List ℕ → ℕ
size_given [] = 0
size_given (tag ∷ []) = 0
size_given (tag ∷ high ∷ []) = 0
size_given (tag ∷ high ∷ low ∷ rest) = high * 256 + low

-- a place at which a field begins, with the bytes from there on
pub record Start : Type 0 where
  pub place : ℕ
  pub bytes : List ℕ

-- Where the fields of a file begin: one at once and each other right behind the value of the one before. The next `inside`
-- bytes, of those that stand from a place on, still belong to a field.
abbrev pub starts : ℕ → ℕ → List ℕ → List Start
starts inside place [] = []
starts zero place (b ∷ bs) = record { place = place; bytes = b ∷ bs } ∷ starts (2 + size_given (b ∷ bs)) (place + 1) bs
starts (suc inside) place (b ∷ bs) = starts inside (place + 1) bs

-- A field that is read off the front of bytes which stand at a place; the next one begins at another place, with the bytes
-- behind it.
pub record Leads (due : ℕ → Bool) (allowed : ℕ → ℕ → Bool) (place : ℕ) (bytes : List ℕ) (f : Read) (next : ℕ) : Type 0 where
  pub read : field_of due allowed place bytes ≡ Ok f
  pub behind : next ≡ place + (3 + length f.value)
  pub follows : starts 0 place bytes ≡ record { place = place; bytes = bytes } ∷ starts 0 next f.rest
  pub shorter : length f.rest < length bytes

-- one field after another adds to what was read before it, up to the first fault
abbrev pub in_turn : {S : Type 0} → (S → Start → Result S FileFault) → S → List Start → Result S FileFault
in_turn add state [] = Ok state
in_turn add state (x ∷ xs) = then (add state x) (λ next. in_turn add next xs)
