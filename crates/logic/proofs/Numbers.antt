-- Numbers and parts that are written in bytes: what they read back as, how many bytes they take, and that each is a byte. Assumes nothing.
use Rattle.std.proofs.Common.{◌≡◌, ℕ, ◌+◌, ◌*◌, ◌/◌, ◌%◌, ◌^◌, ◌<◌, List, [], ◌∷◌, ◌++◌, length, refl, ap, ◌∙◌, arith}
use Rattle.std.specs.List.{flat_map, AllByRecursion as All}
use Rattle.std.proofs.ByRecursion.{All-append}
use Rattle.theory.specs.declared.Part.{Part}
use Rattle.fields.specs.Bytes.{numbers}
use Rattle.logic.specs.File.{parts_of}
use Rattle.logic.specs.Writing.{four, part_bytes, two}

pub two_bytes_give : (x : ℕ) → x / 256 * 256 + x % 256 ≡ x
two_bytes_give x = omega arith

four_bytes_give : (x : ℕ)
    → (x / 65536 / 256 * 256 + x / 65536 % 256) * 65536 + (x % 65536 / 256 * 256 + x % 65536 % 256) ≡ x
four_bytes_give x = omega arith

numbers_two : (x : ℕ) (bs : List ℕ) → numbers (two x ++ bs) ≡ x ∷ numbers bs
numbers_two x bs = ap (λ n. n ∷ numbers bs) (two_bytes_give x)

pub numbers_joined : (is : List ℕ) → numbers (flat_map two is) ≡ is
numbers_joined [] = refl
numbers_joined (i ∷ is) = numbers_two i (flat_map two is) ∙ ap (λ ns. i ∷ ns) (numbers_joined is)

parts_part : (q : Part) (bs : List ℕ) → parts_of (part_bytes q ++ bs) ≡ q ∷ parts_of bs
parts_part q bs = rw (two_bytes_give q.line, four_bytes_give q.k, four_bytes_give q.m)

pub parts_joined : (qs : List Part) → parts_of (flat_map part_bytes qs) ≡ qs
parts_joined [] = refl
parts_joined (q ∷ qs) = parts_part q (flat_map part_bytes qs) ∙ ap (λ ps. q ∷ ps) (parts_joined qs)

pub length_joined_two : (is : List ℕ) → length (flat_map two is) % 2 ≡ 0
length_joined_two [] = refl
length_joined_two (i ∷ is) = omega (arith, length_joined_two is)

pub length_joined_part : (qs : List Part) → length (flat_map part_bytes qs) % 10 ≡ 0
length_joined_part [] = refl
length_joined_part (q ∷ qs) = omega (arith, length_joined_part qs)

abbrev pub Bytes : List ℕ → Type 0
Bytes bs = All (λ b. b < 256) bs

pub bytes_append : (bs cs : List ℕ) → Bytes bs → Bytes cs → Bytes (bs ++ cs)
bytes_append = All-append (λ b. b < 256)

pub bytes_two : (x : ℕ) → x < 2 ^ 16 → Bytes (two x)
bytes_two x h = (omega arith, (omega arith, tt))

pub bytes_four : (x : ℕ) → x < 2 ^ 32 → Bytes (four x)
bytes_four x h = bytes_append (two (x / 65536)) (two (x % 65536)) (bytes_two (x / 65536) (omega arith)) (bytes_two (x % 65536) (omega arith))
