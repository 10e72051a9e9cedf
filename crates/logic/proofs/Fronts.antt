-- The part at the front of some bytes, and a test of parts in two halves. Assumes nothing.
use Rattle.std.proofs.Common.{◌≡◌, ℕ, ◌+◌, ◌*◌, ◌<◌, ◌≤◌, Bool, true, false, ◌&&◌, List, [], ◌∷◌, map, length, get_or, take, drop, refl, ap₂, arith}
use Rattle.std.specs.List.{list_all}
use Rattle.theory.specs.Sentences.{one_of_first, sound_share}
use Rattle.theory.specs.declared.Part.{Part}
use Rattle.logic.specs.File.{parts_of}
use Rattle.logic.specs.Lines.{sound_part}

and_swap : (a b c d : Bool) → (a && b && (c && d)) ≡ (a && c && (b && d))
and_swap true true c d = refl
and_swap true false true d = refl
and_swap true false false d = refl
and_swap false b c d = refl

-- numbers in two bytes and in four, as they are read
abbrev in_two : List ℕ → ℕ
in_two bs = get_or bs 0 0 * 256 + get_or bs 1 0

abbrev in_four : List ℕ → ℕ
in_four bs = get_or bs 0 0 * 16777216 + get_or bs 1 0 * 65536 + get_or bs 2 0 * 256 + get_or bs 3 0

four_in_twos : (a b c d : ℕ) → (a * 256 + b) * 65536 + (c * 256 + d) ≡ a * 16777216 + b * 65536 + c * 256 + d
four_in_twos a b c d = omega arith

pub parts_none : (bytes : List ℕ) → length bytes < 10 → parts_of bytes ≡ []
parts_none [] h = refl
parts_none (_ ∷ []) h = refl
parts_none (_ ∷ _ ∷ []) h = refl
parts_none (_ ∷ _ ∷ _ ∷ []) h = refl
parts_none (_ ∷ _ ∷ _ ∷ _ ∷ []) h = refl
parts_none (_ ∷ _ ∷ _ ∷ _ ∷ _ ∷ []) h = refl
parts_none (_ ∷ _ ∷ _ ∷ _ ∷ _ ∷ _ ∷ []) h = refl
parts_none (_ ∷ _ ∷ _ ∷ _ ∷ _ ∷ _ ∷ _ ∷ []) h = refl
parts_none (_ ∷ _ ∷ _ ∷ _ ∷ _ ∷ _ ∷ _ ∷ _ ∷ []) h = refl
parts_none (_ ∷ _ ∷ _ ∷ _ ∷ _ ∷ _ ∷ _ ∷ _ ∷ _ ∷ []) h = refl
parts_none (_ ∷ _ ∷ _ ∷ _ ∷ _ ∷ _ ∷ _ ∷ _ ∷ _ ∷ _ ∷ bytes) h = absurd (omega arith)

pub parts_more : (bytes : List ℕ) → 10 ≤ length bytes
    → let k = drop 2 bytes in let m = drop 4 k in
    parts_of bytes ≡ record { line = in_two (take 2 bytes); k = in_four (take 4 k); m = in_four (take 4 m) } ∷ parts_of (drop 4 m)
parts_more (l ∷ i ∷ a ∷ b ∷ c ∷ d ∷ e ∷ f ∷ g ∷ h ∷ bytes) ten =
    ap₂ (λ k m. record { line = l * 256 + i; k = k; m = m } ∷ parts_of bytes) (four_in_twos a b c d) (four_in_twos e f g h)
parts_more bytes ten = absurd (omega arith)

-- the parts of a step-line that may stand behind i lines
pub sound_parts : (i : ℕ) (qs : List Part) → list_all (sound_part i) qs ≡ (list_all (one_of_first i) (map (λ q. q.line) qs) && list_all sound_share qs)
sound_parts i [] = refl
sound_parts i (q ∷ qs) = rw (sound_parts i qs) (and_swap (one_of_first i q.line) (sound_share q) _ _)
