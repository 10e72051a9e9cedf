-- A set of states as a word: what sets and operations on them become, and which bits the word has. Assumes nothing.
use Rattle.std.proofs.Common.{◌≡◌, ℕ, zero, suc, ◌+◌, ◌-◌, ◌*◌, ◌/◌, ◌%◌, ◌^◌, ◌<◌, ◌≤◌, Bool, true, false, cond, not, ◌&&◌, ◌||◌, eqb, sym, refl, ap, ◌∙◌, ap₂, inl, inr, one-mul, pow-suc, add-one, arith, pow_mono}
use native.Mathlib.Nat.{div-eq_of_lt}
use lib.Bits.{and_block, bit_and, bit_or, bit_xor, or_block, or_shifted_r, xor_block}
use lib.Pow.{field, high, low, mod-mod-pow}
use Rattle.std.specs.Int.{bit_at}
use Rattle.std.proofs.lemmas.Nat.Bits.{bit_at-lt, same_from_bits_below}
use Rattle.std.proofs.lemmas.Bool.{cases_eq}
use Rattle.theory.specs.Sentences.{StateSet, nowhere}
use Rattle.logic.specs.Words.{has, word}

pub word_below : (n : ℕ) (X : StateSet) → word n X < 2 ^ n
word_below zero X = omega arith
word_below (suc n) X =
    let h = word_below n X in
    let e = pow-suc 2 n in
    elim (X n) as (λ b. cond b 1 0 * 2 ^ n + word n X < 2 ^ suc n) [ true ↦ omega arith | false ↦ omega arith ]

pub word_same : (n : ℕ) (X Y : StateSet) → ((s : ℕ) → s < n → X s ≡ Y s) → word n X ≡ word n Y
word_same zero X Y h = refl
word_same (suc n) X Y h = rw (h n (omega arith), word_same n X Y (λ s l. h s (omega arith)))

pub word_nowhere : (n : ℕ) → word n nowhere ≡ 0
word_nowhere zero = refl
word_nowhere (suc n) = omega (arith, word_nowhere n)

pub word_everywhere : (n : ℕ) → word n (λ s. true) + 1 ≡ 2 ^ n
word_everywhere zero = refl
word_everywhere (suc n) = omega (arith, word_everywhere n, pow-suc 2 n)

-- an operation on words that does to each bit what another does to a test
module _ (op : ℕ → ℕ → ℕ) (on : Bool → Bool → Bool) (none : op 0 0 ≡ 0)
    (bits : (b c : Bool) → cond (on b c) 1 0 ≡ op (cond b 1 0) (cond c 1 0))
    (block : (k a b r s : ℕ) → r < 2 ^ k → s < 2 ^ k → op (a * 2 ^ k + r) (b * 2 ^ k + s) ≡ op a b * 2 ^ k + op r s) where
  word_op : (n : ℕ) (X Y : StateSet) → word n (λ s. on (X s) (Y s)) ≡ op (word n X) (word n Y)
  word_op zero X Y = sym none
  word_op (suc n) X Y =
      ap₂ (λ a r. a * 2 ^ n + r) (bits (X n) (Y n)) (word_op n X Y)
      ∙ sym (block n (cond (X n) 1 0) (cond (Y n) 1 0) (word n X) (word n Y) (word_below n X) (word_below n Y))

and_as_bits : (b c : Bool) → cond (b && c) 1 0 ≡ bit_and (cond b 1 0) (cond c 1 0)
and_as_bits true true = refl
and_as_bits true false = refl
and_as_bits false c = refl

or_as_bits : (b c : Bool) → cond (b || c) 1 0 ≡ bit_or (cond b 1 0) (cond c 1 0)
or_as_bits true true = refl
or_as_bits true false = refl
or_as_bits false c = refl

xor_as_bits : (b c : Bool) → cond (cond b (not c) c) 1 0 ≡ bit_xor (cond b 1 0) (cond c 1 0)
xor_as_bits true true = refl
xor_as_bits true false = refl
xor_as_bits false c = refl

pub word_and : (n : ℕ) (X Y : StateSet) → word n (λ s. X s && Y s) ≡ bit_and (word n X) (word n Y)
word_and = word_op bit_and (λ b c. b && c) refl and_as_bits and_block

pub word_or : (n : ℕ) (X Y : StateSet) → word n (λ s. X s || Y s) ≡ bit_or (word n X) (word n Y)
word_or = word_op bit_or (λ b c. b || c) refl or_as_bits or_block

pub word_not : (n : ℕ) (X : StateSet) → word n (λ s. not (X s)) ≡ bit_xor (word n (λ s. true)) (word n X)
word_not n = word_op bit_xor (λ b c. cond b (not c) c) refl xor_as_bits xor_block n (λ s. true)

-- bit s of a number is that of its n low bits, where s is below n
has_low : (n s w : ℕ) → s < n → has (w % 2 ^ n) s ≡ has w s
has_low n s w l =
    let e : n - (1 + s) + (1 + s) ≡ n = omega arith in
    let same : w % 2 ^ n % 2 ^ (1 + s) ≡ w % 2 ^ (1 + s) =
    ap (λ k. w % 2 ^ k % 2 ^ (1 + s)) (sym e) ∙ mod-mod-pow w (n - (1 + s)) (1 + s) in
    ap (λ x. eqb x 1) (sym (field (w % 2 ^ n) 1 s) ∙ ap (λ x. x / 2 ^ s) same ∙ field w 1 s)

eqb_bit : (b : Bool) → eqb (cond b 1 0 % 2) 1 ≡ b
eqb_bit true = refl
eqb_bit false = refl

has_highest : (n : ℕ) (X : StateSet) → has (word (suc n) X) n ≡ X n
has_highest n X = ap (λ x. eqb (x % 2) 1) (high (cond (X n) 1 0) n (word_below n X)) ∙ eqb_bit (X n)

pub has_word : (n : ℕ) (X : StateSet) (s : ℕ) → s < n → has (word n X) s ≡ X s
has_word zero X s l = absurd (omega arith)
has_word (suc n) X s l =
    elim (cases_eq s n) [
      | inl e ↦ rw e (has_highest n X)
      | inr e ↦
          let under : s < n = omega arith in
          sym (has_low n s (word (suc n) X) under) ∙ ap (λ w. has w s) (low (cond (X n) 1 0) n (word_below n X)) ∙ has_word n X s under
    ]

pub has_above : (w s : ℕ) → w < 2 ^ s → has w s ≡ false
has_above w s l = ap (λ x. eqb (x % 2) 1) (div-eq_of_lt l)

pub has_none : (n : ℕ) (X : StateSet) (s : ℕ) → n ≤ s → has (word n X) s ≡ false
has_none n X s l =
    let under : word n X < 2 ^ s = omega (arith, word_below n X, pow_mono l) in
    has_above (word n X) s under

-- one more state, which the set has
pub or_bit : (n : ℕ) (X : StateSet) → true ≡ X n → bit_or (word n X) (2 ^ n) ≡ word (n + 1) X
or_bit n X h = rw (add-one, ← h) (ap (bit_or (word n X)) (sym (one-mul (2 ^ n))) ∙ or_shifted_r 1 n (word n X) (word_below n X))

-- one more state, which the set has not
pub word_suc : (n : ℕ) (X : StateSet) → false ≡ X n → word n X ≡ word (n + 1) X
word_suc n X h = rw (add-one, ← h) (omega arith)

bit_as_test : (b : ℕ) → b < 2 → cond (eqb b 1) 1 0 ≡ b
bit_as_test zero h = refl
bit_as_test (suc zero) h = refl
bit_as_test (suc (suc b)) h = absurd (omega arith)

-- the set that a word is has the word
pub word_has : (n w : ℕ) → w < 2 ^ n → word n (has w) ≡ w
word_has n w h =
    let bit : (v s : ℕ) → cond (has v s) 1 0 ≡ bit_at v s = λ v s. bit_as_test (bit_at v s) (bit_at-lt v s) in
    same_from_bits_below n (word n (has w)) w (word_below n (has w)) h
    (λ s l. sym (bit (word n (has w)) s) ∙ ap (λ b. cond b 1 0) (has_word n (has w) s l) ∙ bit w s)
