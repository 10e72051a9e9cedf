-- Words of sets that are met or joined one after another, and the words that stand for some sets. Assumes nothing.
use Rattle.std.proofs.Common.{◌≡◌, ℕ, zero, suc, ◌+◌, ◌*◌, ◌%◌, ◌≤◌, ◌++◌, cond, filter, inl, inr, ◌-◌, ◌^◌, ◌<◌, true, false, ◌&&◌, ◌||◌, eqb, List, [], ◌∷◌, map, get_or, sym, refl, ap, ◌∙◌, arith}
use Rattle.std.specs.List.{fold, list_all, list_any, range_with_len}
use Rattle.std.proofs.Math.Bool.{and-true, and_assoc, or-false, or_assoc}
use Rattle.std.proofs.lemmas.Bool.{cases_Bool}
use Rattle.std.proofs.lemmas.List.{map-id}
use Rattle.std.proofs.lemmas.List.FromFn.{filter_of_map_range_with_len_more}
use Rattle.std.proofs.lemmas.List.Sums.{fold-append}
use Rattle.std.proofs.lemmas.Nat.{one_shl}
use Rattle.std.proofs.lemmas.Nat.Bits.{bit_at-zero}
use lib.Bits.{bit_and, bit_or}
use Rattle.model.proofs.Elements.{get_or_map_default}
use Rattle.theory.specs.Sentences.{StateSet, nowhere, set_of}
use Rattle.logic.specs.Words.{has, sets_in, word}
use Rattle.logic.proofs.Words.{has_word, or_bit, word_and, word_below, word_has, word_nowhere, word_or, word_same, word_suc}

has_zero : (s : ℕ) → has 0 s ≡ false
has_zero s = ap (λ b. eqb b 1) (bit_at-zero s)

-- the set of a line is that of its word
in_word : (words : List ℕ) (i s : ℕ) → get_or (sets_in words) i nowhere s ≡ has (get_or words i 0) s
in_word [] i s = sym (has_zero s)
in_word (w ∷ words) zero s = refl
in_word (w ∷ words) (suc i) s = in_word words i s

-- the word of a line that is named
pub word_named : (n : ℕ) (words : List ℕ) (i : ℕ) → get_or words (i - 1) 0 < 2 ^ n
    → get_or words (i - 1) 0 ≡ word n (set_of (sets_in words) i)
word_named n words i h =
    let w : ℕ = get_or words (i - 1) 0 in
    sym (word_has n w h) ∙ word_same n (has w) (set_of (sets_in words) i) (λ s l. sym (in_word words (i - 1) s))

-- some words that stand for sets
module _ (n : ℕ) (sets : List StateSet) (words : List ℕ) (same : words ≡ map (word n) sets) where
  pub word_at : (i : ℕ) → get_or words i 0 ≡ word n (get_or sets i nowhere)
  word_at i =
      ap (λ ws. get_or ws i 0) same ∙ ap (get_or (map (word n) sets) i) (sym (word_nowhere n))
      ∙ get_or_map_default (word n) sets i nowhere

  pub words_below : (i : ℕ) → get_or words i 0 < 2 ^ n
  words_below i = omega (arith, word_at i, word_below n (get_or sets i nowhere))

  pub words_alike : (i s : ℕ) → s < n → set_of (sets_in words) i s ≡ set_of sets i s
  words_alike i s l =
      in_word words (i - 1) s ∙ ap (λ w. has w s) (word_at (i - 1)) ∙ has_word n (get_or sets (i - 1) nowhere) s l

-- the words of the lines that are named, each met with those before it or joined to them
module _ (n : ℕ) (F : ℕ → StateSet) where
  met : (X : StateSet) (is : List ℕ) → fold (λ w i. bit_and w (word n (F i))) (word n X) is ≡ word n (λ s. X s && list_all (λ i. F i s) is)
  met X [] = word_same n X (λ s. X s && true) (λ s l. sym (and-true (X s)))
  met X (i ∷ is) =
      ap (λ w. fold (λ v j. bit_and v (word n (F j))) w is) (sym (word_and n X (F i))) ∙ met (λ s. X s && F i s) is
      ∙ word_same n _ _ (λ s l. and_assoc (X s) (F i s) (list_all (λ j. F j s) is))

  joined : (X : StateSet) (is : List ℕ) → fold (λ w i. bit_or w (word n (F i))) (word n X) is ≡ word n (λ s. X s || list_any (λ i. F i s) is)
  joined X [] = word_same n X (λ s. X s || false) (λ s l. sym (or-false (X s)))
  joined X (i ∷ is) =
      ap (λ w. fold (λ v j. bit_or v (word n (F j))) w is) (sym (word_or n X (F i))) ∙ joined (λ s. X s || F i s) is
      ∙ word_same n _ _ (λ s l. or_assoc (X s) (F i s) (list_any (λ j. F j s) is))

  pub met_all : (is : List ℕ) → fold (λ w i. bit_and w (word n (F i))) (word n (λ s. true)) is ≡ word n (λ s. list_all (λ i. F i s) is)
  met_all = met (λ s. true)

  pub joined_all : (is : List ℕ) → fold (λ w i. bit_or w (word n (F i))) 0 is ≡ word n (λ s. list_any (λ i. F i s) is)
  joined_all is = ap (λ w. fold (λ v j. bit_or v (word n (F j))) w is) (sym (word_nowhere n)) ∙ joined nowhere is

-- a word is gathered from the bits of the states that its set has
module _ (X : StateSet) where
  abbrev with_state : ℕ → ℕ → ℕ
  with_state w s = bit_or w (1 * 2 ^ s % 2 ^ 64)

  one_more_state : (n : ℕ) → n < 64 → fold with_state (word n X) (cond (X n) (n ∷ []) []) ≡ word (n + 1) X
  one_more_state n low =
      elim (cases_Bool (X n)) [
        | inl h ↦ ap (λ b. fold with_state (word n X) (cond b (n ∷ []) [])) h ∙ ap (bit_or (word n X)) (one_shl n 64 low)
            ∙ or_bit n X (sym h)
        | inr h ↦ ap (λ b. fold with_state (word n X) (cond b (n ∷ []) [])) h ∙ word_suc n X (sym h)
      ]

  pub states_gathered : (n : ℕ) → n ≤ 64
      → fold (λ w s. bit_or w (1 * 2 ^ s % 2 ^ 64)) 0 (filter X (range_with_len 0 n)) ≡ word n X
  states_gathered zero h = refl
  states_gathered (suc n) h =
      let more : filter X (range_with_len 0 (n + 1)) ≡ filter X (range_with_len 0 n) ++ cond (X n) (n ∷ []) [] =
      simp map-id at (filter_of_map_range_with_len_more X (λ s. s) 0 n n (omega arith)) in
      let e : n + 1 ≡ suc n = omega arith in
      rw e at (ap (fold with_state 0) more ∙ fold-append with_state 0 (filter X (range_with_len 0 n)) (cond (X n) (n ∷ []) [])
      ∙ ap (λ w. fold with_state w (cond (X n) (n ∷ []) [])) (states_gathered n (omega arith)) ∙ one_more_state n (omega arith))
