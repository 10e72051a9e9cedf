-- A set of states as a word: bit s for state s. Assumes nothing.
use Rattle.std.specs.Prelude.{ℕ, zero, suc, ◌+◌, ◌*◌, ◌/◌, ◌%◌, ◌^◌, Bool, cond, List, map, ◌==◌}
use Rattle.theory.specs.Sentences.{StateSet}

-- the states below n that a set has
abbrev pub word : ℕ → StateSet → ℕ
word zero X = 0
word (suc n) X = cond (X n) 1 0 * 2 ^ n + word n X

-- whether bit s of a word is set
abbrev pub has : ℕ → ℕ → Bool
has w s = w / 2 ^ s % 2 == 1

-- the sets that some words are
abbrev pub sets_in : List ℕ → List StateSet
sets_in words = map has words
