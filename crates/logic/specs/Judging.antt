-- What judge answers, what it leaves in the words, and what holds of both. Assumes nothing.
use Rattle.std.specs.Prelude.{◌≡◌, ℕ, ◌-◌, ◌<◌, ◌≤◌, true, false, cond, not, ◌⊎◌, List, [], ◌++◌, map, length, drop, IfOk, Some, None, Ok, Err, Option, Result, ◌==◌, nat_le, slice_index, slice_index_or}
use Rattle.std.specs.Fmt.{decimal}
use Rattle.fields.specs.Faults.{fault_text, number_of, place_of}
use Rattle.fields.specs.Fields.{then}
use Rattle.fields.specs.declared.fault.FileFault.{FileFault}
use Rattle.model.specs.Model.{Model, count}
use Rattle.theory.specs.Sentences.{all_of, Line, not_of, depth, holds, sets_of, well_formed}
use Rattle.logic.specs.File.{sentence_file}
use Rattle.logic.specs.Words.{has, word}
use Rattle.logic.specs.declared.fault.JudgeFault.{JudgeFault}
use Rattle.logic.specs.declared.fault.JudgeFault.TheVariants.{File, Void, Words}
use Rattle.logic.specs.declared.fault.Verdict.{Verdict}

abbrev pub judge_number : JudgeFault → ℕ
judge_number Void = 11
judge_number (File fault) = number_of fault
judge_number Words = 21

-- a file's fault has a place in it
abbrev pub judge_place : JudgeFault → Option ℕ
judge_place Void = None
judge_place (File fault) = Some (place_of fault)
judge_place Words = None

-- what is printed of a fault
abbrev pub judge_text : JudgeFault → List ℕ
judge_text Void = decimal 11
judge_text (File fault) = fault_text fault
judge_text Words = decimal 21

-- a file's fault as judge's
abbrev pub of_judge : {T : Type 0} → Result T FileFault → Result T JudgeFault
of_judge (Ok x) = Ok x
of_judge (Err e) = Err (File e)

-- how many lines a file has
abbrev pub counted : Result (List Line) FileFault → Result ℕ FileFault
counted (Ok ls) = Ok (length ls)
counted (Err e) = Err e

-- where a sentence holds, and how deep it is
abbrev pub verdict : Model → List Line → Verdict
verdict m ls = record { set = word (count m) (holds m ls); depth = depth ls }

-- The sentence that is judged, where there is room for so many words: the source is not void, the file is sound, and there
-- is a word for each line; else the first of these that fails.
abbrev pub judged : Model → List ℕ → ℕ → Result (List Line) JudgeFault
judged m bytes room =
    cond (count m == 0) (Err Void)
    (then (of_judge (sentence_file bytes)) (λ ls. cond (nat_le (length ls) room) (Ok ls) (Err Words)))

abbrev pub answered : Model → Result (List Line) JudgeFault → Result Verdict JudgeFault
answered m (Ok ls) = Ok (verdict m ls)
answered m (Err e) = Err e

-- a word for each line, and behind them the words that were there; all of those where nothing is judged
abbrev pub words_after : Model → Result (List Line) JudgeFault → List ℕ → List ℕ
words_after m (Ok ls) words = map (word (count m)) (sets_of m ls) ++ drop (length ls) words
words_after m (Err e) words = words

-- What judge's answer and its words say of the model of n states. The sentence ls is well-formed. Bits at n and above
-- are 0. The word of a not-line has those of the n states that the word of the line it names has not. A sentence of depth
-- 0 holds everywhere or nowhere.
pub record Sound (n : ℕ) (ls : List Line) (words : List ℕ) (v : Verdict) : Type 0 where
  pub formed : well_formed ls ≡ true
  pub last : v.set ≡ slice_index words (length ls - 1)
  pub inside : (i s : ℕ) → i < length ls → n ≤ s → has (slice_index words i) s ≡ false
  pub complement : (i j s : ℕ) → i < length ls → slice_index_or ls i (all_of []) ≡ not_of j → s < n
      → has (slice_index words i) s ≡ not (has (slice_index words (j - 1)) s)
  pub constant : v.depth ≡ 0 → ((s : ℕ) → s < n → has v.set s ≡ true) ⊎ ((s : ℕ) → s < n → has v.set s ≡ false)

abbrev pub JudgedSoundly : Model → List ℕ → List ℕ → Result Verdict JudgeFault → Type 0
JudgedSoundly m bytes words r =
    IfOk r (λ v. (ls : List Line) × (sentence_file bytes ≡ Ok ls) × Sound (count m) ls words v)
