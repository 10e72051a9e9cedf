-- What judge answers of a sentence file, and leaves in the words, is sound. Assumes nothing.
use Rattle.std.proofs.Common.{◌≡◌, ℕ, zero, suc, ◌+◌, ◌-◌, ◌<◌, ◌≤◌, true, false, not, ltb, ◌⊎◌, List, [], ◌∷◌, ◌++◌, map, length, get_or, drop, Ok, sym, ap, ◌∙◌, inl, inr, add-zero, zero-add, arith}
use Rattle.std.proofs.lemmas.List.{get_or_append_left, get_or-map, length-map}
use Rattle.std.proofs.lemmas.Bool.{and_parts, cases_Bool, ltb-true}
use Rattle.model.specs.Model.{Model, count}
use Rattle.theory.specs.Sentences.{all_of, Line, not_of, StateSet, depth, fits_after, holds, line_holds, nowhere, set_of, sets_of}
use Rattle.theory.specs.Sentences.{well_formed, well_formed_from}
use Rattle.theory.proofs.Induction.{depth_zero_constant}
use Rattle.theory.proofs.Meanings.{lines_mean}
use Rattle.theory.proofs.Texts.{length_sets, names_between}
use Rattle.logic.specs.File.{sentence_file}
use Rattle.logic.specs.Judging.{Sound, verdict}
use Rattle.logic.specs.Words.{has, word}
use Rattle.logic.proofs.Files.{file_is_well_formed}
use Rattle.logic.proofs.Words.{has_none, has_word}

line_fits_after : (i k : ℕ) (ls : List Line) → k < length ls → well_formed_from i ls ≡ true → fits_after (i + k) (get_or ls k (all_of [])) ≡ true
line_fits_after i k [] l h = absurd (omega arith)
line_fits_after i zero (x ∷ ls) l h = rw (add-zero i) (and_parts (fits_after i x) (well_formed_from (i + 1) ls) h).0
line_fits_after i (suc k) (x ∷ ls) l h =
    let e : i + suc k ≡ i + 1 + k = omega arith in
    rw e (line_fits_after (i + 1) k ls (omega arith) (and_parts (fits_after i x) (well_formed_from (i + 1) ls) h).1)

module _ (m : Model) (ls : List Line) where
  abbrev n : ℕ
  n = count m

  abbrev sets : List StateSet
  sets = sets_of m ls

  depth_zero_word : depth ls ≡ 0
      → ((s : ℕ) → s < n → has (word n (holds m ls)) s ≡ true) ⊎ ((s : ℕ) → s < n → has (word n (holds m ls)) s ≡ false)
  depth_zero_word e =
      let as_first : (s : ℕ) → s < n → has (word n (holds m ls)) s ≡ holds m ls 0 =
      λ s l. has_word n (holds m ls) s l ∙ depth_zero_constant m ls e s 0 in
      elim (cases_Bool (holds m ls 0)) [
        | inl h ↦ inl (λ s l. as_first s l ∙ h)
        | inr h ↦ inr (λ s l. as_first s l ∙ h)
      ]

  module _ (formed : well_formed ls ≡ true) where
    some_line : 0 < length ls
    some_line = ltb-true 0 (length ls) (and_parts (ltb 0 (length ls)) (well_formed_from 0 ls) formed).0

    not_names_earlier : (i j : ℕ) → i < length ls → get_or ls i (all_of []) ≡ not_of j → (0 < j) × (j ≤ i)
    not_names_earlier i j l e =
        let fits = line_fits_after 0 i ls l (and_parts (ltb 0 (length ls)) (well_formed_from 0 ls) formed).1 in
        (names_between i (not_of j) (rw (zero-add i, e) at fits)).0

    not_holds : (i j s : ℕ) → i < length ls → get_or ls i (all_of []) ≡ not_of j → get_or sets i nowhere s ≡ not (set_of sets j s)
    not_holds i j s l e =
        let k : i + 1 - 1 ≡ i = omega arith in
        ap (λ x. get_or sets x nowhere s) (sym k) ∙ (lines_mean m ls formed i l).0 s ∙ ap (λ x. line_holds m sets x s) e

    -- a word for each line, and others behind them
    module _ (behind : List ℕ) where
      abbrev words : List ℕ
      words = map (word n) sets ++ behind

      word_at : (i : ℕ) → i < length ls → get_or words i 0 ≡ word n (get_or sets i nowhere)
      word_at i l =
          let inside : i < length sets = omega (arith, length_sets m ls) in
          get_or_append_left (map (word n) sets) behind 0 i (omega (arith, length-map sets (word n)))
          ∙ get_or-map (word n) sets i nowhere 0 inside

      has_at : (i s : ℕ) → i < length ls → s < n → has (get_or words i 0) s ≡ get_or sets i nowhere s
      has_at i s l k = ap (λ w. has w s) (word_at i l) ∙ has_word n (get_or sets i nowhere) s k

      words_sound : Sound n ls words (verdict m ls)
      words_sound = record {
        formed = formed;
        last = sym (word_at (length ls - 1) (omega (arith, some_line)));
        inside = λ i s l k. ap (λ w. has w s) (word_at i l) ∙ has_none n (get_or sets i nowhere) s k;
        complement = λ i j s l e k.
            has_at i s l k ∙ not_holds i j s l e ∙ ap not (sym (has_at (j - 1) s (omega (arith, not_names_earlier i j l e)) k));
        constant = depth_zero_word;
      }

pub sound : (m : Model) (bytes : List ℕ) (ls : List Line) (words : List ℕ) → sentence_file bytes ≡ Ok ls
    → Sound (count m) ls (map (word (count m)) (sets_of m ls) ++ drop (length ls) words) (verdict m ls)
sound m bytes ls words h = words_sound m ls (file_is_well_formed bytes ls h) (drop (length ls) words)
