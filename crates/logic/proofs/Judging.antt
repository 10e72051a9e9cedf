-- How far a sentence is judged: the words and the depths of the lines done, and the last one's verdict. Assumes nothing.
use Rattle.std.proofs.Common.{◌≡◌, ℕ, ◌+◌, ◌-◌, ◌^◌, ◌<◌, true, List, [], ◌∷◌, ◌++◌, map, length, get_or, take, drop, set, Ok, sym, refl, ap, ◌∙◌, ap₂, arith}
use Rattle.std.specs.List.{AllByRecursion as All}
use Rattle.std.proofs.ByRecursion.{All-weaker}
use Rattle.std.proofs.lemmas.List.{append_assoc, drop_more, get_or_push, length-map, length_push, length-set, map_push, set_at, take_at}
use Rattle.model.specs.Model.{Model, count, lawful}
use Rattle.theory.specs.Sentences.{Line, StateSet, depth, depths_of, holds, line_depth, line_holds, nowhere, sets_of}
use Rattle.theory.proofs.Texts.{depth_at_most, depths_push, length_depths, length_sets, sets_push}
use Rattle.logic.specs.Judging.{verdict, words_after}
use Rattle.logic.specs.Words.{sets_in, word}
use Rattle.logic.specs.declared.fault.Verdict.{Verdict}
use Rattle.logic.proofs.Alike.{lines_alike}
use Rattle.logic.proofs.Gathering.{words_alike, words_below}
use Rattle.logic.proofs.Words.{word_nowhere, word_same}

pub record JudgedTo (m : Model) (before : List ℕ) (done : List Line) (words depths : List ℕ) (last : Verdict) : Type 0 where
  pub in_front : words ≡ words_after m (Ok done) before
  pub size : length words ≡ length before
  pub deep : depths ≡ depths_of done
  pub told : last ≡ verdict m done

pub judged_none : (m : Model) (before : List ℕ) → JudgedTo m before [] before [] (record { set = 0; depth = 0 })
judged_none m before = record {
  in_front = refl;
  size = refl;
  deep = refl;
  told = ap (λ w. record { set = w; depth = 0 }) (sym (word_nowhere (count m)));
}

-- the next line is to go to place i
module _ {m : Model} {before : List ℕ} {done : List Line} {words depths : List ℕ} {last : Verdict} (judged : JudgedTo m before done words depths last)
    (i : ℕ) (here : length done ≡ i) where
  abbrev W : List ℕ
  W = map (word (count m)) (sets_of m done)

  length_words : length W ≡ i
  length_words = length-map (sets_of m done) (word (count m)) ∙ length_sets m done ∙ here

  in_front_here : words ≡ W ++ drop i before
  in_front_here = judged.in_front ∙ ap (λ k. W ++ drop k before) here

  -- the words and the depths of the lines done
  pub words_done : take i words ≡ W
  words_done = ap (take i) in_front_here ∙ take_at W (drop i before) i length_words

  pub words_low : (k : ℕ) → get_or (take i words) k 0 < 2 ^ count m
  words_low = words_below (count m) (sets_of m done) (take i words) words_done

  -- what the words say of a line is what the sets say
  pub line_told : lawful m ≡ true → (l : Line)
      → word (count m) (line_holds m (sets_in (take i words)) l) ≡ word (count m) (line_holds m (sets_of m done) l)
  line_told law l =
      let alike = words_alike (count m) (sets_of m done) (take i words) words_done in
      word_same (count m) _ _ (lines_alike m law (sets_in (take i words)) (sets_of m done) alike l)

  pub depths_low : i < 4095 → All (λ d. d < 65535) depths
  depths_low h = rw judged.deep (All-weaker _ _ (λ d low. omega arith) (depths_of done) (depth_at_most done))

  pub length_deep : length depths ≡ i
  length_deep = ap length judged.deep ∙ length_depths done ∙ here

  module _ (l : Line) (w d : ℕ) (w_is : w ≡ word (count m) (line_holds m (sets_of m done) l)) (d_is : d ≡ line_depth (depths_of done) l)
      (fits : i < length before) where
    abbrev X : StateSet
    X = line_holds m (sets_of m done) l

    one_more : length (done ++ l ∷ []) ≡ i + 1
    one_more = length_push done l ∙ ap (λ k. k + 1) here

    written : set words i w ≡ W ++ w ∷ drop (i + 1) before
    written =
        ap (λ ws. set ws i w) (in_front_here ∙ ap (λ ys. W ++ ys) (drop_more before i 0 fits))
        ∙ set_at W (get_or before i 0) (drop (i + 1) before) w i length_words

    holds_last : holds m (done ++ l ∷ []) ≡ X
    holds_last = rw (sets_push m done l, one_more) (get_or_push (sets_of m done) X nowhere (i + 1 - 1) (omega (arith, length_sets m done)))

    depth_last : depth (done ++ l ∷ []) ≡ line_depth (depths_of done) l
    depth_last =
        rw (depths_push done l, one_more)
        (get_or_push (depths_of done) (line_depth (depths_of done) l) 0 (i + 1 - 1) (omega (arith, length_depths done)))

    pub judged_more : JudgedTo m before (done ++ l ∷ []) (set words i w) (depths ++ d ∷ []) (record { set = w; depth = d })
    judged_more = record {
      in_front = written ∙ rw (sets_push m done l, map_push (word (count m)) (sets_of m done) X, one_more, append_assoc, w_is);
      size = length-set words i w ∙ judged.size;
      deep = rw (depths_push done l, judged.deep, d_is);
      told = ap₂ (λ s e. record { set = s; depth = e }) (w_is ∙ ap (word (count m)) (sym holds_last)) (d_is ∙ sym depth_last);
    }
