-- In a well-formed sentence each line holds where its kind says and is as deep as its kind says. Assumes nothing.
use Rattle.std.proofs.Common.{◌≡◌, ℕ, zero, suc, ◌+◌, ◌-◌, ◌*◌, ◌<◌, true, not, ◌&&◌, eqb, ltb, leb, List, [], ◌∷◌, ◌++◌, length, get_or, sym, refl, ap, ◌∙◌, arith}
use Rattle.std.specs.List.{AllByRecursion as All}
use Rattle.std.proofs.ByRecursion.{All-weaker}
use Rattle.std.proofs.lemmas.List.{get_or_push, length_push}
use Rattle.std.proofs.lemmas.Bool.{and_parts}
use Rattle.model.specs.Lists.{greatest}
use Rattle.model.specs.Model.{Model, Step, steps_of, total}
use Rattle.model.proofs.Elements.{map_same}
use Rattle.theory.specs.Laws.{LinesMean}
use Rattle.theory.specs.Sentences.{all_of, any_of, Line, not_of, StateSet, step_to, depth_at, depths_from, depths_of, fits_after, line_depth}
use Rattle.theory.specs.Sentences.{line_holds, names, nowhere, own_depth, part_holds, set_of, sets_from, sets_of, well_formed_from}
use Rattle.theory.specs.declared.Part.{Part}
use Rattle.theory.proofs.Tests.{all_same, any_same, share_same, all_always, all_unmap}
use Rattle.theory.proofs.Texts.{names_between, run_keeps}

-- Where a line holds depends on the sets of the lines that it names only, and at a state of some that steps do not leave
-- it depends on those states only.
module _ (m : Model) (P : ℕ → Type 0) (xs ys : List StateSet) where
  abbrev Same : ℕ → Type 0
  Same i = (s : ℕ) → P s → set_of xs i s ≡ set_of ys i s

  abbrev Stays : Step → Type 0
  Stays a = All (λ b. P b.target) a.branches

  part_holds_same : (a : Step) → Stays a → (q : Part) → Same q.line → part_holds xs a q ≡ part_holds ys a q
  part_holds_same a stays q e =
      ap (λ w. leb (q.k * total a) (w * q.m))
      (share_same (set_of xs q.line) (set_of ys q.line) a (All-weaker _ _ (λ b h. e b.target h) a.branches stays))

  pub line_holds_same : (l : Line) → All Same (names l) → (s : ℕ) → P s → All Stays (steps_of m s) → line_holds m xs l s ≡ line_holds m ys l s
  line_holds_same (not_of i) h s here stay = ap not (h.0 s here)
  line_holds_same (all_of is) h s here stay = all_same _ _ is (All-weaker _ _ (λ i e. e s here) is h)
  line_holds_same (any_of is) h s here stay = any_same _ _ is (All-weaker _ _ (λ i e. e s here) is h)
  line_holds_same (step_to act qs) h s here stay =
      let parts = all_unmap Same (λ q. q.line) qs h in
      any_same _ _ (steps_of m s)
      (All-weaker _ _ (λ a stays. ap (λ b. eqb a.action act && b) (all_same _ _ qs (All-weaker _ _ (part_holds_same a stays) qs parts)))
      (steps_of m s) stay)

-- at any states
pub sets_same : (m : Model) (xs ys : List StateSet) (l : Line) → All (λ i. set_of xs i ≡ set_of ys i) (names l)
    → (s : ℕ) → line_holds m xs l s ≡ line_holds m ys l s
sets_same m xs ys l h s =
    line_holds_same m (λ _. Unit {0}) xs ys l (All-weaker _ _ (λ i e t _. ap (λ X. X t) e) (names l) h) s tt
    (all_always _ (λ a. all_always _ (λ b. tt) a.branches) (steps_of m s))

-- and so does its depth on their depths
pub line_depth_same : (xs ys : List ℕ) (l : Line) → All (λ i. depth_at xs i ≡ depth_at ys i) (names l) → line_depth xs l ≡ line_depth ys l
line_depth_same xs ys l h = ap (λ ds. greatest ds + own_depth l) (map_same (depth_at xs) (depth_at ys) (names l) h)

-- a run over lines, where the value of a line depends on the values of the lines that it names only
module _ {Y : Type 0} (d : Y) (f : List Y → Line → Y) (run : List Y → List Line → List Y)
    (none : (ys : List Y) → run ys [] ≡ ys) (more : (ys : List Y) (l : Line) (ls : List Line) → run ys (l ∷ ls) ≡ run (ys ++ f ys l ∷ []) ls)
    (same : (xs ys : List Y) (l : Line) → All (λ i. get_or xs (i - 1) d ≡ get_or ys (i - 1) d) (names l) → f xs l ≡ f ys l) where
  value_kept : (ys : List Y) (l : Line) (ls : List Line) → fits_after (length ys) l ≡ true → f ys l ≡ f (run ys ls) l
  value_kept ys l ls h =
      same ys (run ys ls) l
      (All-weaker _ _ (λ i r. sym (run_keeps f run none more d (i - 1) ys ls (omega (arith, r.0, r.1)))) (names l)
      (names_between (length ys) l h))

  value_means : (ys : List Y) (ls : List Line) → well_formed_from (length ys) ls ≡ true → (i : ℕ) → i < length ls
      → get_or (run ys ls) (length ys + i) d ≡ f (run ys ls) (get_or ls i (all_of []))
  value_means ys [] h i l = absurd (omega arith)
  value_means ys (x ∷ ls) h zero l =
      let fits = (and_parts (fits_after (length ys) x) (well_formed_from (length ys + 1) ls) h).0 in
      let e : length ys + 0 ≡ length ys = omega arith in
      let inside : length ys < length (ys ++ f ys x ∷ []) = omega (arith, length_push ys (f ys x)) in
      rw (e, more) (run_keeps f run none more d (length ys) (ys ++ f ys x ∷ []) ls inside
      ∙ get_or_push ys (f ys x) d (length ys) refl ∙ value_kept ys x (x ∷ ls) fits ∙ ap (λ w. f w x) (more ys x ls))
  value_means ys (x ∷ ls) h (suc i) l =
      let formed = (and_parts (fits_after (length ys) x) (well_formed_from (length ys + 1) ls) h).1 in
      let push : length (ys ++ f ys x ∷ []) ≡ length ys + 1 = length_push ys (f ys x) in
      let e : length ys + suc i ≡ length (ys ++ f ys x ∷ []) + i = omega arith in
      rw (e, more) (value_means (ys ++ f ys x ∷ []) ls (rw push formed) i (omega arith))

pub lines_mean : LinesMean
lines_mean m ls h i l =
    let formed : well_formed_from 0 ls ≡ true = (and_parts (ltb 0 (length ls)) (well_formed_from 0 ls) h).1 in
    let e : i + 1 - 1 ≡ 0 + i = omega arith in
    let sets : get_or (sets_of m ls) (i + 1 - 1) nowhere ≡ line_holds m (sets_of m ls) (get_or ls i (all_of [])) =
    rw e (value_means nowhere (line_holds m) (sets_from m) (λ _. refl) (λ _ _ _. refl)
    (λ xs ys x r k s. sets_same m xs ys x r s k) [] ls formed i l) in
    let depths : get_or (depths_of ls) (i + 1 - 1) 0 ≡ line_depth (depths_of ls) (get_or ls i (all_of [])) =
    rw e (value_means 0 line_depth depths_from (λ _. refl) (λ _ _ _. refl) line_depth_same [] ls formed i l) in
    (λ s. ap (λ X. X s) sets, depths)
