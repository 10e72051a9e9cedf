-- A text of lines, what one more line adds to it, what its lines name and how deep they are. Assumes nothing.
use Rattle.std.proofs.Common.{◌≡◌, ℕ, suc, ◌+◌, ◌-◌, ◌<◌, ◌≤◌, true, ltb, leb, List, [], ◌∷◌, ◌++◌, length, get_or, sym, refl, ap, ◌∙◌, add-zero, zero-add, arith}
use Rattle.std.specs.List.{AllByRecursion as All, list_all}
use Rattle.std.proofs.ByRecursion.{All-push, All-weaker}
use Rattle.std.proofs.lemmas.List.{get_or_append_left, length_push}
use Rattle.std.proofs.lemmas.Bool.{and_from, and_parts, leb-true, ltb-true}
use Rattle.model.specs.Model.{Model}
use Rattle.model.proofs.Greatest.{greatest_least}
use Rattle.model.proofs.Tests.{all_at, each_true}
use Rattle.theory.specs.Sentences.{all_of, any_of, Line, not_of, step_to, depth_at, depths_from, depths_of, fits_after, in_range, line_depth}
use Rattle.theory.specs.Sentences.{line_holds, names, nowhere, one_of_first, own_depth, sets_from, sets_of, well_formed_from}
use Rattle.theory.proofs.Tests.{all_always}

-- a run over a list that pushes one value for each element
module _ {X Y : Type 0} (f : List Y → X → Y) (run : List Y → List X → List Y)
    (none : (ys : List Y) → run ys [] ≡ ys) (more : (ys : List Y) (x : X) (xs : List X) → run ys (x ∷ xs) ≡ run (ys ++ f ys x ∷ []) xs) where
  length_run : (ys : List Y) (xs : List X) → length (run ys xs) ≡ length ys + length xs
  length_run ys [] = rw none (omega arith)
  length_run ys (x ∷ xs) = rw more (omega (arith, length_run (ys ++ f ys x ∷ []) xs, length_push ys (f ys x)))

  -- the values in front stay
  pub run_keeps : (d : Y) (j : ℕ) (ys : List Y) (xs : List X) → j < length ys → get_or (run ys xs) j d ≡ get_or ys j d
  run_keeps d j ys [] h = rw none
  run_keeps d j ys (x ∷ xs) h =
      let k : j < length (ys ++ f ys x ∷ []) = omega (arith, length_push ys (f ys x)) in
      rw more (run_keeps d j (ys ++ f ys x ∷ []) xs k ∙ get_or_append_left ys (f ys x ∷ []) d j h)

  run_append : (ys : List Y) (xs zs : List X) → run ys (xs ++ zs) ≡ run (run ys xs) zs
  run_append ys [] zs = ap (λ w. run w zs) (sym (none ys))
  run_append ys (x ∷ xs) zs = more ys x (xs ++ zs) ∙ run_append (ys ++ f ys x ∷ []) xs zs ∙ ap (λ w. run w zs) (sym (more ys x xs))

  run_push : (ys : List Y) (xs : List X) (x : X) → run ys (xs ++ x ∷ []) ≡ run ys xs ++ f (run ys xs) x ∷ []
  run_push ys xs x = run_append ys xs (x ∷ []) ∙ more (run ys xs) x [] ∙ none (run ys xs ++ f (run ys xs) x ∷ [])

pub length_sets : (m : Model) (ls : List Line) → length (sets_of m ls) ≡ length ls
length_sets m ls = let h = length_run (line_holds m) (sets_from m) (λ _. refl) (λ _ _ _. refl) [] ls in omega arith

pub length_depths : (ls : List Line) → length (depths_of ls) ≡ length ls
length_depths ls = let h = length_run line_depth depths_from (λ _. refl) (λ _ _ _. refl) [] ls in omega arith

pub sets_push : (m : Model) (ls : List Line) (l : Line) → sets_of m (ls ++ l ∷ []) ≡ sets_of m ls ++ line_holds m (sets_of m ls) l ∷ []
sets_push m = run_push (line_holds m) (sets_from m) (λ _. refl) (λ _ _ _. refl) []

pub depths_push : (ls : List Line) (l : Line) → depths_of (ls ++ l ∷ []) ≡ depths_of ls ++ line_depth (depths_of ls) l ∷ []
depths_push = run_push line_depth depths_from (λ _. refl) (λ _ _ _. refl) []

-- the sets and depths of lines last as the text grows
pub sets_grown : (m : Model) (ls more : List Line) (j : ℕ)
    → j < length ls → get_or (sets_of m (ls ++ more)) j nowhere ≡ get_or (sets_of m ls) j nowhere
sets_grown m ls more j h =
    rw (run_append (line_holds m) (sets_from m) (λ _. refl) (λ _ _ _. refl) [] ls more)
    (run_keeps (line_holds m) (sets_from m) (λ _. refl) (λ _ _ _. refl) nowhere j (sets_of m ls) more (omega (arith, length_sets m ls)))

pub depths_grown : (ls more : List Line) (j : ℕ) → j < length ls → get_or (depths_of (ls ++ more)) j 0 ≡ get_or (depths_of ls) j 0
depths_grown ls more j h =
    rw (run_append line_depth depths_from (λ _. refl) (λ _ _ _. refl) [] ls more)
    (run_keeps line_depth depths_from (λ _. refl) (λ _ _ _. refl) 0 j (depths_of ls) more (omega (arith, length_depths ls)))

-- a line that may stand behind i others names some of them
pub names_between : (i : ℕ) (l : Line) → fits_after i l ≡ true → All (λ j. (0 < j) × (j ≤ i)) (names l)
names_between i l h =
    let each = each_true (one_of_first i) (names l) (and_parts (list_all (one_of_first i) (names l)) (in_range l) h).0 in
    All-weaker _ _ (λ j e. let r = and_parts (ltb 0 j) (leb j i) e in (ltb-true 0 j r.0, leb-true j i r.1)) (names l) each

well_formed_from_push : (i : ℕ) (ls : List Line) (l : Line)
    → well_formed_from i ls ≡ true → fits_after (i + length ls) l ≡ true → well_formed_from i (ls ++ l ∷ []) ≡ true
well_formed_from_push i [] l h k = and_from (fits_after i l) true (rw (add-zero i) at k) refl
well_formed_from_push i (x ∷ ls) l h k =
    let hs = and_parts (fits_after i x) (well_formed_from (i + 1) ls) h in
    let e : i + suc (length ls) ≡ i + 1 + length ls = omega arith in
    and_from (fits_after i x) (well_formed_from (i + 1) (ls ++ l ∷ [])) hs.0 (well_formed_from_push (i + 1) ls l hs.1 (rw e at k))

pub well_formed_push : (ls : List Line) (l : Line)
    → well_formed_from 0 ls ≡ true → fits_after (length ls) l ≡ true → well_formed_from 0 (ls ++ l ∷ []) ≡ true
well_formed_push ls l h k = well_formed_from_push 0 ls l h (rw (zero-add (length ls)) k)

own_depth_small : (l : Line) → own_depth l ≤ 1
own_depth_small (not_of i) = omega arith
own_depth_small (all_of is) = omega arith
own_depth_small (any_of is) = omega arith
own_depth_small (step_to act qs) = omega arith

-- a line is at most one deeper than all in front of it
pub line_depth_at_most : (n : ℕ) (depths : List ℕ) (l : Line) → All (λ d. d ≤ n) depths → line_depth depths l ≤ n + 1
line_depth_at_most n depths l h =
    let named = all_always (λ j. depth_at depths j ≤ n) (λ j. all_at (λ d. d ≤ n) depths (j - 1) 0 h (omega arith)) (names l) in
    omega (arith, greatest_least (depth_at depths) n (names l) named, own_depth_small l)

depth_at_most_from : (n : ℕ) (depths : List ℕ) (ls : List Line)
    → All (λ d. d ≤ n) depths → All (λ d. d ≤ n + length ls) (depths_from depths ls)
depth_at_most_from n depths [] h = All-weaker _ _ (λ d e. omega arith) depths h
depth_at_most_from n depths (l ∷ ls) h =
    let front = All-weaker _ (λ d. d ≤ n + 1) (λ d e. omega arith) depths h in
    let next = depth_at_most_from (n + 1) (depths ++ line_depth depths l ∷ []) ls
    (All-push (λ d. d ≤ n + 1) depths (line_depth depths l) front (line_depth_at_most n depths l h)) in
    All-weaker _ _ (λ d e. omega arith) (depths_from depths (l ∷ ls)) next

pub depth_at_most : (ls : List Line) → All (λ d. d ≤ length ls) (depths_of ls)
depth_at_most ls = All-weaker _ _ (λ d e. omega arith) (depths_of ls) (depth_at_most_from 0 [] ls tt)
