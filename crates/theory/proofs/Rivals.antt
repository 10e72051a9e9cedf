-- The lines against the rivals of a step. Assumes nothing.
use Rattle.std.proofs.Common.{◌≡◌, ℕ, ◌+◌, ◌*◌, ◌<◌, ◌≤◌, true, false, not, List, [], ◌∷◌, ◌++◌, map, length, refl, ◌∙◌, subst, inl, inr, mul-le-mul_right, arith}
use Rattle.std.specs.List.{range_with_len, AllByRecursion as All, list_any}
use Rattle.std.proofs.lemmas.Bool.Decides.{nat_tests}
use Rattle.std.proofs.ByRecursion.{All-weaker}
use Rattle.std.proofs.lemmas.List.{append_assoc, append-nil, length_push}
use Rattle.std.proofs.lemmas.Bool.{both_ways, cases_Bool, le-leb, lt-leb, not_from_false}
use Rattle.model.specs.Model.{Model, Step, mass, total}
use Rattle.model.specs.declared.Branch.{Branch}
use Rattle.theory.specs.Lists.{AnyByRecursion as Any}
use Rattle.theory.specs.Matching.{Relation, cut, image}
use Rattle.theory.specs.Sentences.{all_of, any_of, Line, StateSet, part_holds, set_of, share, sets_of}
use Rattle.theory.specs.declared.Part.{Part}
use Rattle.theory.specs.Telling.{Block, Place, against, apart, apart_lines, line_for}
use Rattle.theory.proofs.Tests.{each_false}
use Rattle.theory.proofs.Elements.{all_self, all_swap, all_unfiltered}
use Rattle.theory.proofs.Sums.{sum_by_filter_le, sum_by_filter_part}
use Rattle.theory.proofs.Saying.{Formed, Named, Says, named_grown, says_at, says_grown, set_grown}
use Rattle.theory.proofs.Texts.{well_formed_push}
use Rattle.theory.proofs.Lines.{Along, Only, Passed, Pushed, push_all, push_any}

-- each line that sets u apart from a target of b stands in the text
abbrev pub Referred : Model → List Line → List Place → Relation → Step → ℕ → Branch → Type 0
Referred m ls places R b e u =
    All (λ v. Says m ls (line_for places u.target v.target) (Only u.target) (Only v.target) e) (apart R u b)

-- where the line that sets u apart from the targets of b must fail
abbrev Fails : Relation → Step → Branch → ℕ → Type 0
Fails R b u z = Any (λ v. z ≡ v.target) (apart R u b)

-- a part that the step b does not pass
pub record Stopped (m : Model) (ls : List Line) (e : ℕ) (b : Step) (q : Part) : Type 0 where
  pub named : Named ls e q.line
  pub stops : part_holds (sets_of m ls) b q ≡ false

-- the step a and a rival b of it, over a text with the lines that set them apart
pub record Rival (m : Model) (ls : List Line) (places : List Place) (R : Relation) (a : Step) (e : ℕ) (b : Step) : Type 0 where
  pub referred : All (Referred m ls places R b e) (cut R a b)
  pub outweighed : mass (image R (cut R a b) b) * total a < mass (cut R a b) * total b

-- the text with the lines against the rivals bs, and the parts that name them
pub record Blocked (m : Model) (ls : List Line) (a : Step) (e : ℕ) (bs : List Step) (qs : List Part) : Type 0 where
  pub formed : Formed ls
  pub passed : All (Passed m ls a e) qs
  pub stopped : All (λ b. Any (Stopped m ls e b) qs) bs

-- all of these last as the text grows
module _ (m : Model) (ls more : List Line) where
  passed_grown : {a : Step} {e : ℕ} {q : Part} → Passed m ls a e q → Passed m (ls ++ more) a e q
  passed_grown p =
      record { named = named_grown more p.named; ranged = p.ranged; passes = rw (set_grown more p.named m) p.passes }

  stopped_grown : {e : ℕ} {b : Step} {q : Part} → Stopped m ls e b q → Stopped m (ls ++ more) e b q
  stopped_grown p = record { named = named_grown more p.named; stops = rw (set_grown more p.named m) p.stops }

  referred_grown : (places : List Place) (R : Relation) (b : Step) (e : ℕ) (U : List Branch)
      → All (Referred m ls places R b e) U → All (Referred m (ls ++ more) places R b e) U
  referred_grown places R b e U h = All-weaker _ _ (λ u k. All-weaker _ _ (λ v s. says_grown more s) (apart R u b) k) U h

  rival_grown : (places : List Place) (R : Relation) (a : Step) (e : ℕ) (b : Step)
      → Rival m ls places R a e b → Rival m (ls ++ more) places R a e b
  rival_grown places R a e b r =
      record { referred = referred_grown places R b e (cut R a b) r.referred; outweighed = r.outweighed }

-- the text with the all-lines of U, of which the first is numbered i + 1
record Lined (m : Model) (R : Relation) (b : Step) (e i : ℕ) (T : List Line) (U : List Branch) : Type 0 where
  formed : Formed T
  long : length T ≡ i + length U
  along : Along (λ j u. Says m T j (Only u.target) (Fails R b u) e) (i + 1) U

apart_lines_say : (m : Model) (places : List Place) (R : Relation) (b : Step) (e : ℕ) (U : List Branch) (ls : List Line) (i : ℕ)
    → i ≡ length ls → Formed ls → All (Referred m ls places R b e) U → Lined m R b e i (ls ++ apart_lines places R U b) U
apart_lines_say m places R b e [] ls i is f h =
    record { formed = rw (append-nil ls) f; long = rw (append-nil ls) (omega arith); along = tt }
apart_lines_say m places R b e (u ∷ U) ls i is f h =
    let l : Line = all_of (map (λ v. line_for places u.target v.target) (apart R u b)) in
    let p : Pushed m ls l (Only u.target) (Fails R b u) e = push_all m ls _ (λ v. v.target) u.target e (apart R u b) h.0 in
    let with_l : List Line = ls ++ l ∷ [] in
    let more : List Line = apart_lines places R U b in
    let r : Lined m R b e (i + 1) (with_l ++ more) U =
    apart_lines_say m places R b e U with_l (i + 1) (omega (arith, length_push ls l)) (well_formed_push ls l f p.fits)
    (referred_grown m ls (l ∷ []) places R b e U h.1) in
    let s : Says m (with_l ++ more) (i + 1) (Only u.target) (Fails R b u) e =
    says_at (i + 1) (says_grown more p.says) (omega arith) in
    let t : Lined m R b e i (with_l ++ more) (u ∷ U) =
    record { formed = r.formed; long = omega (arith, r.long); along = (s, r.along) } in
    subst (λ T. Lined m R b e i T (u ∷ U)) (append_assoc ls (l ∷ []) more) t

-- the any-line against b, in the part of a
module _ (m : Model) (T : List Line) (R : Relation) (a b : Step) (e j : ℕ)
    (s : Says m T j (λ z. Any (λ u. z ≡ u.target) (cut R a b)) (λ z. All (λ u. Fails R b u z) (cut R a b)) e) where
  abbrev the_set : StateSet
  the_set = set_of (sets_of m T) j

  abbrev the_part : Part
  the_part = record { line = j; k = mass (cut R a b); m = total a }

  share_of_a : mass (cut R a b) ≤ share the_set a
  share_of_a =
      let U : List Branch = cut R a b in
      let here : All (λ u. the_set u.target ≡ true) U =
      All-weaker _ _ (λ u k. s.holds u.target k) U (all_self (λ u w. u.target ≡ w.target) (λ u. refl) U) in
      sum_by_filter_le _ _ _ a.branches (all_unfiltered (λ u. the_set u.target ≡ true) _ a.branches here)

  share_of_b : share the_set b ≤ mass (image R (cut R a b) b)
  share_of_b =
      let U : List Branch = cut R a b in
      let own : (u : Branch) → All (λ v. Fails R b u v.target) (apart R u b) =
      λ u. all_self (λ v w. v.target ≡ w.target) (λ v. refl) (apart R u b) in
      let when_apart : All (λ v. (u : Branch) → not (R u.target v.target) ≡ true → Fails R b u v.target) b.branches =
      all_swap (λ u v. not (R u.target v.target) ≡ true → Fails R b u v.target) b.branches
      (λ u. all_unfiltered (λ v. Fails R b u v.target) _ b.branches (own u)) in
      sum_by_filter_le _ _ _ b.branches (All-weaker _ _ (λ v f k.
      elim (cases_Bool (list_any (λ u. R u.target v.target) U)) [
        | inl y ↦ y
        | inr n ↦
            let fails = All-weaker _ _ (λ u w. f u (not_from_false _ w)) U (each_false (λ u. R u.target v.target) U n) in
            absurd (both_ways _ (s.fails v.target fails) k)
      ]) b.branches when_apart)

  part_passed : 0 < total a → total a ≤ 1000000000 → Passed m T a e the_part
  part_passed pos small =
      let le : mass (cut R a b) ≤ total a = sum_by_filter_part _ _ a.branches in
      record {
        named = s.named;
        ranged = grind (arith, nat_tests);
        passes = le-leb _ _ (mul-le-mul_right (total a) share_of_a);
      }

  part_stopped : mass (image R (cut R a b) b) * total a < mass (cut R a b) * total b → Stopped m T e b the_part
  part_stopped outweighed =
      let k : share the_set b * total a ≤ mass (image R (cut R a b) b) * total a = mul-le-mul_right (total a) share_of_b in
      record { named = s.named; stops = lt-leb _ _ (omega arith) }

pub rivals_are_blocked : (m : Model) (places : List Place) (R : Relation) (a : Step) (e : ℕ) → 0 < total a → total a ≤ 1000000000
    → (bs : List Step) (ls : List Line) (i : ℕ) → i ≡ length ls → Formed ls → All (Rival m ls places R a e) bs
    → Blocked m (ls ++ (against places R a i bs).lines) a e bs (against places R a i bs).parts
rivals_are_blocked m places R a e pos small [] ls i is f h = record { formed = rw (append-nil ls) f; passed = tt; stopped = tt }
rivals_are_blocked m places R a e pos small (b ∷ bs) ls i is f h =
    let U : List Branch = cut R a b in
    let A : List Line = apart_lines places R U b in
    let t : Lined m R b e i (ls ++ A) U = apart_lines_say m places R b e U ls i is f h.0.referred in
    let l : Line = any_of (range_with_len (i + 1) (length U)) in
    let p = push_any m (ls ++ A) (λ u. u.target) (Fails R b) e (i + 1) U t.along in
    let T : List Line = (ls ++ A) ++ l ∷ [] in
    let j : ℕ = i + length U + 1 in
    let s = says_at j p.says (omega (arith, t.long)) in
    let rest : Block = against places R a j bs in
    let hs : All (Rival m T places R a e) bs = All-weaker _ _ (λ c k.
    rival_grown m (ls ++ A) (l ∷ []) places R a e c (rival_grown m ls A places R a e c k)) bs h.1 in
    let r : Blocked m (T ++ rest.lines) a e bs rest.parts =
    rivals_are_blocked m places R a e pos small bs T j (omega (arith, t.long, length_push (ls ++ A) l))
    (well_formed_push (ls ++ A) l t.formed p.fits) hs in
    let q : Part = the_part m T R a b e j s in
    let w : Blocked m (T ++ rest.lines) a e (b ∷ bs) (q ∷ rest.parts) = record {
      formed = r.formed;
      passed = (passed_grown m T rest.lines (part_passed m T R a b e j s pos small), r.passed);
      stopped = (
        inl (stopped_grown m T rest.lines (part_stopped m T R a b e j s h.0.outweighed)),
        All-weaker _ _ (λ c k. inr k) bs r.stopped,
      );
    } in
    subst (λ T. Blocked m T a e (b ∷ bs) (q ∷ rest.parts))
    (append_assoc (ls ++ A) (l ∷ []) rest.lines ∙ append_assoc ls A (l ∷ rest.lines)) w
