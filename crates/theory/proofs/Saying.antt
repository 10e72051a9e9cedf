-- What a line of a text says, and what of it lasts as the text grows. Assumes nothing.
use Rattle.std.proofs.Common.{◌≡◌, ℕ, ◌+◌, ◌-◌, ◌<◌, ◌≤◌, true, false, List, [], ◌∷◌, ◌++◌, length, get_or, subst, arith}
use Rattle.std.proofs.lemmas.List.{get_or_push, length-append, length_push}
use Rattle.model.specs.Model.{Model}
use Rattle.theory.specs.Sentences.{Line, depths_of, line_depth, line_holds, nowhere, set_of, sets_of, well_formed_from}
use Rattle.theory.proofs.Texts.{depths_grown, depths_push, length_depths, length_sets, sets_grown, sets_push}

-- line j can be named after the text, by a line of depth e
pub record Named (ls : List Line) (e j : ℕ) : Type 0 where
  pub low : 0 < j
  pub high : j ≤ length ls
  pub shallow : get_or (depths_of ls) (j - 1) 0 ≤ e

-- a line's set and depth last as the text grows
module _ {ls : List Line} {e j : ℕ} (more : List Line) (n : Named ls e j) where
  pub set_grown : (m : Model) → set_of (sets_of m (ls ++ more)) j ≡ set_of (sets_of m ls) j
  set_grown m = sets_grown m ls more (j - 1) (omega (arith, n.low, n.high))

  pub named_grown : Named (ls ++ more) e j
  named_grown =
      record {
        low = n.low;
        high = omega (arith, length-append ls more, n.high);
        shallow = rw (depths_grown ls more (j - 1) (omega (arith, n.low, n.high))) n.shallow;
      }

module _ (ls : List Line) (l : Line) where
  set_last : (m : Model) → set_of (sets_of m (ls ++ l ∷ [])) (length ls + 1) ≡ line_holds m (sets_of m ls) l
  set_last m =
      rw (sets_push m ls l)
      (get_or_push (sets_of m ls) (line_holds m (sets_of m ls) l) nowhere (length ls + 1 - 1) (omega (arith, length_sets m ls)))

  depth_last : get_or (depths_of (ls ++ l ∷ [])) (length ls + 1 - 1) 0 ≡ line_depth (depths_of ls) l
  depth_last =
      rw (depths_push ls l)
      (get_or_push (depths_of ls) (line_depth (depths_of ls) l) 0 (length ls + 1 - 1) (omega (arith, length_depths ls)))

abbrev pub Formed : List Line → Type 0
Formed ls = well_formed_from 0 ls ≡ true

-- Line j of a text holds where X does and nowhere that Y does, and its depth is at most e.
pub record Says (m : Model) (ls : List Line) (j : ℕ) (X Y : ℕ → Type 0) (e : ℕ) : Type 0 where
  pub named : Named ls e j
  pub holds : (x : ℕ) → X x → set_of (sets_of m ls) j x ≡ true
  pub fails : (y : ℕ) → Y y → set_of (sets_of m ls) j y ≡ false

pub says_push : (m : Model) (ls : List Line) (l : Line) (X Y : ℕ → Type 0) (e : ℕ)
    → ((x : ℕ) → X x → line_holds m (sets_of m ls) l x ≡ true) → ((y : ℕ) → Y y → line_holds m (sets_of m ls) l y ≡ false)
    → line_depth (depths_of ls) l ≤ e → Says m (ls ++ l ∷ []) (length ls + 1) X Y e
says_push m ls l X Y e h f s =
    record {
      named = record { low = omega arith; high = omega (arith, length_push ls l); shallow = rw (depth_last ls l) s };
      holds = λ x k. rw (set_last ls l m) (h x k);
      fails = λ y k. rw (set_last ls l m) (f y k);
    }

module _ {m : Model} {ls : List Line} {X Y : ℕ → Type 0} where
  pub says_grown : {j e : ℕ} (more : List Line) → Says m ls j X Y e → Says m (ls ++ more) j X Y e
  says_grown more s =
      record {
        named = named_grown more s.named;
        holds = λ x h. rw (set_grown more s.named m) (s.holds x h);
        fails = λ y h. rw (set_grown more s.named m) (s.fails y h);
      }

  pub says_at : {j e : ℕ} (k : ℕ) → Says m ls j X Y e → j ≡ k → Says m ls k X Y e
  says_at {j} {e} k s h = subst (λ n. Says m ls n X Y e) h s

  pub says_deeper : {j d : ℕ} (e : ℕ) → Says m ls j X Y d → d ≤ e → Says m ls j X Y e
  says_deeper e s h =
      let n = s.named in
      record {
        named = record { low = n.low; high = n.high; shallow = omega (arith, n.shallow) };
        holds = s.holds;
        fails = s.fails;
      }
