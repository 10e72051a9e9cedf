-- What the search leaves tells whether the steps match. Assumes nothing.
use Rattle.std.proofs.Common.{◌≡◌, ℕ, ◌*◌, ◌<◌, Bool, true, false, ◌==◌, [], length, get_or, sym, ap, subst, ◌∙◌, arith}
use Rattle.std.specs.List.{list_all, sum}
use Rattle.std.proofs.lemmas.Bool.{eqb-false, eqb-true}
use Rattle.std.proofs.lemmas.List.Folds.{sum_by-zero}
use Rattle.theory.specs.Matching.{Holds, Relation, Weights, matches}
use Rattle.matching.specs.Answers.{IsCut}
use Rattle.matching.specs.Reach.{Closed, Stuck, column_marked, row_marked}
use Rattle.matching.specs.Steps.{meaning}
use Rattle.matching.specs.Tables.{allows, amount, cell}
use Rattle.matching.specs.declared.flow.Flow.{Flow}
use Rattle.matching.specs.declared.marks.Marks.{Marks}
use Rattle.matching.specs.declared.step.held.HeldStep.{HeldStep}
use Rattle.matching.specs.declared.task.shape.Task.{Task}
use Rattle.matching.proofs.Cuts.{Closing, cut_branches, cut_members, matches_all, matches_not}
use Rattle.matching.proofs.Duality.{Flowing, Left, Net, weighs}
use Rattle.matching.proofs.Sums.{Sum, sum_by_at}

-- the task of matching two steps
pub record Posed (R : Relation) (l r : HeldStep) (t : Task) : Type 0 where
  pub supply : (u : ℕ) → get_or t.supply u 0 ≡ get_or l.weights u 0 * r.total
  pub demand : (v : ℕ) → get_or t.demand v 0 ≡ get_or r.weights v 0 * l.total
  pub allowed : (u v : ℕ) → cell false t.allowed u v ≡ allows R t.supply t.demand u v

pub posed_again : (R : Relation) (l r : HeldStep) (t u : Task) → u ≡ t → Posed R l r t → Posed R l r u
posed_again R l r t u e h = subst (λ x. Posed R l r x) (sym e) h

-- the arrays have n places
pub record Sized (n : ℕ) (l r : HeldStep) (f : Flow) : Type 0 where
  pub left : length l.weights ≡ n
  pub right : length r.weights ≡ n
  pub high : length f.amounts ≡ n
  pub wide : (u : ℕ) → u < n → length (get_or f.amounts u []) ≡ n
  pub unsent : length f.unsent ≡ n

module _ (R : Relation) (n : ℕ) (l r : HeldStep) (f : Flow) (m : Marks) (posed : Posed R l r f.task) (sized : Sized n l r f)
    (stuck : Stuck f 1 m) where
  abbrev net : Net
  net =
      record {
        from_action = l.action;
        to_action = r.action;
        from = l.weights;
        to = r.weights;
        amounts = f.amounts;
        supply = f.task.supply;
        unsent = f.unsent;
        demand = f.task.demand;
        room = f.room;
      }

  flowing : Flowing R n net
  flowing =
      record {
        left = sized.left;
        right = sized.right;
        high = sized.high;
        wide = sized.wide;
        supply = λ u. posed.supply u ∙ ap (λ k. get_or l.weights u 0 * k) r.counted;
        demand = λ v. posed.demand v ∙ ap (λ k. get_or r.weights v 0 * k) l.counted;
        sends = f.sends;
        receives = f.receives;
        carries = λ u v pos. sym (posed.allowed u v) ∙ f.carries u v pos;
      }

  closing : Closing R net (row_marked m) (column_marked m)
  closing =
      record {
        shut = record {
          start = λ u pos. stuck.started u (omega arith);
          along = λ u v h ok. (stuck.reached.rows u h).along v (posed.allowed u v ∙ ok);
          back = λ u v h pos. (stuck.reached.columns v h).senders u (omega arith);
        };
        full = λ v h. omega (arith, (stuck.reached.columns v h).full);
        least = λ P Q sh u h.
            let closed : Closed f P Q = record { along = λ u v h ok. sh.along u v h (sym (posed.allowed u v) ∙ ok); back = sh.back } in
            (stuck.reached.inside P Q closed sh.start).rows u h;
      }

  abbrev rest : ℕ
  rest = Left R n net flowing

  rest_is : rest ≡ sum f.unsent
  rest_is = ap (λ k. Sum k (λ u. get_or f.unsent u 0)) (sym sized.unsent) ∙ sym (sum_by_at (λ x. x) 0 f.unsent)

  abbrev spent : Bool
  spent = list_all (λ u. u == 0) f.unsent

  nothing_left : spent ≡ true → rest ≡ 0
  nothing_left h = rest_is ∙ eqb-true (sum f.unsent) 0 (sum_by-zero (λ x. x) f.unsent ∙ h)

  something_left : spent ≡ false → 0 < rest
  something_left h =
      let some = eqb-false (sum f.unsent) 0 (sum_by-zero (λ x. x) f.unsent ∙ h) in omega (arith, rest_is)

  -- a match, with its weights
  pub matched : spent ≡ true → l.action ≡ r.action
      → (true ≡ matches R (meaning l) (meaning r)) × Weights (Holds R) (meaning l) (meaning r) (amount f.amounts)
  matched h same = (
    sym (matches_all R n net flowing (row_marked m) (column_marked m) closing (nothing_left h) same),
    weighs R n net flowing (nothing_left h),
  )

  -- no match, with the cut
  pub parted : spent ≡ false → l.action ≡ r.action
      → (false ≡ matches R (meaning l) (meaning r)) × IsCut R (meaning l) (meaning r) m.rows
  parted h same = (
    sym (matches_not R n net flowing (row_marked m) (column_marked m) closing (something_left h)),
    record {
      action = same;
      members = cut_members R n net flowing (row_marked m) (column_marked m) closing (something_left h);
      branches = cut_branches R n net flowing (row_marked m) (column_marked m) closing (something_left h);
    },
  )
