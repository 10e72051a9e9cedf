-- What a union answers, by the side on which a state lies. Assumes nothing.
use Rattle.std.proofs.Common.{◌≡◌, ℕ, ◌+◌, ◌-◌, ltb, cond, List, [], map, get_or, Option, None, Some, sym, refl, ap, ◌∙◌, inl, inr, arith}
use Rattle.std.proofs.lemmas.List.{get_or_append_left, get_or-append_right, get_or_past}
use Rattle.std.proofs.Math.ListN.{get_or-map}
use Rattle.std.proofs.lemmas.Bool.{cases_Bool, cases_lt, cond_above, cond_below}
use Rattle.model.specs.Model.{Model, Step, count, no_step, step_at, steps_of}
use Rattle.sources.specs.declared.disjoint.Side.{Side}
use Rattle.sources.specs.declared.disjoint.Side.TheVariants.{Left, Right}
use Rattle.sources.specs.Kinds.{moved, side_of, union, union_void}
use Rattle.sources.specs.Unions.{length_rows, rows}

module _ (a b : Model) where
  abbrev na : ℕ
  na = count a

  abbrev nb : ℕ
  nb = count b

  -- the steps of a state on a side
  abbrev steps_on : Option Side → List Step
  steps_on None = []
  steps_on (Some (Left s)) = steps_of a s
  steps_on (Some (Right t)) = map (moved na) (steps_of b t)

  row_at : (s : ℕ) → get_or (rows a b) s [] ≡ steps_on (cond (ltb s na) (Some (Left s)) (cond (ltb s (na + nb)) (Some (Right (s - na))) None))
  row_at s =
      elim (cases_lt s na) [
        | inl l ↦ get_or_append_left a.states _ [] s l ∙ ap steps_on (cond_below s na (Some (Left s)) _ l)
        | inr past ↦ elim (cases_lt s (na + nb)) [
          | inl l ↦
              get_or-append_right a.states _ na s [] refl past ∙ get_or-map (map (moved na)) b.states (s - na) []
              ∙ ap steps_on (cond_above s na _ _ _ past (cond_below s (na + nb) (Some (Right (s - na))) None l))
          | inr l ↦
              get_or_past (rows a b) s [] (omega (arith, length_rows a b))
              ∙ ap steps_on (cond_above s na _ _ _ past (cond_above s (na + nb) _ _ _ l refl))
        ]
      ]

  row_of_union : (s : ℕ) → steps_of (union a b) s ≡ steps_on (side_of a b s)
  row_of_union s =
      elim (cases_Bool (union_void a b)) [
        | inl v ↦ rw v
        | inr v ↦ rw v (row_at s)
      ]

  -- An answer that each side gives is the union's: of the left part's row as `ask` reads it, of the right part's as `read`
  -- does, which says what `ask` reads once the row is moved.
  module _ (s r : ℕ) where
    pub answer_by_side : (ask read : List Step → ℕ) → ((row : List Step) → ask (map (moved na) row) ≡ read row)
        → (side_of a b s ≡ None → r ≡ ask [])
        → ((t : ℕ) → side_of a b s ≡ Some (Left t) → r ≡ ask (steps_of a t))
        → ((t : ℕ) → side_of a b s ≡ Some (Right t) → r ≡ read (steps_of b t))
        → r ≡ ask (steps_of (union a b) s)
    answer_by_side ask read same none left right = of_side (side_of a b s) refl ∙ ap ask (sym (row_of_union s))
      where
        of_side : (x : Option Side) → side_of a b s ≡ x → r ≡ ask (steps_on x)
        of_side None e = none e
        of_side (Some (Left t)) e = left t e
        of_side (Some (Right t)) e = right t e ∙ sym (same (steps_of b t))

    -- the same of a question about a step
    pub step_by_side : (i : ℕ) (ask read : Step → ℕ) → ((y : Step) → ask (moved na y) ≡ read y)
        → (side_of a b s ≡ None → r ≡ ask no_step)
        → ((t : ℕ) → side_of a b s ≡ Some (Left t) → r ≡ ask (step_at a t i))
        → ((t : ℕ) → side_of a b s ≡ Some (Right t) → r ≡ read (step_at b t i))
        → r ≡ ask (step_at (union a b) s i)
    step_by_side i ask read same =
        answer_by_side (λ row. ask (get_or row i no_step)) (λ row. read (get_or row i no_step))
        (λ row. ap ask (get_or-map (moved na) row i no_step) ∙ same (get_or row i no_step))
