-- The first step that matches, and the first that none matches. Assumes nothing.
use Rattle.std.specs.Prelude.{ℕ, Bool, length, if◌then◌else◌, Option, None, Some, nat_lt}
use Rattle.std.specs.List.{list_any, position_or_len}
use Rattle.model.specs.Model.{Model, Step, step_at, steps_of}
use Rattle.theory.specs.Matching.{Relation, matches}
use Rattle.theory.specs.Telling.{unmatched}

-- whether b is matched by some step of s
abbrev pub is_led : Model → Relation → ℕ → Step → Bool
is_led m R s b = list_any (λ a. matches R a b) (steps_of m s)

-- whether a matches some step of t
abbrev pub is_followed : Model → Relation → ℕ → Step → Bool
is_followed m R t a = list_any (λ b. matches R a b) (steps_of m t)

-- a place in a list that has as many, if it is one
abbrev pub place_below : ℕ → ℕ → Option ℕ
place_below n i = if nat_lt i n then Some i else None

-- the first step of t that step i of s matches
abbrev pub first_match : Model → Relation → ℕ → ℕ → ℕ → Option ℕ
first_match m R s i t = place_below (length (steps_of m t)) (position_or_len (λ b. matches R (step_at m s i) b) (steps_of m t))

-- the first step of s that matches no step of t
abbrev pub first_unmatched : Model → Relation → ℕ → ℕ → Option ℕ
first_unmatched m R s t = place_below (length (steps_of m s)) (unmatched m R s t)
