-- A table holds what it was made from, and its default outside the model's states. Assumes nothing.
use Rattle.std.proofs.Common.{◌≡◌, ℕ, ◌<◌, true, false, ◌⊎◌, List, [], map, get_or, ap, ◌∙◌, arith}
use Rattle.std.proofs.lemmas.List.FromFn.{get_or-map-range_with_len, length-map-range_with_len}
use Rattle.std.proofs.lemmas.List.{get_or_past}
use Rattle.std.proofs.lemmas.Bool.{cases_lt}
use Rattle.model.specs.Model.{Model, count}
use Rattle.theory.specs.Matching.{Relation}
use Rattle.theory.specs.Stages.{states, tabled}

module _ {X : Type 0} (m : Model) (d : X) (f : ℕ → ℕ → X) (s t : ℕ) where
  abbrev the_rows : List (List X)
  the_rows = map (λ u. map (f u) (states m)) (states m)

  row_in : s < count m → get_or the_rows s [] ≡ map (f s) (states m)
  row_in ls = get_or-map-range_with_len (λ u. map (f u) (states m)) 0 (count m) s s [] ls (omega arith)

  pub tabled_in : s < count m → t < count m → tabled m d f s t ≡ f s t
  tabled_in ls lt = ap (λ row. get_or row t d) (row_in ls) ∙ get_or-map-range_with_len (f s) 0 (count m) t t d lt (omega arith)

  pub tabled_cases : ((s < count m) × (t < count m)) ⊎ (tabled m d f s t ≡ d)
  tabled_cases = grind (arith, cases_lt s (count m), cases_lt t (count m), row_in, get_or_past, length-map-range_with_len)

pub tabled_true : (m : Model) (f : Relation) (s t : ℕ)
    → tabled m false f s t ≡ true → (s < count m) × (t < count m) × (f s t ≡ true)
tabled_true m f s t h = grind (arith, tabled_cases m false f s t, tabled_in m false f s t)
