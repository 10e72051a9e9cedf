-- The laws of a model whose measures are the largest there are. Assumes nothing.
use Rattle.std.proofs.Common.{◌≡◌, ℕ, zero, suc, ◌<◌, ◌≤◌, true, ◌⊎◌, List, [], ◌∷◌, map, length, replicate, refl, inl, inr, arith}
use Rattle.std.specs.List.{AllByRecursion as All}
use Rattle.std.proofs.ByRecursion.{All-weaker}
use Rattle.std.proofs.lemmas.List.{length-replicate}
use Rattle.model.specs.Lists.{greatest}
use Rattle.model.specs.Model.{Step, lawful, total}
use Rattle.model.proofs.Greatest.{greatest_bounds, greatest_least}
use Rattle.model.proofs.Laws.{LawfulRow, LawfulStep, lawful_from_parts, lawful_parts, row_among_more}
use Rattle.table.specs.Arrays.{measured}

-- a row that is lawful in a model of n states under the largest measures there may be
abbrev pub SoundRow : ℕ → List Step → Type 0
SoundRow n = LawfulRow n 300 1000000000

abbrev pub row_total : List Step → ℕ
row_total row = greatest (map total row)

with_bound : (n y z : ℕ) (a : Step) → total a ≤ z → LawfulStep n y a → LawfulStep n z a
with_bound n y z a l h = record { known = h.known; some = h.some; rises = h.rises; sound = h.sound; light = l }

pub sound_from_lawful : (ss : List (List Step)) → lawful (measured ss) ≡ true → All (SoundRow (length ss)) ss
sound_from_lawful ss h =
    let law = lawful_parts (measured ss) h in
    All-weaker _ (SoundRow (length ss))
    (λ row r. row_among_more (length ss) (length ss) (measured ss).p 300 (measured ss).z 1000000000 row (omega arith) law.steps law.totals r)
    ss law.rows

all_with : {X : Type 0} (P Q R : X → Type 0) → ((x : X) → P x → Q x → R x) → (xs : List X) → All P xs → All Q xs → All R xs
all_with P Q R f [] h k = tt
all_with P Q R f (x ∷ xs) h k = (f x h.0 k.0, all_with P Q R f xs h.1 k.1)

void_or_not : (ss : List (List Step)) → (0 < length ss) ⊎ (((measured ss).p ≡ 0) × ((measured ss).z ≡ 0))
void_or_not [] = inr (refl, refl)
void_or_not (row ∷ ss) = inl (omega arith)

pub lawful_from_sound : (ss : List (List Step)) → length ss ≤ 64 → All (SoundRow (length ss)) ss → lawful (measured ss) ≡ true
lawful_from_sound ss few h =
    let z : ℕ = (measured ss).z in
    lawful_from_parts (measured ss) (record {
      few = few;
      steps = greatest_least length 300 ss (All-weaker _ _ (λ row r. r.0) ss h);
      totals = greatest_least row_total 1000000000 ss
          (All-weaker _ _ (λ row r. greatest_least total 1000000000 row (All-weaker _ _ (λ a k. k.light) row r.1)) ss h);
      void = void_or_not ss;
      rows = all_with (SoundRow (length ss)) (λ row. (length row ≤ (measured ss).p) × (row_total row ≤ z)) _
          (λ row r b. (
            b.0,
            all_with (LawfulStep (length ss) 1000000000) (λ a. total a ≤ row_total row) _
                (λ a k l. with_bound _ _ _ a (omega (arith, l, b.1)) k) row r.1 (greatest_bounds total row),
          ))
          ss h (all_with _ _ _ (λ row b c. (b, c)) ss (greatest_bounds length ss) (greatest_bounds row_total ss));
    })

-- the same as many times, and states without steps
pub all_repeated : {X : Type 0} (P : X → Type 0) (n : ℕ) (x : X) → P x → All P (replicate n x)
all_repeated P zero x h = tt
all_repeated P (suc n) x h = (h, all_repeated P n x h)

pub lawful_empty : (n : ℕ) → n ≤ 64 → lawful (measured (replicate n [])) ≡ true
lawful_empty n h =
    lawful_from_sound (replicate n []) (simp length-replicate h) (all_repeated (SoundRow (length (replicate n []))) n [] (omega arith, tt))

pub greatest_empty : (f : List Step → ℕ) → f [] ≡ 0 → (n : ℕ) → greatest (map f (replicate n [])) ≡ 0
greatest_empty f e zero = refl
greatest_empty f e (suc n) = omega (arith, e, greatest_empty f e n)
