-- A well-formed sentence that fits a file is written in bytes, and they read back as the same sentence. Assumes nothing.
use Rattle.std.proofs.Common.{◌≡◌, ℕ, ◌+◌, ◌<◌, ◌≤◌, Bool, true, ◌&&◌, ltb, leb, List, [], ◌∷◌, ◌++◌, map, length, Ok, sym, ap, ◌∙◌, arith}
use Rattle.std.specs.List.{flat_map, list_all}
use Rattle.std.proofs.lemmas.List.{append_assoc, append-nil, length_push}
use Rattle.std.proofs.lemmas.Bool.{and_parts, false≢true, leb-true, ltb-true}
use Rattle.fields.specs.Fields.{in_turn, starts}
use Rattle.theory.specs.Sentences.{all_of, any_of, Line, not_of, step_to, fits_after, in_range, names, one_of_first, sound_share, well_formed_from}
use Rattle.theory.specs.declared.Part.{Part}
use Rattle.logic.specs.File.{line_field}
use Rattle.logic.specs.Writing.{RoundTrips, four, line_bytes, part_bytes, sentence_bytes, tag_of, two, value_of}
use Rattle.logic.proofs.Numbers.{Bytes, bytes_append, bytes_four, bytes_two}
use Rattle.logic.proofs.Turns.{line_at_written, starts_written, turn_line}

-- the number of one of a few lines
bytes_name : (i j : ℕ) → i ≤ 4095 → one_of_first i j ≡ true → Bytes (two j)
bytes_name i j few h = bytes_two j (omega (arith, leb-true j i (and_parts (ltb 0 j) (leb j i) h).1))

bytes_names : (i : ℕ) (js : List ℕ) → i ≤ 4095 → list_all (one_of_first i) js ≡ true → Bytes (flat_map two js)
bytes_names i [] few h = tt
bytes_names i (j ∷ js) few h =
    let r = and_parts (one_of_first i j) (list_all (one_of_first i) js) h in
    bytes_append (two j) (flat_map two js) (bytes_name i j few r.0) (bytes_names i js few r.1)

bytes_share : (q : Part) → sound_share q ≡ true → Bytes (four q.k ++ four q.m)
bytes_share q h =
    let r = and_parts (ltb 0 q.m && leb q.m 1000000000) (leb q.k q.m) h in
    let m = leb-true q.m 1000000000 (and_parts (ltb 0 q.m) (leb q.m 1000000000) r.0).1 in
    let k = leb-true q.k q.m r.1 in
    bytes_append (four q.k) (four q.m) (bytes_four q.k (omega arith)) (bytes_four q.m (omega arith))

bytes_parts : (i : ℕ) (qs : List Part) → i ≤ 4095 → list_all (one_of_first i) (map (λ q. q.line) qs) ≡ true → list_all sound_share qs ≡ true
    → Bytes (flat_map part_bytes qs)
bytes_parts i [] few h s = tt
bytes_parts i (q ∷ qs) few h s =
    let r = and_parts (one_of_first i q.line) (list_all (one_of_first i) (map (λ q. q.line) qs)) h in
    let t = and_parts (sound_share q) (list_all sound_share qs) s in
    let front = bytes_append (two q.line) (four q.k ++ four q.m) (bytes_name i q.line few r.0) (bytes_share q t.0) in
    bytes_append (part_bytes q) (flat_map part_bytes qs) front (bytes_parts i qs few r.1 t.1)

bytes_value : (i : ℕ) (l : Line) → i ≤ 4095 → list_all (one_of_first i) (names l) ≡ true → in_range l ≡ true → Bytes (value_of l)
bytes_value i (not_of j) few h s = bytes_names i (j ∷ []) few h
bytes_value i (all_of js) few h s = bytes_names i js few h
bytes_value i (any_of js) few h s = bytes_names i js few h
bytes_value i (step_to act qs) few h s =
    let r = and_parts (ltb act 32) (list_all sound_share qs) s in
    (omega (arith, ltb-true act 32 r.0), bytes_parts i qs few h r.1)

tag_is_byte : (l : Line) → tag_of l < 256
tag_is_byte (not_of i) = omega arith
tag_is_byte (all_of is) = omega arith
tag_is_byte (any_of is) = omega arith
tag_is_byte (step_to act qs) = omega arith

bytes_line : (i : ℕ) (l : Line) → i ≤ 4095 → fits_after i l ≡ true → length (value_of l) < 65536 → Bytes (line_bytes l)
bytes_line i l few h short =
    let r = and_parts (list_all (one_of_first i) (names l)) (in_range l) h in
    let n : ℕ = length (value_of l) in
    (tag_is_byte l, bytes_append (two n) (value_of l) (bytes_two n short) (bytes_value i l few r.0 r.1))

-- the length of the line goes into two bytes
abbrev short_line : Line → Bool
short_line l = ltb (length (value_of l)) 65536

bytes_lines : (i : ℕ) (ls : List Line) → i + length ls ≤ 4095 → well_formed_from i ls ≡ true → list_all short_line ls ≡ true
    → Bytes (sentence_bytes ls)
bytes_lines i [] few h short = tt
bytes_lines i (l ∷ ls) few h short =
    let r = and_parts (fits_after i l) (well_formed_from (i + 1) ls) h in
    let s = and_parts (short_line l) (list_all short_line ls) short in
    bytes_append (line_bytes l) (sentence_bytes ls)
    (bytes_line i l (omega arith) r.0 (ltb-true (length (value_of l)) 65536 s.0)) (bytes_lines (i + 1) ls (omega arith) r.1 s.1)

-- lines that are written behind others are read behind them
lines_read : (done ls : List Line) (place : ℕ) → length done + length ls ≤ 4095 → well_formed_from (length done) ls ≡ true
    → in_turn line_field done (starts 0 place (sentence_bytes ls)) ≡ Ok (done ++ ls)
lines_read done [] place few h = ap Ok (sym (append-nil done))
lines_read done (l ∷ ls) place few h =
    let r = and_parts (fits_after (length done) l) (well_formed_from (length done + 1) ls) h in
    let size = length_push done l in
    let more : List ℕ = sentence_bytes ls in
    let here = line_at_written place l more (length done) r.0 (omega arith) in
    let rest = lines_read (done ++ l ∷ []) ls (place + (3 + length (value_of l))) (omega arith) (rw size r.1) in
    turn_line done place _ l _ (starts_written place l more) here ∙ rest ∙ ap Ok (append_assoc done (l ∷ []) ls)

pub round_trip : RoundTrips
round_trip [] h fits = absurd (false≢true h)
round_trip (l ∷ ls) h fits =
    let r = and_parts (ltb 0 (length (l ∷ ls))) (well_formed_from 0 (l ∷ ls)) h in
    let s = and_parts (leb (length (l ∷ ls)) 4095) (list_all short_line (l ∷ ls)) fits in
    let few = leb-true (length (l ∷ ls)) 4095 s.0 in
    record {
      bytes = bytes_lines 0 (l ∷ ls) (omega arith) r.1 s.1;
      same = lines_read [] (l ∷ ls) 0 (omega arith) r.1;
    }
