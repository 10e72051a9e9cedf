-- The models that ladders and unions stand for. Assumes nothing.
use Rattle.std.specs.Prelude.{ℕ, ◌+◌, ◌-◌, max, Bool, if◌then◌else◌, Option, None, Some, ◌&&◌, ◌||◌, [], ◌∷◌, ◌++◌, map, ◌==◌, nat_le, nat_lt}
use Rattle.std.specs.List.{range_with_len}
use Rattle.model.specs.Model.{Model, Step, count, void}
use Rattle.model.specs.declared.Branch.{Branch}
use Rattle.sources.specs.declared.disjoint.Side.{Side}
use Rattle.sources.specs.declared.disjoint.Side.TheVariants.{Left, Right}
use Rattle.sources.specs.declared.ladder.Ladder.{Ladder}

-- The step of state i of a ladder: back to the start with weight ok, on with weight miss.
abbrev pub rung : ℕ → ℕ → ℕ → ℕ → Step
rung action ok miss i = record { action = action; branches = record { target = 0; weight = ok } ∷ record { target = i + 1; weight = miss } ∷ [] }

-- the numbers with which a ladder is not void
abbrev pub ladder_fits : ℕ → ℕ → ℕ → ℕ → Bool
ladder_fits n action ok miss = nat_le 1 n && nat_le n 64 && nat_lt action 32 && nat_le 1 ok && nat_le 1 miss && nat_le (ok + miss) 30000

-- n states, of which each but the last has one step
abbrev pub ladder : ℕ → ℕ → ℕ → ℕ → Model
ladder n action ok miss =
    if ladder_fits n action ok miss then record {
      states = map (λ i. rung action ok miss i ∷ []) (range_with_len 0 (n - 1)) ++ [] ∷ [];
      p = if n == 1 then 0 else 1;
      z = if n == 1 then 0 else ok + miss;
    } else void

abbrev pub ladder_of : Ladder → Model
ladder_of l = ladder l.states l.action l.ok l.miss

-- whether a ladder is not void
abbrev pub fits : Ladder → Bool
fits l = ladder_fits l.states l.action l.ok l.miss

-- whether state s of a ladder has step i: a state but the last has step 0 alone
abbrev pub has : Ladder → ℕ → ℕ → Bool
has l s i = fits l && nat_lt (s + 1) l.states && i == 0

-- a step of which each target is k further on
abbrev pub moved_branch : ℕ → Branch → Branch
moved_branch k b = record { target = k + b.target; weight = b.weight }

abbrev pub moved : ℕ → Step → Step
moved k a = record { action = a.action; branches = map (moved_branch k) a.branches }

-- whether two parts of n1 and n2 states have no union
abbrev pub counts_void : ℕ → ℕ → Bool
counts_void n1 n2 = n1 == 0 || n2 == 0 || nat_lt 64 (n1 + n2)

-- whether two models have no union
abbrev pub union_void : Model → Model → Bool
union_void a b = counts_void (count a) (count b)

-- The states of a and then those of b, each with its own steps; each measure is the larger one.
abbrev pub union : Model → Model → Model
union a b =
    if union_void a b then void else record {
      states = a.states ++ map (map (moved (count a))) b.states;
      p = max a.p b.p;
      z = max a.z b.z;
    }

-- on which side a state of the union of a and b lies, by its number there, if the union has that state
abbrev pub side_of : Model → Model → ℕ → Option Side
side_of a b s =
    if union_void a b then None
    else if nat_lt s (count a) then Some (Left s)
    else if nat_lt s (count a + count b) then Some (Right (s - count a)) else None
