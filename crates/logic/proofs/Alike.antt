-- Sets that agree on the states of a model give lines that agree on them. Assumes nothing.
use Rattle.std.proofs.Common.{◌≡◌, ℕ, ◌<◌, true, List, []}
use Rattle.std.specs.List.{AllByRecursion as All}
use Rattle.std.proofs.ByRecursion.{All-weaker}
use Rattle.model.specs.Model.{Model, Step, count, lawful, steps_of}
use Rattle.model.proofs.Laws.{LawfulStep, lawful_parts}
use Rattle.model.proofs.Tests.{all_at}
use Rattle.theory.specs.Sentences.{Line, StateSet, line_holds, names, set_of}
use Rattle.theory.proofs.Meanings.{line_holds_same}
use Rattle.theory.proofs.Tests.{all_always}

abbrev Inside : ℕ → Step → Type 0
Inside n a = All (λ b. b.target < n) a.branches

steps_inside : (m : Model) → lawful m ≡ true → (s : ℕ) → All (Inside (count m)) (steps_of m s)
steps_inside m law s =
    let inside = λ (a : Step) (l : LawfulStep (count m) m.z a). All-weaker _ _ (λ b x. x.0) a.branches l.sound in
    let rows = All-weaker _ _ (λ row r. All-weaker _ (Inside (count m)) inside row r.1) m.states (lawful_parts m law).rows in
    all_at (All (Inside (count m))) m.states s [] rows tt

pub lines_alike : (m : Model) → lawful m ≡ true
    → (xs ys : List StateSet) → ((i s : ℕ) → s < count m → set_of xs i s ≡ set_of ys i s)
    → (l : Line) (s : ℕ) → s < count m → line_holds m xs l s ≡ line_holds m ys l s
lines_alike m law xs ys alike l s here =
    line_holds_same m (λ t. t < count m) xs ys l (all_always _ alike (names l)) s here (steps_inside m law s)
