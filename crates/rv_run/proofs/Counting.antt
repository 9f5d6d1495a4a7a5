-- Each instruction that goes on counts once.
use Rattle.std.proofs.Common.{◌≡◌, ℕ, ◌+◌, ◌≤◌, List, [], length, Option, None, Some, refl, ap, subst, ◌∙◌, arith}
use Rattle.std.proofs.lemmas.List.{length-take}
use Rattle.guest_mem.specs.Filling.{TakesUpTo}
use Rattle.rv_run.specs.Machine.{State, Action, Goes, Takes, Exits, Stops, Traps, action_of}
use Rattle.rv_run.specs.ImageRun.{Streams, GoesOn}
use Rattle.rv_run.proofs.Moving.{Moved, Moves, action_moves}

pub moves_goes : (s t : State) (bytes : List ℕ) → action_of s ≡ Goes bytes t → Moved [] s t
moves_goes s t bytes is = subst (Moves s) is (action_moves s)

pub moves_takes : (s : State) (n : ℕ) (f : List ℕ → State) → action_of s ≡ Takes n f → (taken : List ℕ) → length taken ≤ n → Moved taken s (f taken)
moves_takes s n f is = subst (Moves s) is (action_moves s)

-- what is taken is no more than was asked for
pub taken_few : (n : ℕ) (old new : Option (List ℕ)) (bytes : List ℕ) → TakesUpTo n old new bytes → length bytes ≤ n
taken_few n None new bytes took = took
taken_few n (Some left) new bytes took = omega (arith, ap length took.0, length-take n left)

moved_on : (s t : State) (before after : Streams) (action : Action) → action_of s ≡ action → GoesOn action t before after → t.count ≡ s.count + 1
moved_on s t before after (Goes bytes u) is went = ap (λ (x : State). x.count) went.0 ∙ (moves_goes s u bytes is).count
moved_on s t before after (Takes n f) is went =
    ap (λ (x : State). x.count) went.1 ∙ (moves_takes s n f is went.0 (taken_few n before.left after.left went.0 went.2)).count
moved_on s t before after (Exits status) is went = absurd went
moved_on s t before after (Stops kind block offset width) is went = absurd went
moved_on s t before after (Traps kind) is went = absurd went

pub one_more : (s t : State) (before after : Streams) → GoesOn (action_of s) t before after → t.count ≡ s.count + 1
one_more s t before after went = moved_on s t before after (action_of s) refl went
