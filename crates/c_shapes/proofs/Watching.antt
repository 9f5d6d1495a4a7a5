-- What is watched changes nothing of a run.
use Rattle.std.proofs.Common.{◌≡◌, ℕ, zero, suc, ◌+◌, ◌-◌, List, [], ◌∷◌, drop, refl, ap, ◌∙◌, Bool, true, false, cond, leb}
use Rattle.c_ops.specs.Runs.{Action, Steps, Puts, Takes, Stops, At, resting, after, first_of, goes_on, run_by}
use Rattle.c_shapes.specs.Watch.{Watch}
use Rattle.c_shapes.specs.Runs.{Seen, seen, seen_action, watched_action, unwatched, WatchingIsSilent}

unwatched-cond : {S : Type 0} (b : Bool) (one other : At (Seen S)) → unwatched (cond b one other) ≡ cond b (unwatched one) (unwatched other)
unwatched-cond true one other = refl
unwatched-cond false one other = refl

-- a step, if what follows is silent
silent_step : {S : Type 0} (watch : Watch) (budget : ℕ) (s : Seen S) (input : List ℕ) (one : ℕ → Seen S → List ℕ → At (Seen S)) (other : ℕ → S → List ℕ → At S)
    (action : Action S) → ((k : ℕ) (t : Seen S) (i : List ℕ) → unwatched (one k t i) ≡ other k t.state i)
    → unwatched (goes_on budget s input one (seen_action watch action)) ≡ goes_on budget s.state input other action
silent_step watch zero s input one other action same = refl
silent_step watch (suc budget) s input one other (Steps besides t) same =
    unwatched-cond (leb besides budget) (after (1 + besides) [] (one (budget - besides) (seen watch t) input)) (resting s input)
    ∙ ap (λ r. cond (leb besides budget) (after (1 + besides) [] r) (resting s.state input)) (same (budget - besides) (seen watch t) input)
silent_step watch (suc budget) s input one other (Puts byte t) same = ap (after 1 (byte ∷ [])) (same budget (seen watch t) input)
silent_step watch (suc budget) s input one other (Takes t) same = ap (after 1 []) (same budget (seen watch (t (first_of input))) (drop 1 input))
silent_step watch (suc budget) s input one other (Stops end) same = refl

silent : {S : Type 0} (act : S → Action S) (watches : S → Watch → Watch) (n budget : ℕ) (s : Seen S) (input : List ℕ)
    → unwatched (run_by n (watched_action act watches) budget s input) ≡ run_by n act budget s.state input
unfolding run_by
silent act watches zero budget s input = refl
silent act watches (suc n) budget s input =
    silent_step (watches s.state s.watch) budget s input (run_by n (watched_action act watches)) (run_by n act) (act s.state)
    (λ k t i. silent act watches n k t i)

pub watching_is_silent : {S : Type 0} → WatchingIsSilent S
watching_is_silent act watches cost start input = silent act watches cost cost start input
