-- Runs with what is watched beside their states.
use Rattle.std.specs.Prelude.{◌≡◌, ℕ, List, Option, Some, None}
use Rattle.fsc_base.specs.declared.end.End.{End}
use Rattle.c_ops.specs.Runs.{Action, Steps, Puts, Takes, Stops, At, run_of}
use Rattle.c_shapes.specs.Watch.{Watch}

-- a state, with what was watched up to it
pub record Seen (S : Type 0) : Type 0 where
  pub state : S
  pub watch : Watch

abbrev pub seen : {S : Type 0} → Watch → S → Seen S
seen watch s = record { state = s; watch = watch }

abbrev pub seen_action : {S : Type 0} → Watch → Action S → Action (Seen S)
seen_action watch (Steps besides s) = Steps besides (seen watch s)
seen_action watch (Puts byte s) = Puts byte (seen watch s)
seen_action watch (Takes s) = Takes (λ (byte : Option ℕ). seen watch (s byte))
seen_action watch (Stops end) = Stops end

-- a step, and what it leaves of the watch, which is read off the state before it
abbrev pub watched_action : {S : Type 0} → (act : S → Action S) → (watches : S → Watch → Watch) → Seen S → Action (Seen S)
watched_action act watches s = seen_action (watches s.state s.watch) (act s.state)

-- what was watched when a run has come so far; the step that ends it is watched too
abbrev pub watch_at_end : {S : Type 0} → (watches : S → Watch → Watch) → Option End → Seen S → Watch
watch_at_end watches None s = s.watch
watch_at_end watches (Some end) s = watches s.state s.watch

abbrev pub watch_of : {S : Type 0} → (watches : S → Watch → Watch) → At (Seen S) → Watch
watch_of watches run = watch_at_end watches run.end run.state

-- the run from a state on, as far as it comes at a cost
abbrev pub watched_run : {S : Type 0} → (act : S → Action S) → (watches : S → Watch → Watch) → (cost : ℕ) → Seen S → (input : List ℕ) → At (Seen S)
watched_run act watches cost start input = run_of (watched_action act watches) cost start input

-- the same without what was watched
abbrev pub unwatched : {S : Type 0} → At (Seen S) → At S
unwatched run = record { state = run.state.state; cost = run.cost; written = run.written; left = run.left; end = run.end }

-- watching changes nothing of a run
abbrev pub WatchingIsSilent : (S : Type 0) → Type 0
WatchingIsSilent S = (act : S → Action S) (watches : S → Watch → Watch) (cost : ℕ) (start : Seen S) (input : List ℕ)
    → unwatched (watched_run act watches cost start input) ≡ run_of act cost start.state input
