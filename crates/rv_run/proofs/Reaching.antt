-- What a run reaches, however its source answers.
use Rattle.std.proofs.Common.{◌≡◌, ℕ, ◌+◌, ◌<◌, ◌≤◌, inl, inr, List, [], ◌++◌, refl, ap, subst, ◌∙◌, arith}
use Rattle.std.proofs.lemmas.List.{append-nil}
use Rattle.fsc_outside.specs.Streams.{Appends}
use Rattle.fsc_outside.proofs.Appending.{appends_then, appends_nothing}
use Rattle.rv_run.specs.declared.stop.Step.TheVariants as step
use Rattle.rv_run.specs.declared.stop.Stop.{Stop}
use Rattle.rv_run.specs.declared.stop.Stop.TheVariants as stop
use Rattle.rv_run.specs.Machine.{State, Action, Goes, Takes, Exits, Stops, Traps, action_of}
use Rattle.rv_run.specs.ImageRun.{Streams, GoesOn, Performs, PassesTo, written_by, IsReached, here, onward, EndsWhereReached}
use Rattle.rv_run.proofs.Counting.{taken_few}

-- the states so far
pub record HasReached (start s : State) (before now : Streams) : Type 0 where
  pub written : List ℕ
  pub reached : IsReached start s written
  pub wrote : Appends before.written now.written written

pub reached_first : (start : State) (before : Streams) → HasReached start start before before
reached_first start before = record { written = []; reached = here; wrote = appends_nothing before.written }

passes_on : (s t : State) (now after : Streams) (action : Action) → GoesOn action t now after
    → ((taken : List ℕ) × PassesTo action taken t) × Appends now.written after.written (written_by action)
passes_on s t now after (Goes bytes u) went = (([], (refl, went.0)), went.2)
passes_on s t now after (Takes n f) went =
    ((went.0, (taken_few n now.left after.left went.0 went.2, went.4, went.1)), rw went.3 (appends_nothing now.written))
passes_on s t now after (Exits status) went = absurd went
passes_on s t now after (Stops kind block offset width) went = absurd went
passes_on s t now after (Traps kind) went = absurd went

pub reached_next : (start s t : State) (before now after : Streams) → HasReached start s before now → GoesOn (action_of s) t now after → HasReached start t before after
reached_next start s t before now after so_far went =
    let passes = passes_on s t now after (action_of s) went in
    record {
      written = so_far.written ++ written_by (action_of s);
      reached = onward s t so_far.written passes.0.0 so_far.reached passes.0.1;
      wrote = appends_then before.written now.written after.written so_far.written (written_by (action_of s)) so_far.wrote passes.1;
    }

pub reached_end : (n : ℕ) (start s new : State) (before now after : Streams) (ended : Stop) → s.count < start.count + n
    → HasReached start s before now → Performs (action_of s) (step.Ended ended) s new now after → EndsWhereReached n start new ended before after
reached_end n start s new before now after ended below so_far then = record {
  last = s;
  written = so_far.written;
  reached = so_far.reached;
  now = now;
  wrote = so_far.wrote;
  ends = inr (then, below);
}

pub reached_all : (n : ℕ) (start s : State) (before now : Streams) → s.count ≡ start.count + n → HasReached start s before now → EndsWhereReached n start s stop.Steps before now
reached_all n start s before now all so_far = record {
  last = s;
  written = so_far.written;
  reached = so_far.reached;
  now = now;
  wrote = so_far.wrote;
  ends = inl (refl, refl, refl, all);
}
