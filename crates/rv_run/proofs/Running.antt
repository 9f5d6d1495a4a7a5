-- A run that goes on by one instruction, ends with it, or is done.
use Rattle.std.proofs.Common.{◌≡◌, ◌≢◌, ℕ, zero, suc, ◌+◌, ◌-◌, ◌<◌, ◌≤◌, List, [], ◌++◌, take, drop, Option, Some, None, ◌⊎◌, inl, inr, refl, sym, ap, subst, ◌∙◌, arith}
use Rattle.std.specs.Prelude.{IsSome}
use Rattle.std.proofs.lemmas.List.{append-nil, nil_from_length}
use Rattle.fsc_outside.specs.Streams.{Appends, AppendsFront}
use Rattle.fsc_outside.proofs.Appending.{appends_then, appends_nothing, appends_front_then, appends_front_longer, appends_front_whole}
use Rattle.rv_run.specs.declared.stop.Step.TheVariants as step
use Rattle.rv_run.specs.declared.stop.Stop.{Stop}
use Rattle.rv_run.specs.declared.stop.Stop.TheVariants as stop
use Rattle.guest_mem.specs.Filling.{TakesUpTo}
use Rattle.rv_run.specs.Machine.{State, Action, Goes, Takes, Exits, Stops, Traps, action_of, counted}
use Rattle.rv_run.specs.ImageRun.{ImageRun, Streams, writing_first, asking_first, ending, beginning, image_run, Leads, GoesOn, IsCutShort, IsStarved, IsReadCut, EndsBy, Performs, TakesNothing, IsKnown, given_of, LeavesInput, RunsWhole, Runs, EndsWithin}
use Rattle.rv_run.proofs.Composing.{leads-none, leads-goes, leads-takes, leads-then, leads-run_on}

-- What a run has done so far: these instructions led to this state; what they wrote was written, and what they left is left.
pub record SoFar (start : State) (given : List ℕ) (done : ℕ) (s : State) (before now : Streams) : Type 0 where
  pub front : List ℕ
  pub rest : List ℕ
  pub asked : ℕ
  pub leads : Leads done start given s rest front asked
  pub wrote : Appends before.written now.written front
  pub told : before.left ≡ Some given → now.left ≡ Some rest

pub begins : (start : State) (given : List ℕ) (before : Streams) → SoFar start given 0 start before before
begins start given before = record { front = []; rest = given; asked = 0; leads = leads-none start given; wrote = appends_nothing before.written; told = λ h. h }

-- a run of n instructions is these, and then the others
pub whole_from : (n m : ℕ) (start s : State) (given : List ℕ) (done : ℕ) (before now : Streams) → n ≡ done + m → (so_far : SoFar start given done s before now)
    → image_run n start given ≡ asking_first so_far.asked (writing_first so_far.front (image_run m s so_far.rest))
whole_from n m start s given done before now all so_far =
    ap (λ (k : ℕ). image_run k start given) all ∙ leads-run_on so_far.leads m

-- ---- one instruction more

-- what an instruction took is the front of what is left
takes_front : (k : ℕ) (old new : Option (List ℕ)) (bytes rest : List ℕ) → TakesUpTo k old new bytes → old ≡ Some rest → (bytes ≡ take k rest) × (new ≡ Some (drop k rest))
takes_front k None new bytes rest took is = absurd cc
takes_front k (Some left) new bytes rest took is = let same : left ≡ rest = cc in (took.0 ∙ ap (take k) same, took.1 ∙ ap (λ (l : List ℕ). Some (drop k l)) same)

takes_nothing : (old new : Option (List ℕ)) (bytes : List ℕ) → TakesUpTo 0 old new bytes → bytes ≡ []
takes_nothing None new bytes took = nil_from_length bytes (omega arith)
takes_nothing (Some left) new bytes took = took.0

-- where the source tells, or where the instruction asks for none
took_front : (k : ℕ) (old new : Option (List ℕ)) (bytes rest : List ℕ) → TakesUpTo k old new bytes → (old ≡ Some rest) ⊎ (k ≡ 0) → bytes ≡ take k rest
took_front k old new bytes rest took (inl told) = (takes_front k old new bytes rest took told).0
took_front k old new bytes rest took (inr none) =
    takes_nothing old new bytes (subst (λ (j : ℕ). TakesUpTo j old new bytes) none took) ∙ rw none refl

-- a run that asks for nothing goes by instructions that take nothing
asks_nothing : (n m : ℕ) (start s : State) (before now : Streams) (given : List ℕ) (done k : ℕ) (f : List ℕ → State) → action_of s ≡ Takes k f → n ≡ done + suc m
    → SoFar start given done s before now → (image_run n start given).asked ≡ 0 → k ≡ 0
unfolding image_run
asks_nothing n m start s before now given done k f is all so_far unasked =
    let rest = so_far.rest in
    let one : image_run (suc m) s rest ≡ asking_first k (image_run m (f (take k rest)) (drop k rest)) = rw is refl in
    let sum : (image_run n start given).asked ≡ so_far.asked + (k + (image_run m (f (take k rest)) (drop k rest)).asked) =
    ap (λ (r : ImageRun). r.asked) (whole_from n (suc m) start s given done before now all so_far ∙ ap (λ (r : ImageRun). asking_first so_far.asked (writing_first so_far.front r)) one) in
    omega arith

-- the source tells, or the run asks it for nothing
abbrev pub IsToldOrUnasked : (told : Option (List ℕ)) (given : List ℕ) (asked : ℕ) → Type 0
IsToldOrUnasked told given asked = (told ≡ Some given) ⊎ (asked ≡ 0)

pub told_or_unasked : (told : Option (List ℕ)) (given : List ℕ) (asked : ℕ) → IsKnown told given asked → IsToldOrUnasked told given asked
told_or_unasked None given asked known = inr known
told_or_unasked (Some left) given asked known = inl (ap (λ (l : List ℕ). Some l) known)

here_told : (n m : ℕ) (start s : State) (before now : Streams) (given : List ℕ) (done k : ℕ) (f : List ℕ → State) → action_of s ≡ Takes k f → n ≡ done + suc m
    → (so_far : SoFar start given done s before now) → IsToldOrUnasked before.left given (image_run n start given).asked → (now.left ≡ Some so_far.rest) ⊎ (k ≡ 0)
here_told n m start s before now given done k f is all so_far (inl told) = inl (so_far.told told)
here_told n m start s before now given done k f is all so_far (inr unasked) = inr (asks_nothing n m start s before now given done k f is all so_far unasked)

steps_on : (n m : ℕ) (start s t : State) (before now after : Streams) (given : List ℕ) (done : ℕ) (action : Action) → action_of s ≡ action → n ≡ done + suc m
    → IsToldOrUnasked before.left given (image_run n start given).asked → SoFar start given done s before now → GoesOn action t now after → SoFar start given (done + 1) t before after
steps_on n m start s t before now after given done (Goes bytes u) is all known so_far went = record {
  front = so_far.front ++ bytes;
  rest = so_far.rest;
  asked = so_far.asked + 0;
  leads = rw went.0 (leads-then so_far.leads (leads-goes s u bytes so_far.rest is));
  wrote = appends_then before.written now.written after.written so_far.front bytes so_far.wrote went.2;
  told = λ h. went.1 ∙ so_far.told h;
}
steps_on n m start s t before now after given done (Takes k f) is all known so_far went =
    let taken : went.0 ≡ take k so_far.rest = took_front k now.left after.left went.0 so_far.rest went.2 (here_told n m start s before now given done k f is all so_far known) in
    record {
      front = so_far.front ++ [];
      rest = drop k so_far.rest;
      asked = so_far.asked + k;
      leads = rw (went.1, taken) (leads-then so_far.leads (leads-takes s k f so_far.rest is));
      wrote = rw (append-nil, went.3) so_far.wrote;
      told = λ h. (takes_front k now.left after.left went.0 so_far.rest went.2 (so_far.told h)).1;
    }
steps_on n m start s t before now after given done (Exits status) is all known so_far went = absurd went
steps_on n m start s t before now after given done (Stops kind block offset width) is all known so_far went = absurd went
steps_on n m start s t before now after given done (Traps kind) is all known so_far went = absurd went

rest_of : (n i : ℕ) → i < n → n ≡ i + suc (n - (i + 1))
rest_of n i below = omega arith

pub goes_on : (n done : ℕ) (start s t : State) (before now after : Streams) (given : List ℕ) → done < n → IsToldOrUnasked before.left given (image_run n start given).asked
    → SoFar start given done s before now → GoesOn (action_of s) t now after → SoFar start given (done + 1) t before after
goes_on n done start s t before now after given below known so_far went =
    steps_on n (n - (done + 1)) start s t before now after given done (action_of s) refl (rest_of n done below) known so_far went

-- the next instruction takes nothing, if the run asks for nothing
nothing_taken : (n m : ℕ) (start s : State) (before now : Streams) (given : List ℕ) (done : ℕ) (action : Action) → action_of s ≡ action → n ≡ done + suc m
    → SoFar start given done s before now → (image_run n start given).asked ≡ 0 → TakesNothing action
nothing_taken n m start s before now given done (Takes k f) is all so_far unasked = asks_nothing n m start s before now given done k f is all so_far unasked
nothing_taken n m start s before now given done (Goes bytes t) is all so_far unasked = tt
nothing_taken n m start s before now given done (Exits status) is all so_far unasked = tt
nothing_taken n m start s before now given done (Stops kind block offset width) is all so_far unasked = tt
nothing_taken n m start s before now given done (Traps kind) is all so_far unasked = tt

pub takes_none : (n done : ℕ) (start s : State) (before now : Streams) (given : List ℕ) → done < n
    → SoFar start given done s before now → (image_run n start given).asked ≡ 0 → TakesNothing (action_of s)
takes_none n done start s before now given below so_far unasked =
    nothing_taken n (n - (done + 1)) start s before now given done (action_of s) refl (rest_of n done below) so_far unasked

-- ---- the end

-- what is left at the end
leaves : (told after : Option (List ℕ)) (given rest : List ℕ) (asked : ℕ) → IsKnown told given asked → (told ≡ Some given → after ≡ Some rest) → LeavesInput told after rest
leaves None after given rest asked known say = tt
leaves (Some left) after given rest asked known say = say (ap (λ (l : List ℕ). Some l) known)

-- all of them ran
pub all_ran : (n done : ℕ) (start s : State) (before now : Streams) (given : List ℕ) → n ≡ done
    → IsKnown before.left given (image_run n start given).asked → SoFar start given done s before now → RunsWhole (image_run n start given) stop.Steps s before now
all_ran n done start s before now given all known so_far =
    let left = leaves before.left now.left given so_far.rest (image_run n start given).asked known so_far.told in
    rw (all, so_far.leads.run) (refl, refl, so_far.wrote, left)

-- the next instruction ends the run
ended_whole : (n m : ℕ) (start s new : State) (before now after : Streams) (given : List ℕ) (done : ℕ) (ended : Stop) → n ≡ done + suc m
    → IsKnown before.left given (image_run n start given).asked → (so_far : SoFar start given done s before now)
    → beginning s (action_of s) so_far.rest (image_run m) ≡ ending s so_far.rest ended → new ≡ counted s → after ≡ now → RunsWhole (image_run n start given) ended new before after
unfolding image_run
ended_whole n m start s new before now after given done ended all known so_far is counts same =
    let left : LeavesInput before.left now.left so_far.rest = leaves before.left now.left given so_far.rest (image_run n start given).asked known so_far.told in
    let said : image_run n start given ≡ asking_first so_far.asked (writing_first so_far.front (ending s so_far.rest ended)) =
    whole_from n (suc m) start s given done before now all so_far ∙ ap (λ (r : ImageRun). asking_first so_far.asked (writing_first so_far.front r)) is in
    rw (said, counts, same) (refl, refl, rw append-nil so_far.wrote, left)

-- the sink refused what the next instruction writes
cut_short : (n m : ℕ) (start s : State) (before now after : Streams) (given : List ℕ) (done : ℕ) (action : Action) → action_of s ≡ action → n ≡ done + suc m
    → SoFar start given done s before now → IsCutShort action now after → AppendsFront before.written after.written (image_run n start given).written
unfolding image_run
cut_short n m start s before now after given done (Goes bytes t) is all so_far cut =
    let later = (image_run m t so_far.rest).written in
    let one : image_run (suc m) s so_far.rest ≡ writing_first bytes (image_run m t so_far.rest) = rw is refl in
    let said : (image_run n start given).written ≡ so_far.front ++ (bytes ++ later) =
    ap (λ (r : ImageRun). r.written) (whole_from n (suc m) start s given done before now all so_far ∙ ap (λ (r : ImageRun). asking_first so_far.asked (writing_first so_far.front r)) one) in
    rw said (appends_front_then before.written now.written after.written so_far.front (bytes ++ later) so_far.wrote (appends_front_longer now.written after.written bytes later cut.1))
cut_short n m start s before now after given done (Takes k f) is all so_far cut = absurd cut
cut_short n m start s before now after given done (Exits status) is all so_far cut = absurd cut
cut_short n m start s before now after given done (Stops kind block offset width) is all so_far cut = absurd cut
cut_short n m start s before now after given done (Traps kind) is all so_far cut = absurd cut

-- memory was refused to the next instruction
starved : (n m : ℕ) (start s : State) (before now after : Streams) (given : List ℕ) (done : ℕ) (action : Action) → action_of s ≡ action → n ≡ done + suc m
    → SoFar start given done s before now → IsStarved action now after → AppendsFront before.written after.written (image_run n start given).written
starved n m start s before now after given done (Goes bytes t) is all so_far cut = cut_short n m start s before now after given done (Goes bytes t) is all so_far cut
starved n m start s before now after given done (Takes k f) is all so_far cut =
    let later = (image_run (suc m) s so_far.rest).written in
    let said : (image_run n start given).written ≡ so_far.front ++ later = ap (λ (r : ImageRun). r.written) (whole_from n (suc m) start s given done before now all so_far) in
    rw (said, cut) (appends_front_longer before.written now.written so_far.front later (appends_front_whole before.written now.written so_far.front so_far.wrote))
starved n m start s before now after given done (Exits status) is all so_far cut = absurd cut
starved n m start s before now after given done (Stops kind block offset width) is all so_far cut = absurd cut
starved n m start s before now after given done (Traps kind) is all so_far cut = absurd cut

-- the source failed while the next instruction took from it
read_cut : (n m : ℕ) (start s new : State) (before now after : Streams) (given : List ℕ) (done : ℕ) (action : Action) → n ≡ done + suc m
    → SoFar start given done s before now → IsReadCut action s new now after → AppendsFront before.written after.written (image_run n start given).written
read_cut n m start s new before now after given done (Takes k f) all so_far cut =
    let later = (image_run (suc m) s so_far.rest).written in
    let said : (image_run n start given).written ≡ so_far.front ++ later = ap (λ (r : ImageRun). r.written) (whole_from n (suc m) start s given done before now all so_far) in
    rw (said, cut.4) (appends_front_longer before.written now.written so_far.front later (appends_front_whole before.written now.written so_far.front so_far.wrote))
read_cut n m start s new before now after given done (Goes bytes t) all so_far cut = absurd cut
read_cut n m start s new before now after given done (Exits status) all so_far cut = absurd cut
read_cut n m start s new before now after given done (Stops kind block offset width) all so_far cut = absurd cut
read_cut n m start s new before now after given done (Traps kind) all so_far cut = absurd cut

ends_so : (n m : ℕ) (start s new : State) (before now after : Streams) (given : List ℕ) (done : ℕ) (ended : Stop) → n ≡ done + suc m
    → IsKnown before.left given (image_run n start given).asked → SoFar start given done s before now
    → EndsBy (action_of s) ended s new now after → Runs (image_run n start given) ended new before after
ends_so n m start s new before now after given done (stop.Exit status) all known so_far then =
    ended_whole n m start s new before now after given done (stop.Exit status) all known so_far (rw then.0 refl) then.1 then.2
ends_so n m start s new before now after given done (stop.StopCall kind block offset width) all known so_far then =
    ended_whole n m start s new before now after given done (stop.StopCall kind block offset width) all known so_far (rw then.0 refl) then.1 then.2
ends_so n m start s new before now after given done (stop.Trap kind at) all known so_far then =
    ended_whole n m start s new before now after given done (stop.Trap kind at) all known so_far (rw (then.0, then.1) refl) then.2 then.3
ends_so n m start s new before now after given done stop.WriteFault all known so_far then = cut_short n m start s before now after given done (action_of s) refl all so_far then.0
ends_so n m start s new before now after given done stop.NoMemory all known so_far then = starved n m start s before now after given done (action_of s) refl all so_far then.0
ends_so n m start s new before now after given done stop.ReadFault all known so_far then = read_cut n m start s new before now after given done (action_of s) all so_far then
ends_so n m start s new before now after given done stop.Steps all known so_far then = absurd then

pub ends : (n done : ℕ) (start s new : State) (before now after : Streams) (given : List ℕ) (ended : Stop) → done < n
    → IsKnown before.left given (image_run n start given).asked → SoFar start given done s before now
    → Performs (action_of s) (step.Ended ended) s new now after → Runs (image_run n start given) ended new before after
ends n done start s new before now after given ended below known so_far then =
    ends_so n (n - (done + 1)) start s new before now after given done ended (rest_of n done below) known so_far then

pub ends_within : (n done : ℕ) (start s new : State) (before now after : Streams) (given : List ℕ) (ended : Stop) → done < n
    → IsKnown before.left given (image_run n start given).asked → SoFar start given done s before now
    → Performs (action_of s) (step.Ended ended) s new now after → EndsWithin n start new given ended before after
ends_within n done start s new before now after given ended below known so_far then = record {
  steps = done;
  fewer = below;
  last = s;
  left = so_far.rest;
  written = so_far.front;
  asked = so_far.asked;
  leads = so_far.leads;
  now = now;
  wrote = so_far.wrote;
  keeps = leaves before.left now.left given so_far.rest (image_run n start given).asked known so_far.told;
  ends = then;
}

-- a run that asks for nothing is known
pub known_unasked : (told : Option (List ℕ)) (asked : ℕ) → asked ≡ 0 → IsKnown told (given_of told) asked
known_unasked None asked unasked = unasked
known_unasked (Some left) asked unasked = refl

-- and one over a source that tells
pub known_told : (told : Option (List ℕ)) (asked : ℕ) → IsSome told → IsKnown told (given_of told) asked
known_told None asked is_told = absurd cc
known_told (Some left) asked is_told = refl
