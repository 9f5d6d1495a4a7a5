-- Runs whose objects are told.
use Rattle.std.proofs.Common.{◌≡◌, ℕ, List, true, false, Option, Some, None, refl, subst}
use Rattle.fsc_base.specs.declared.image.Image.{Image}
use Rattle.rv_run.specs.declared.stop.Stop.{Stop}
use Rattle.rv_run.specs.declared.stop.Stop.TheVariants as stop
use Rattle.rv_run.specs.ImageRun.{Streams}
use Rattle.rv_run.specs.Machine.{State, start_of}
use Rattle.block_report.specs.declared.live.Live.{Live}
use Rattle.block_report.specs.Listing.{IsReport}
use Rattle.fsc_ending.specs.declared.ending.Ending.{Ending}
use Rattle.fsc_ending.specs.declared.ending.Ending.TheVariants.{NoMemory}
use Rattle.fsc_ending.specs.Ending.{told_marks}
use Rattle.fsc_run.specs.Running.{RanFrom}
use Rattle.fsc_commands.specs.Reporting.{CameTo, Tells, told, untold, unheld, is_own_end, RanWithReport, second_address}

-- no marks are told where the words don't ask for them
unmarked : (stopped : Stop) (marks : ℕ) → None ≡ told_marks false stopped marks
unmarked (stop.Exit status) marks = refl
unmarked (stop.StopCall kind block offset width) marks = refl
unmarked stop.Steps marks = refl
unmarked (stop.Trap kind pc) marks = refl
unmarked stop.ReadFault marks = refl
unmarked stop.WriteFault marks = refl
unmarked stop.NoMemory marks = refl

-- a run that came to a state is a run
pub ran_of : (start machine : State) (steps : ℕ) (said : Ending) (before after : Streams) → CameTo start machine steps said before after → RanFrom start steps false said None before after
ran_of start machine steps said before after came = record {
  stopped = came.stopped;
  machine = machine;
  answer = came.answer;
  marked = unmarked came.stopped machine.marks;
  runs = came.runs;
  ended = came.ended;
  reached = came.reached;
}

-- what is told
pub tells_found : (machine : State) (at : ℕ) (said : Ending) (found : List Live) → is_own_end said ≡ true → IsReport machine at found → Tells machine at said said (Some found)
tells_found machine at said found own report = told found own refl refl report

pub tells_none : (machine : State) (at : ℕ) (said : Ending) → is_own_end said ≡ false → Tells machine at said said None
tells_none machine at said other = untold other refl refl

pub tells_unheld : (machine : State) (at : ℕ) (said : Ending) → is_own_end said ≡ true → Tells machine at said NoMemory None
tells_unheld machine at said own = unheld own refl refl

-- the run of an image from its start
pub run_is_told : (image : Image) (start machine : State) (steps at : ℕ) (said ending : Ending) (marks : Option ℕ) (lives : Option (List Live)) (before after : Streams) → start ≡ start_of image
    → at ≡ second_address image → marks ≡ None → CameTo start machine steps said before after → Tells machine at said ending lives → RanWithReport image steps ending marks lives before after
run_is_told image start machine steps at said ending marks lives before after starts place none came tells = record {
  said = said;
  machine = machine;
  came = subst (λ (s : State). CameTo s machine steps said before after) starts came;
  tells = subst (λ (a : ℕ). Tells machine a said ending lives) place tells;
  unmarked = none;
}
