-- The line of an exit, and the run before it.
use Rattle.std.proofs.Common.{◌≡◌, ℕ, ◌<◌, ◌⊎◌, inr, List, [], ◌∷◌, ◌++◌, length, false, Option, Some, None, refl, subst, sym, ◌∙◌, length-append, arith}
use Rattle.std.specs.Prelude.{codes}
use Rattle.std.specs.Fmt.{decimal}
use Rattle.fsc_base.specs.declared.image.Image.{Image}
use Rattle.fsc_base.specs.Image.{IsSound}
use Rattle.fsc_outside.specs.Counts.{Rose}
use Rattle.fsc_outside.specs.Streams.{Appends, AppendsPart}
use Rattle.fsc_outside.proofs.Appending.{appends_nothing}
use Rattle.rv_run.specs.declared.stop.Stop.{Stop}
use Rattle.rv_run.specs.declared.stop.Stop.TheVariants as stop
use Rattle.rv_run.specs.Machine.{State}
use Rattle.rv_run.specs.ImageRun.{Streams}
use Rattle.fsc_core.specs.declared.refusal.CoreNo.TheVariants as core
use Rattle.fsc_ending.specs.declared.ending.Ending.{Ending}
use Rattle.fsc_ending.specs.declared.ending.Ending.TheVariants.{Exited, WriteFault, NoMemory}
use Rattle.fsc_ending.specs.Ending.{told_marks}
use Rattle.fsc_run.specs.Running.{RanFrom}
use Rattle.fsc_commands.specs.Demonstrating.{exit_line, exit_of, Closes, line_written, line_cut, RunsImage, image_unmade, image_ran, RunsDemo, demo_refused, demo_ran}

-- a line is never empty
some_line : (count status : ℕ) → 0 < length (exit_line count status)
some_line count status = omega (arith, length-append (codes "demo ") (decimal count ++ (codes " exits " ++ (decimal status ++ 10 ∷ []))))

-- all of a line was written
pub whole_line : (count status : ℕ) (line : List ℕ) (between after : Option (List ℕ)) → line ≡ exit_line count status → Appends between after line
    → Closes count (Exited status) (Exited status) between after
whole_line count status line between after is wrote = line_written status refl refl (subst (λ (bytes : List ℕ). Appends between after bytes) is wrote)

-- a part of it was
pub cut_line : (count status : ℕ) (line : List ℕ) (ending : Ending) (between after : Option (List ℕ)) → line ≡ exit_line count status → (ending ≡ WriteFault) ⊎ (ending ≡ NoMemory)
    → AppendsPart between after line → Closes count (Exited status) ending between after
cut_line count status line ending between after is why part = line_cut status refl why (subst (λ (bytes : List ℕ). AppendsPart between after bytes) is part)

-- nothing of it was
pub unwritten : (count status : ℕ) (told : Option (List ℕ)) → Closes count (Exited status) NoMemory told told
unwritten count status told = line_cut status refl (inr refl) (0, some_line count status, appends_nothing told)

exited : (said : Ending) (status : ℕ) → exit_of said ≡ Some status → said ≡ Exited status
exited (Exited other) status is = cc
exited _ status is = absurd cc

-- an exit's line stands behind what that exit wrote
pub closes_exit : (count status : ℕ) (said ending : Ending) (between after : Option (List ℕ)) → exit_of said ≡ Some status → Closes count (Exited status) ending between after
    → Closes count said ending between after
closes_exit count status said ending between after is closes =
    subst (λ (s : Ending). Closes count s ending between after) (sym (exited said status is)) closes

untold : (stopped : Stop) (marks : ℕ) → told_marks false stopped marks ≡ None
untold (stop.Exit status) marks = refl
untold (stop.StopCall kind block offset width) marks = refl
untold stop.Steps marks = refl
untold (stop.Trap kind pc) marks = refl
untold stop.ReadFault marks = refl
untold stop.WriteFault marks = refl
untold stop.NoMemory marks = refl

-- a run whose marks are not asked for has none
pub unmarked : (start : State) (steps : ℕ) (ending : Ending) (marks : Option ℕ) (before after : Streams) → RanFrom start steps false ending marks before after
    → RanFrom start steps false ending None before after
unmarked start steps ending marks before after run =
    subst (λ (m : Option ℕ). RanFrom start steps false ending m before after) (run.marked ∙ untold run.stopped run.machine.marks) run

-- a count that stands still never rose
pub still : Rose 0 0 → ⊥
still rose = let less : 0 < 0 = rose (omega arith) in omega (arith, less)

-- the image ran, or memory was refused
pub demo_of : (image : Image) (made : Option Image) (ending : Ending) (count : ℕ) (kept : Type 0) (before after : Option (List ℕ))
    → IsSound image → RunsImage image made ending count kept before after → RunsDemo made ending count kept before after
demo_of image made ending count kept before after sound (image_unmade none is same silent) = demo_refused core.NoMemory none is tt same silent
demo_of image made ending count kept before after sound (image_ran said between is ran closes) = demo_ran image said between sound is ran closes
