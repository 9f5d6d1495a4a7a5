-- What it means that the tool ran the demonstration.
use Rattle.std.specs.Prelude.{◌≡◌, ℕ, ◌^◌, ◌⊎◌, List, [], ◌∷◌, ◌++◌, codes, false, Option, Some, None}
use Rattle.std.specs.Fmt.{decimal}
use Rattle.fsc_base.specs.declared.image.Image.{Image}
use Rattle.fsc_base.specs.Image.{IsSound}
use Rattle.fsc_outside.specs.Streams.{Appends, AppendsPart}
use Rattle.rv_run.specs.Machine.{start_of}
use Rattle.rv_run.specs.ImageRun.{Streams}
use Rattle.fsc_core.specs.Refusing.{RefusesUnits}
use Rattle.fsc_core.specs.declared.refusal.CoreNo.{CoreNo}
use Rattle.fsc_ending.specs.declared.ending.Ending.{Ending}
use Rattle.fsc_ending.specs.declared.ending.Ending.TheVariants.{Exited, WriteFault, NoMemory}
use Rattle.fsc_run.specs.Running.{RanFrom}
use Rattle.fsc_commands.specs.Refusing.{ending_of_refusal}

-- how many instructions the demonstration runs at most
abbrev pub most_steps : ℕ
most_steps = 10 ^ 10

-- no input, and what the output holds, where it tells
abbrev pub without_input : Option (List ℕ) → Streams
without_input written = record { left = Some []; written = written }

-- the line that tells the status of an exit
abbrev pub exit_line : (count status : ℕ) → List ℕ
exit_line count status = codes "demo " ++ (decimal count ++ (codes " exits " ++ (decimal status ++ 10 ∷ [])))

-- the status of an exit
abbrev pub exit_of : Ending → Option ℕ
exit_of (Exited status) = Some status
exit_of _ = None

-- The answer after a run that ended so, and what is written behind what the run wrote: where it exits, its line; or a part of that
-- from its front and not all, and the answer says why; and nothing behind every other ending.
pub data Closes (count : ℕ) (said ending : Ending) (between after : Option (List ℕ)) : Type 0 where
  line_written : (status : ℕ) → said ≡ Exited status → ending ≡ said → Appends between after (exit_line count status) → Closes count said ending between after
  line_cut : (status : ℕ) → said ≡ Exited status → (ending ≡ WriteFault) ⊎ (ending ≡ NoMemory) → AppendsPart between after (exit_line count status)
      → Closes count said ending between after
  no_line : exit_of said ≡ None → ending ≡ said → after ≡ between → Closes count said ending between after

-- the image was made and ran on no input, and its line was written; or memory was refused first, and none was made
pub data RunsImage (image : Image) (made : Option Image) (ending : Ending) (count : ℕ) (kept : Type 0) (before after : Option (List ℕ)) : Type 0 where
  image_unmade : made ≡ None → ending ≡ NoMemory → kept → after ≡ before → RunsImage image made ending count kept before after
  image_ran : (said : Ending) (between : Option (List ℕ)) → made ≡ Some image
      → RanFrom (start_of image) most_steps false said None (without_input before) (without_input between) → Closes count said ending between after
      → RunsImage image made ending count kept before after

-- The demonstration has no program, for a cause in texts, in linking or in memory, whatever the files of the call are, and the output is as
-- it was: `kept` says so of the object itself. Or its sound image was made and ran on no input, and its line was written.
pub data RunsDemo (made : Option Image) (ending : Ending) (count : ℕ) (kept : Type 0) (before after : Option (List ℕ)) : Type 0 where
  demo_refused : (no : CoreNo) → made ≡ None → ending ≡ ending_of_refusal no → RefusesUnits no → kept → after ≡ before → RunsDemo made ending count kept before after
  demo_ran : (image : Image) (said : Ending) (between : Option (List ℕ)) → IsSound image → made ≡ Some image
      → RanFrom (start_of image) most_steps false said None (without_input before) (without_input between) → Closes count said ending between after
      → RunsDemo made ending count kept before after
