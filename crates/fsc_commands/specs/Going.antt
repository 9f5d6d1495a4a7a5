-- What it means that the tool ran the program of files.
use Rattle.std.specs.Prelude.{◌≡◌, ◌≢◌, ℕ, List, [], ◌∷◌, Bool, Option, Some, None}
use Rattle.fsc_base.specs.declared.image.Image.{Image}
use Rattle.fsc_base.specs.Image.{IsSound}
use Rattle.fsc_outside.specs.Calls.{FileCounts}
use Rattle.fsc_outside.specs.FileMap.{Holds}
use Rattle.rv_run.specs.Machine.{start_of}
use Rattle.rv_run.specs.ImageRun.{Streams, image_run}
use Rattle.plain_text.specs.declared.program.Program.{Program}
use Rattle.plain_image.specs.Writing.{Writes}
use Rattle.fsc_ending.specs.declared.ending.Ending.{Ending}
use Rattle.fsc_ending.specs.declared.ending.Ending.TheVariants.{ReadFault, NoMemory}
use Rattle.fsc_run.specs.Reading.{RefusesRead}
use Rattle.fsc_run.specs.Running.{RanFrom, RanNothing}
use Rattle.fsc_commands.specs.Refusing.{IsNoProgram, GivesProgram, RefusesNames}

-- what every run of the image does is what the program says
abbrev pub IsImageOf : Program → Image → Type 0
IsImageOf program image = (n : ℕ) (input : List ℕ) → Writes program.bytes program.status n input (image_run n (start_of image) input)

-- The image that was made is the program's, and the answer that of its run, which takes nothing from the input; or memory
-- was refused first.
pub data RunsProgram (made : Option Image) (ending : Ending) (marks : Option ℕ) (program : Program) (steps : ℕ) (stats : Bool) (kept : Type 0) (before after : Streams) : Type 0 where
  program_unmade : made ≡ None → ending ≡ NoMemory → RanNothing marks kept before after → RunsProgram made ending marks program steps stats kept before after
  program_ran : (image : Image) → made ≡ Some image → IsImageOf program image → RanFrom (start_of image) steps stats ending marks before after → ending ≢ ReadFault
      → after.left ≡ before.left → RunsProgram made ending marks program steps stats kept before after

-- a run of the sound image that was made of the files of these names, or why there is none
pub data RunsFiles (made : Option Image) (ending : Ending) (marks : Option ℕ) (names : List (List ℕ)) (steps : ℕ) (stats : Bool) (counts : FileCounts) (kept : Type 0) (before after : Streams) : Type 0 where
  files_refused : made ≡ None → RefusesNames ending names counts → RanNothing marks kept before after → RunsFiles made ending marks names steps stats counts kept before after
  files_ran : (image : Image) → IsSound image → made ≡ Some image → RanFrom (start_of image) steps stats ending marks before after
      → RunsFiles made ending marks names steps stats counts kept before after

-- a run of the program in a file, or why there is none
pub data RunsFile (made : Option Image) (ending : Ending) (marks : Option ℕ) (file : List ℕ) (steps : ℕ) (stats : Bool) (counts : FileCounts) (kept : Type 0) (before after : Streams) : Type 0 where
  file_unread : made ≡ None → RefusesRead ending file counts → RanNothing marks kept before after
      → RunsFile made ending marks file steps stats counts kept before after
  file_ran : (program : Program) → GivesProgram program file counts.told → RunsProgram made ending marks program steps stats kept before after
      → RunsFile made ending marks file steps stats counts kept before after
  file_built : (text : List ℕ) → Holds counts.told file (Some text) → IsNoProgram text → RunsFiles made ending marks (file ∷ []) steps stats counts kept before after
      → RunsFile made ending marks file steps stats counts kept before after
