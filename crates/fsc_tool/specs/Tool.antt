-- What the tool is asked for, and what it answers, makes and writes.
-- `told` is the map of the files where the object tells it; `before` and `after` are what the input has left and the
-- output holds, where they tell; `kept` says that the input and the output are the very same.
use Rattle.std.specs.Prelude.{◌≡◌, ◌≢◌, ℕ, ◌≤◌, ◌⊎◌, List, take, length, Bool, false, Option, Some, None, IsSome}
use Rattle.fsc_base.specs.declared.image.Image.{Image}
use Rattle.fsc_base.specs.Image.{IsSound}
use Rattle.c_link.specs.declared.fault.LinkFault.{LinkFault}
use Rattle.fsc_base.specs.declared.place.Place.{Place}
use Rattle.fsc_base.specs.declared.rule.Rule.{Rule}
use Rattle.fsc_outside.specs.FileMap.{FileMap, Holds}
use Rattle.fsc_outside.specs.Streams.{Appends}
use Rattle.elf_image.specs.Reading.{image_at}
use Rattle.rv_run.specs.Machine.{start_of}
use Rattle.rv_run.specs.ImageRun.{Streams}
use Rattle.block_report.specs.declared.live.Live.{Live}
use Rattle.plain_text.specs.declared.program.Program.{Program}
use Rattle.plain_text.specs.Program.{IsPlain}
use Rattle.fsc_ending.specs.declared.ending.Ending.{Ending}
use Rattle.fsc_ending.specs.declared.ending.Ending.TheVariants.{Exited, StepsUsed, FileFault, ReadFault, NoteFault, Rejected, LinkRefused, NotBuilt, NoMemory}
use Rattle.fsc_ending.specs.declared.ending.Form.TheVariants.{Text}
use Rattle.fsc_ending.specs.Reporting.{IsUnless}
use Rattle.fsc_ending.specs.Sort.{refused, IsOfSort}
use Rattle.fsc_run.specs.Running.{RanFrom, RanNothing, RunsImage}
use Rattle.fsc_commands.specs.Going.{IsImageOf}
use Rattle.fsc_commands.specs.Refusing.{IsNoProgram}
use Rattle.fsc_commands.specs.Meaning.{IsMeant}
use Rattle.fsc_commands.specs.Reporting.{RanWithReport}
use Rattle.command_line.specs.Requests.{Listed}
use Rattle.command_line.specs.declared.request.Request.{Request}
use Rattle.command_line.specs.declared.request.Request.TheVariants as request
use Rattle.fsc_commands.specs.Demonstrating.{most_steps, without_input, Closes}
use Rattle.fsc_tool.specs.Words.{Asks, AsksFiles, AsksReport, AsksRun, AsksUnits, NamesToWrite, TakesInput, IsOfProgram}

-- ---- runs

-- a run of a file's program
pub record Job : Type 0 where
  pub file : List ℕ
  pub steps : ℕ
  pub text : List ℕ
  pub program : Program

-- The words and the files ask for it: the file has the text, if the files are told, and the text is the program's.
pub record IsAsked (words : List (List ℕ)) (told : Option FileMap) (job : Job) : Type 0 where
  pub request : Asks words job.file job.steps
  pub text : Holds told job.file (Some job.text)
  pub plain : IsPlain job.text job.program

-- a run of an image that the words ask for, whose file has these bytes if the files are told
pub record IsImageRun (ending : Ending) (marks : Option ℕ) (words : List (List ℕ)) (told : Option FileMap) (kept : Type 0) (before after : Streams) : Type 0 where
  pub file : List ℕ
  pub steps : ℕ
  pub stats : Bool
  pub bytes : List ℕ
  pub request : AsksRun words file steps stats
  pub text : Holds told file (Some bytes)
  pub runs : RunsImage (image_at bytes) steps stats ending marks kept before after

-- A run of a sound image that was made of the files that the words ask for, which ask for no job.
pub record IsFilesRun (image : Image) (ending : Ending) (marks : Option ℕ) (words : List (List ℕ)) (told : Option FileMap) (before after : Streams) : Type 0 where
  pub files : List (List ℕ)
  pub steps : ℕ
  pub stats : Bool
  pub request : AsksFiles words files steps stats
  pub apart : (job : Job) → IsSome told → IsAsked words told job → ⊥
  pub sound : IsSound image
  pub runs : RanFrom (start_of image) steps stats ending marks before after

-- Either nothing was made and nothing ran; or nothing was made, and the image of a file ran; or the image that was made is
-- that of a job that is asked for, and it ran; or it was made of the files that the words ask for, and it ran; or a file was written
-- that the words name, and nothing was made and nothing ran; or nothing was made, and the meaning of files was followed; or the image
-- that was made is that of the demonstration, and it ran on no input, and its line was written; or the image was made of files that the
-- words ask a report of, and it ran.
pub data IsRunOf (made : Option Image) (ending : Ending) (marks : Option ℕ) (words : List (List ℕ)) (told : Option FileMap) (kept : Type 0) (before after : Streams) : Type 0 where
  none_ran : made ≡ None → IsOfSort refused ending → RanNothing marks kept before after → IsRunOf made ending marks words told kept before after
  image_ran : made ≡ None → IsImageRun ending marks words told kept before after → IsRunOf made ending marks words told kept before after
  job_ran : (image : Image) → made ≡ Some image → (job : Job) → (asked : IsAsked words told job) → IsImageOf job.program image
      → RanFrom (start_of image) job.steps asked.request.0 ending marks before after → ending ≢ ReadFault → after.left ≡ before.left
      → IsRunOf made ending marks words told kept before after
  files_ran : (image : Image) → made ≡ Some image → IsFilesRun image ending marks words told before after → IsRunOf made ending marks words told kept before after
  file_written : made ≡ None → ending ≡ Exited 0 → (name : List ℕ) → NamesToWrite words name → RanNothing marks kept before after
      → IsRunOf made ending marks words told kept before after
  demo_ran : (image : Image) → IsSound image → made ≡ Some image → (count : ℕ) (said : Ending) (between : Option (List ℕ)) → Listed words (request.Demo count) → marks ≡ None
      → after.left ≡ before.left → RanFrom (start_of image) most_steps false said None (without_input before.written) (without_input between)
      → Closes count said ending between after.written → ending ≢ ReadFault → IsRunOf made ending marks words told kept before after
  report_ran : (image : Image) → IsSound image → made ≡ Some image → (files : List (List ℕ)) (steps : ℕ) (lives : Option (List Live)) → AsksReport words files steps
      → RanWithReport image steps ending marks lives before after → IsRunOf made ending marks words told kept before after
  meaning_followed : made ≡ None → (files : List (List ℕ)) (cost : ℕ) → Listed words (request.Mean cost files) → marks ≡ None → IsMeant ending cost
      → IsRunOf made ending marks words told kept before after

-- Which objects are told: those that are alive in the memory that the run of the image left which was made of files that the words
-- ask a report of; where nothing was made of such files, or the words ask for something else, none.
pub data IsTold (made : Option Image) (ending : Ending) (marks : Option ℕ) (lives : Option (List Live)) (words : List (List ℕ)) (before after : Streams) : Type 0 where
  none_told : lives ≡ None → ((files : List (List ℕ)) (steps : ℕ) → AsksReport words files steps → made ≡ None) → IsTold made ending marks lives words before after
  run_told : (files : List (List ℕ)) (steps : ℕ) → AsksReport words files steps → (image : Image) → made ≡ Some image
      → RanWithReport image steps ending marks lives before after → IsTold made ending marks lives words before after

-- ---- answers

-- at least j of the bytes were written, from their front
abbrev pub AppendsAtLeast : (j : ℕ) (before after : Option (List ℕ)) (bytes : List ℕ) → Type 0
AppendsAtLeast j before after bytes = (n : ℕ) × (j ≤ n) × (n ≤ length bytes) × Appends before after (take n bytes)

-- the run came to its end or its bound, or memory was refused
abbrev pub IsEnd : Ending → Type 0
IsEnd ending = ((status : ℕ) × (ending ≡ Exited status)) ⊎ (((n : ℕ) × (ending ≡ StepsUsed n)) ⊎ (ending ≡ NoMemory))

-- The ending, or what took its place where its line could not be written, memory was refused or a file failed.
abbrev pub IsUnlessFault : Ending → Ending → Type 0
IsUnlessFault said ending = IsUnless said ending ⊎ ((name : List ℕ) × (ending ≡ FileFault name))

-- the file of that name was written whole; or it could not be, or the answer is one of the notes or of memory
abbrev pub IsWritten : (name : List ℕ) → Ending → Type 0
IsWritten name ending = (ending ≡ Exited 0) ⊎ ((ending ≡ FileFault name) ⊎ ((ending ≡ NoteFault) ⊎ (ending ≡ NoMemory)))

-- the files are as they were, or the one that the words name to be written may have changed
abbrev pub LeavesFiles : Ending → (words : List (List ℕ)) (told now : Option FileMap) → Type 0
LeavesFiles ending words told now = (now ≡ told) ⊎ ((name : List ℕ) × NamesToWrite words name × IsWritten name ending)

-- the text is outside what is built, or it breaks a rule, or one of linking
abbrev pub IsRefusedText : Ending → Type 0
IsRefusedText ending =
    IsUnlessFault (NotBuilt Text) ending
    ⊎ (((rule : Rule) × (place : Place) × (name : List ℕ) × (ending ≡ Rejected rule place name)) ⊎ ((fault : LinkFault) × (ending ≡ LinkRefused fault)))

-- the words ask for the program of a file whose text is that of none
abbrev pub AsksNoProgram : (words : List (List ℕ)) (told : Option FileMap) → Type 0
AsksNoProgram words told = (file : List ℕ) × (steps : ℕ) × (text : List ℕ) × Asks words file steps × Holds told file (Some text) × IsNoProgram text

-- the words ask for the program of files that are no job
abbrev pub AsksText : (words : List (List ℕ)) (told : Option FileMap) → Type 0
AsksText words told = AsksNoProgram words told ⊎ AsksUnits words

-- the same, of which linking makes a program
abbrev pub AsksLinked : (words : List (List ℕ)) (told : Option FileMap) → Type 0
AsksLinked words told = AsksNoProgram words told ⊎ ((asked : Request) × Listed words asked × IsOfProgram asked)

-- the words ask for a program that takes from the input: that of such a file, or one of another request
abbrev pub AsksInput : (words : List (List ℕ)) (told : Option FileMap) → Type 0
AsksInput words told = AsksNoProgram words told ⊎ ((asked : Request) × Listed words asked × TakesInput asked)
