-- Why the tool answers as it does before the lines of notes are written.
use Rattle.std.specs.Prelude.{◌≡◌, ◌≢◌, ℕ, List, length, Bool, false, Option, Some, None}
use Rattle.fsc_base.specs.declared.image.Image.{Image}
use Rattle.fsc_base.specs.Image.{IsSound}
use Rattle.fsc_outside.specs.Calls.{FileCounts}
use Rattle.fsc_outside.specs.FileMap.{FileMap}
use Rattle.rv_run.specs.Machine.{start_of}
use Rattle.rv_run.specs.ImageRun.{Streams}
use Rattle.block_report.specs.declared.live.Live.{Live}
use Rattle.command_line.specs.Requests.{IsUsable, Listed}
use Rattle.command_line.specs.declared.request.Request.TheVariants as request
use Rattle.fsc_ending.specs.declared.ending.Ending.{Ending}
use Rattle.fsc_core.specs.Refusing.{RefusesUnits}
use Rattle.fsc_core.specs.declared.refusal.CoreNo.{CoreNo}
use Rattle.fsc_ending.specs.declared.ending.Ending.TheVariants.{Usage, ReadFault, NoMemory}
use Rattle.fsc_run.specs.Running.{RanFrom, RanNothing, RunsImageFile}
use Rattle.fsc_commands.specs.Refusing.{ending_of_refusal}
use Rattle.fsc_commands.specs.Going.{RunsFiles, RunsFile}
use Rattle.fsc_commands.specs.Writing.{BuildsFiles, CompilesFile, LinksFiles}
use Rattle.fsc_commands.specs.Meaning.{MeansFiles}
use Rattle.fsc_commands.specs.Reporting.{ReportsFiles}
use Rattle.fsc_commands.specs.Demonstrating.{most_steps, without_input, Closes}
use Rattle.fsc_tool.specs.Words.{AsksFiles, AsksWith, AsksReport, AsksRun}

-- what the words are that ask for no run
pub data RefusesWords (ending : Ending) (words : List (List ℕ)) : Type 0 where
  unusable : ending ≡ Usage → (IsUsable words → ⊥) → RefusesWords ending words
  words_unheld : ending ≡ NoMemory → RefusesWords ending words

-- a call with these words, which leaves the files so
pub data Performed (made : Option Image) (ending : Ending) (marks : Option ℕ) (words : List (List ℕ)) (counts : FileCounts) (now : Option FileMap) (kept : Type 0) (before after : Streams) : Type 0 where
  words_refused : made ≡ None → RefusesWords ending words → RanNothing marks kept before after → now ≡ counts.told → Performed made ending marks words counts now kept before after
  file_asked : (file : List ℕ) (steps : ℕ) (stats : Bool) → AsksWith words file steps stats
      → RunsFile made ending marks file steps stats counts kept before after → Performed made ending marks words counts now kept before after
  files_asked : (files : List (List ℕ)) (steps : ℕ) (stats : Bool) → AsksFiles words files steps stats → length files ≢ 1
      → RunsFiles made ending marks files steps stats counts kept before after → Performed made ending marks words counts now kept before after
  image_asked : (file : List ℕ) (steps : ℕ) (stats : Bool) → made ≡ None → AsksRun words file steps stats
      → RunsImageFile ending marks file steps stats counts kept before after → Performed made ending marks words counts now kept before after
  build_asked : (image : List ℕ) (files : List (List ℕ)) → made ≡ None → Listed words (request.Build image files)
      → BuildsFiles ending image files counts now → RanNothing marks kept before after → Performed made ending marks words counts now kept before after
  compile_asked : (unit file : List ℕ) → made ≡ None → Listed words (request.Compile unit file)
      → CompilesFile ending unit file counts now → RanNothing marks kept before after → Performed made ending marks words counts now kept before after
  link_asked : (image : List ℕ) (units : List (List ℕ)) → made ≡ None → Listed words (request.Link image units)
      → LinksFiles ending image units counts now → RanNothing marks kept before after → Performed made ending marks words counts now kept before after
  meaning_asked : (files : List (List ℕ)) (cost : ℕ) → made ≡ None → Listed words (request.Mean cost files) → marks ≡ None
      → MeansFiles ending files cost counts kept before after → Performed made ending marks words counts now kept before after
  report_asked : (files : List (List ℕ)) (steps : ℕ) (lives : Option (List Live)) → AsksReport words files steps
      → ReportsFiles made ending marks lives files steps counts kept before after → Performed made ending marks words counts now kept before after
  demo_refused : (count : ℕ) (no : CoreNo) → made ≡ None → Listed words (request.Demo count) → ending ≡ ending_of_refusal no → RefusesUnits no
      → RanNothing marks kept before after → Performed made ending marks words counts now kept before after
  demo_ran : (count : ℕ) (image : Image) (said : Ending) (between : Option (List ℕ)) → IsSound image → made ≡ Some image → Listed words (request.Demo count) → marks ≡ None
      → after.left ≡ before.left → RanFrom (start_of image) most_steps false said None (without_input before.written) (without_input between)
      → Closes count said ending between after.written → ending ≢ ReadFault → Performed made ending marks words counts now kept before after
