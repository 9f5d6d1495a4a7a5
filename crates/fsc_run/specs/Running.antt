-- What it means that the tool ran an image.
use Rattle.std.specs.Prelude.{◌≡◌, ◌≢◌, ℕ, ◌⊎◌, List, Bool, Option, Some, None, Result, Ok, Err}
use Rattle.fsc_base.specs.declared.image.Image.{Image}
use Rattle.fsc_outside.specs.declared.source.Source.{Ghosts as SourceGhosts}
use Rattle.fsc_outside.specs.declared.sink.Sink.{Ghosts as SinkGhosts}
use Rattle.fsc_outside.specs.Calls.{FileCounts}
use Rattle.fsc_outside.specs.FileMap.{Holds}
use Rattle.elf_image.specs.declared.fault.ReadElfNo.{ReadElfNo}
use Rattle.elf_image.specs.declared.fault.ReadElfNo.TheVariants as elf
use Rattle.elf_image.specs.Reading.{image_at}
use Rattle.rv_run.specs.declared.stop.Stop.{Stop}
use Rattle.rv_run.specs.declared.stop.Stop.TheVariants as stop
use Rattle.rv_run.specs.Machine.{State, start_of}
use Rattle.rv_run.specs.ImageRun.{Streams, image_run, IsKnown, Runs, EndsWithin, EndsWhereReached}
use Rattle.fsc_ending.specs.declared.ending.Ending.{Ending}
use Rattle.fsc_ending.specs.declared.ending.Ending.TheVariants.{BadImage, NoMemory}
use Rattle.fsc_ending.specs.Ending.{ending_of, told_marks}
use Rattle.fsc_run.specs.Reading.{RefusesRead}

-- what an input of any kind has left and an output holds, where they tell
abbrev pub streams_of : {S O : Type 0} → SourceGhosts S → SinkGhosts O → (input : S) (out : O) → Streams
streams_of source sink input out = record { left = source.left input; written = sink.written out }

-- A machine ran from that state, at most so many instructions, and the answer and the marks are those of how it stopped:
-- over each input that the source may have it stopped as the run does, and where that is not the bound, some of the
-- instructions ran whole and the next one ended it; over any source it stopped where it came to.
pub record RanFrom (start : State) (steps : ℕ) (stats : Bool) (ending : Ending) (marks : Option ℕ) (before after : Streams) : Type 0 where
  pub stopped : Stop
  pub machine : State
  pub answer : ending ≡ ending_of steps stopped
  pub marked : marks ≡ told_marks stats stopped machine.marks
  pub runs : (given : List ℕ) → IsKnown before.left given (image_run steps start given).asked → Runs (image_run steps start given) stopped machine before after
  pub ended : (given : List ℕ) → IsKnown before.left given (image_run steps start given).asked → stopped ≢ stop.Steps → EndsWithin steps start machine given stopped before after
  pub reached : EndsWhereReached steps start machine stopped before after

-- Nothing ran: no marks are told, and the input and the output are as they were. `kept` says so of the objects themselves,
-- which holds also where they don't tell.
abbrev pub RanNothing : Option ℕ → (kept : Type 0) (before after : Streams) → Type 0
RanNothing marks kept before after = (marks ≡ None) × kept × (after ≡ before)

-- The file's bytes are an image, which ran so, or they have a fault. Memory may be refused first.
abbrev pub RunsImage : Result Image ReadElfNo → (steps : ℕ) (stats : Bool) → Ending → Option ℕ → (kept : Type 0) (before after : Streams) → Type 0
RunsImage (Ok image) steps stats ending marks kept before after =
    ((ending ≡ NoMemory) × RanNothing marks kept before after) ⊎ RanFrom (start_of image) steps stats ending marks before after
RunsImage (Err (elf.Bad fault offset)) steps stats ending marks kept before after =
    ((ending ≡ NoMemory) ⊎ (ending ≡ BadImage fault offset)) × RanNothing marks kept before after
RunsImage (Err elf.NoMemory) steps stats ending marks kept before after = (ending ≡ NoMemory) × RanNothing marks kept before after

-- a run of the image in a file, which could not be read, or has these bytes if the files are told
pub data RunsImageFile (ending : Ending) (marks : Option ℕ) (file : List ℕ) (steps : ℕ) (stats : Bool) (counts : FileCounts) (kept : Type 0) (before after : Streams) : Type 0 where
  image_unread : RefusesRead ending file counts → RanNothing marks kept before after → RunsImageFile ending marks file steps stats counts kept before after
  image_read : (bytes : List ℕ) → Holds counts.told file (Some bytes) → RunsImage (image_at bytes) steps stats ending marks kept before after
      → RunsImageFile ending marks file steps stats counts kept before after
