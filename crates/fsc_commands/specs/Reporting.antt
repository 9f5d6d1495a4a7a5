-- The objects that are told at the end of the program of files.
use Rattle.std.specs.Prelude.{◌≡◌, ◌≢◌, ℕ, Bool, true, false, List, [], ◌∷◌, Option, Some, None}
use Rattle.fsc_base.specs.declared.image.Image.{Image}
use Rattle.fsc_base.specs.declared.image.Segment.{Segment}
use Rattle.fsc_base.specs.Image.{IsSound}
use Rattle.fsc_outside.specs.Calls.{FileCounts}
use Rattle.rv_run.specs.Machine.{State, start_of}
use Rattle.rv_run.specs.declared.stop.Stop.{Stop}
use Rattle.rv_run.specs.declared.stop.Stop.TheVariants as stop
use Rattle.rv_run.specs.ImageRun.{Streams, image_run, IsKnown, Runs, EndsWithin, EndsWhereReached}
use Rattle.block_report.specs.declared.live.Live.{Live}
use Rattle.block_report.specs.Listing.{IsReport}
use Rattle.fsc_ending.specs.declared.ending.Ending.{Ending}
use Rattle.fsc_ending.specs.declared.ending.Ending.TheVariants.{Exited, Stopped, OutOfStorage, StepsUsed, CostUsed, Usage, MissingFile, FileFault, ReadFault, WriteFault, NoteFault, Rejected, LinkRefused, BadUnit, BadImage, Trap, NotBuilt, NoMemory}
use Rattle.fsc_ending.specs.Ending.{ending_of}
use Rattle.fsc_run.specs.Running.{RanNothing}
use Rattle.fsc_commands.specs.Refusing.{RefusesNames}

-- the address of the second segment, or 0 where there is none
abbrev pub second_in : List Segment → ℕ
second_in [] = 0
second_in (first ∷ []) = 0
second_in (first ∷ second ∷ others) = second.address

abbrev pub second_address : Image → ℕ
second_address image = second_in image.segments

-- it was the program that ended its run: it exited or stopped itself
abbrev pub is_own_end : Ending → Bool
is_own_end (Exited status) = true
is_own_end (Stopped kind block offset width) = true
is_own_end (OutOfStorage storage) = true
is_own_end (StepsUsed n) = false
is_own_end (CostUsed cost) = false
is_own_end Usage = false
is_own_end (MissingFile name) = false
is_own_end (FileFault name) = false
is_own_end ReadFault = false
is_own_end WriteFault = false
is_own_end NoteFault = false
is_own_end (Rejected rule place name) = false
is_own_end (LinkRefused fault) = false
is_own_end (BadUnit name fault offset) = false
is_own_end (BadImage fault offset) = false
is_own_end (Trap kind pc) = false
is_own_end (NotBuilt form) = false
is_own_end NoMemory = false

-- A machine ran from a state to another, at most so many instructions, and answered as it stopped: over each input that the source may
-- have it came there as the run does, and where it stopped before the bound, some of the instructions ran whole and the next one ended it; over
-- any source it stopped where it came to.
pub record CameTo (start machine : State) (steps : ℕ) (said : Ending) (before after : Streams) : Type 0 where
  pub stopped : Stop
  pub answer : said ≡ ending_of steps stopped
  pub runs : (given : List ℕ) → IsKnown before.left given (image_run steps start given).asked → Runs (image_run steps start given) stopped machine before after
  pub ended : (given : List ℕ) → IsKnown before.left given (image_run steps start given).asked → stopped ≢ stop.Steps → EndsWithin steps start machine given stopped before after
  pub reached : EndsWhereReached steps start machine stopped before after

-- What is told of the memory that a run left, which ended so: the objects that are alive in it, where it was the program that ended the
-- run, and nothing else; or memory was refused for them.
pub data Tells (machine : State) (at : ℕ) (said ending : Ending) (lives : Option (List Live)) : Type 0 where
  told : (found : List Live) → is_own_end said ≡ true → ending ≡ said → lives ≡ Some found → IsReport machine at found → Tells machine at said ending lives
  untold : is_own_end said ≡ false → ending ≡ said → lives ≡ None → Tells machine at said ending lives
  unheld : is_own_end said ≡ true → ending ≡ NoMemory → lives ≡ None → Tells machine at said ending lives

-- An image ran from its start, at most so many instructions, and what was told is told of the memory that it left.
pub record RanWithReport (image : Image) (steps : ℕ) (ending : Ending) (marks : Option ℕ) (lives : Option (List Live)) (before after : Streams) : Type 0 where
  pub said : Ending
  pub machine : State
  pub came : CameTo (start_of image) machine steps said before after
  pub tells : Tells machine (second_address image) said ending lives
  pub unmarked : marks ≡ None

-- Files give no program, and nothing ran; or the sound image of their program ran.
pub data ReportsFiles (made : Option Image) (ending : Ending) (marks : Option ℕ) (lives : Option (List Live)) (names : List (List ℕ)) (steps : ℕ) (counts : FileCounts) (kept : Type 0)
    (before after : Streams) : Type 0 where
  report_refused : made ≡ None → lives ≡ None → RefusesNames ending names counts → RanNothing marks kept before after
      → ReportsFiles made ending marks lives names steps counts kept before after
  report_ran : (image : Image) → IsSound image → made ≡ Some image → RanWithReport image steps ending marks lives before after
      → ReportsFiles made ending marks lives names steps counts kept before after
