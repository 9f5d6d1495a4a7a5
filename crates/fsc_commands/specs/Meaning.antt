-- What it means that the tool followed the meaning of the program of files.
use Rattle.std.specs.Prelude.{◌≡◌, ℕ, List}
use Rattle.fsc_outside.specs.Calls.{FileCounts}
use Rattle.rv_run.specs.ImageRun.{Streams}
use Rattle.fsc_ending.specs.declared.ending.Ending.{Ending}
use Rattle.c_mean.specs.declared.run.Meant.{Meant}
use Rattle.fsc_commands.specs.Ends.{ending_of_meant}
use Rattle.fsc_commands.specs.Refusing.{RefusesNames}

-- the ending of a meaning that was followed up to that cost
abbrev pub IsMeant : Ending → (cost : ℕ) → Type 0
IsMeant ending cost = (meant : Meant) × (ending ≡ ending_of_meant meant cost)

-- The files give no program, and the input and the output are as they were; or its meaning was followed.
pub data MeansFiles (ending : Ending) (names : List (List ℕ)) (cost : ℕ) (counts : FileCounts) (kept : Type 0) (before after : Streams) : Type 0 where
  files_refused : RefusesNames ending names counts → kept → after ≡ before → MeansFiles ending names cost counts kept before after
  meaning_followed : IsMeant ending cost → MeansFiles ending names cost counts kept before after
