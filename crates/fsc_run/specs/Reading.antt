-- Why a file could not be read.
use Rattle.std.specs.Prelude.{◌≡◌, ℕ, ◌⊎◌, List, None}
use Rattle.fsc_outside.specs.Calls.{FileCounts, Fails, Misses}
use Rattle.fsc_outside.specs.FileMap.{Holds}
use Rattle.fsc_ending.specs.declared.ending.Ending.{Ending}
use Rattle.fsc_ending.specs.declared.ending.Ending.TheVariants.{MissingFile, FileFault, NoMemory}

-- the file was not there
abbrev pub IsAbsent : (file : List ℕ) → FileCounts → Type 0
IsAbsent file counts = Holds counts.told file None × Misses counts

-- the ending with the file's name, or memory was refused
abbrev pub NamesFile : (List ℕ → Ending) → List ℕ → Ending → Type 0
NamesFile with_name name ending = (ending ≡ with_name name) ⊎ (ending ≡ NoMemory)

pub data RefusesRead (ending : Ending) (file : List ℕ) (counts : FileCounts) : Type 0 where
  absent : ending ≡ MissingFile file → IsAbsent file counts → RefusesRead ending file counts
  unreadable : ending ≡ FileFault file → Fails file counts → RefusesRead ending file counts
  unheld : ending ≡ NoMemory → RefusesRead ending file counts
