-- What sort of answer an ending is.
use Rattle.std.specs.Prelude.{◌≡◌, ◌⊎◌}
use Rattle.fsc_ending.specs.declared.ending.Ending.{Ending}
use Rattle.fsc_ending.specs.declared.ending.Ending.TheVariants.{Exited, Stopped, OutOfStorage, StepsUsed, CostUsed, Usage, MissingFile, FileFault, ReadFault, WriteFault, NoteFault, Rejected, LinkRefused, BadUnit, BadImage, Trap, NotBuilt, NoMemory}

-- A run stopped so; a meaning was followed to its bound; nothing ran, for a cause in the words, in the files or in their texts; nothing
-- ran, since a file is no image; a line of notes could not be written; or memory was refused.
pub data Sort : Type 0 where
  ran : Sort
  followed : Sort
  refused : Sort
  malformed : Sort
  unnoted : Sort
  no_memory : Sort

abbrev pub sort_of : Ending → Sort
sort_of (Exited status) = ran
sort_of (Stopped kind block offset width) = ran
sort_of (OutOfStorage storage) = ran
sort_of (StepsUsed n) = ran
sort_of (CostUsed cost) = followed
sort_of Usage = refused
sort_of (MissingFile name) = refused
sort_of (FileFault name) = refused
sort_of ReadFault = ran
sort_of WriteFault = ran
sort_of NoteFault = unnoted
sort_of (Rejected rule place name) = refused
sort_of (LinkRefused fault) = refused
sort_of (BadUnit name fault offset) = refused
sort_of (BadImage fault offset) = malformed
sort_of (Trap kind pc) = ran
sort_of (NotBuilt form) = refused
sort_of NoMemory = no_memory

-- an answer of that sort, or memory was refused
abbrev pub IsOfSort : Sort → Ending → Type 0
IsOfSort sort ending = (sort_of ending ≡ sort) ⊎ (ending ≡ NoMemory)
