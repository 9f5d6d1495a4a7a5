-- What a call did with the files that it was handed.
use Rattle.std.specs.Prelude.{◌≡◌, ℕ, List, Option, IsSome}
use Rattle.fsc_outside.specs.Counts.{Rose}
use Rattle.fsc_outside.specs.FileMap.{FileMap}
use Rattle.fsc_outside.specs.declared.files.Files.{Ghosts}

-- what they told when the call began, the name that they blame when it ends, and their counts before and after
pub record FileCounts : Type 0 where
  pub told : Option FileMap
  pub blamed : List ℕ
  pub faults_before : ℕ
  pub faults_after : ℕ
  pub absences_before : ℕ
  pub absences_after : ℕ

-- of files of any kind, as they were and as they are then
abbrev pub counts_of : {F : Type 0} → Ghosts F → (old new : F) → FileCounts
counts_of files old new = record {
  told = files.contents old;
  blamed = files.blamed new;
  faults_before = files.fault_count old;
  faults_after = files.fault_count new;
  absences_before = files.absence_count old;
  absences_after = files.absence_count new;
}

-- some call failed: the count of faults rose, and where the files are told, this is the name that they blame
abbrev pub Fails : (name : List ℕ) → FileCounts → Type 0
Fails name counts = Rose counts.faults_before counts.faults_after × (IsSome counts.told → counts.blamed ≡ name)

-- some file was not there
abbrev pub Misses : FileCounts → Type 0
Misses counts = Rose counts.absences_before counts.absences_after
