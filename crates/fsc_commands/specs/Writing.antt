-- What a command that writes a file answers, and how it leaves the files.
use Rattle.std.specs.Prelude.{◌≡◌, ℕ, List, Option, Some}
use Rattle.fsc_base.specs.declared.image.Image.{Image}
use Rattle.fsc_base.specs.Image.{IsSound}
use Rattle.fsc_outside.specs.Calls.{FileCounts, Fails}
use Rattle.fsc_outside.specs.FileMap.{FileMap, Holds, Replaces, KeepsOthers}
use Rattle.elf_image.specs.Writing.{elf_of}
use Rattle.fat_code.specs.declared.fault.UnitFault.{UnitFault}
use Rattle.fat_code.specs.declared.fault.Version.TheVariants.{Two}
use Rattle.fat_code.specs.declared.unit.FatParts.{FatParts}
use Rattle.fat_code.specs.Faults.{IsFaultless}
use Rattle.unit_file.specs.Spelling.{spelled_unit}
use Rattle.unit_file.specs.Units.{IsFault}
use Rattle.fsc_core.specs.Refusing.{Among, RefusesOne, RefusesUnits}
use Rattle.fsc_core.specs.declared.refusal.CoreNo.{CoreNo}
use Rattle.fsc_ending.specs.declared.ending.Ending.{Ending}
use Rattle.fsc_ending.specs.declared.ending.Ending.TheVariants.{Exited, FileFault, BadUnit, NoMemory}
use Rattle.fsc_run.specs.Reading.{RefusesRead}
use Rattle.fsc_commands.specs.Refusing.{RefusesNames, ending_of_refusal}

-- The file was written whole with such bytes; or it could not be written, and all others are as before.
pub data Writes (ending : Ending) (name : List ℕ) (IsFile : List ℕ → Type 0) (counts : FileCounts) (now : Option FileMap) : Type 0 where
  written : (bytes : List ℕ) → ending ≡ Exited 0 → IsFile bytes → Replaces counts.told now name bytes → Writes ending name IsFile counts now
  unwritten : ending ≡ FileFault name → Fails name counts → KeepsOthers counts.told now name → Writes ending name IsFile counts now
  unheld : ending ≡ NoMemory → KeepsOthers counts.told now name → Writes ending name IsFile counts now

-- the bytes are the file of a sound image
abbrev pub IsImageFile : List ℕ → Type 0
IsImageFile bytes = (image : Image) × IsSound image × (bytes ≡ elf_of image)

-- the bytes are the file of a unit that has no fault
abbrev pub IsUnitFile : List ℕ → Type 0
IsUnitFile bytes = (unit : FatParts) × IsFaultless unit × (bytes ≡ spelled_unit Two unit)

-- `build`: the files give no image, and all files are as before; or it is written
pub data BuildsFiles (ending : Ending) (image : List ℕ) (names : List (List ℕ)) (counts : FileCounts) (now : Option FileMap) : Type 0 where
  files_refused : RefusesNames ending names counts → now ≡ counts.told → BuildsFiles ending image names counts now
  image_written : Writes ending image IsImageFile counts now → BuildsFiles ending image names counts now

-- `compile`: the file gives no unit, and all files are as before; or it is written
pub data CompilesFile (ending : Ending) (unit file : List ℕ) (counts : FileCounts) (now : Option FileMap) : Type 0 where
  file_refused : (no : CoreNo) → ending ≡ ending_of_refusal no → RefusesOne no file counts → now ≡ counts.told → CompilesFile ending unit file counts now
  unit_written : Writes ending unit IsUnitFile counts now → CompilesFile ending unit file counts now

-- the bytes, which are those of the file of that name, have a fault; or memory was refused
pub data IsBadUnit (ending : Ending) (name bytes : List ℕ) : Type 0 where
  no_unit : (fault : UnitFault) (offset : ℕ) → ending ≡ BadUnit name fault offset → IsFault bytes fault offset → IsBadUnit ending name bytes
  unit_unheld : ending ≡ NoMemory → IsBadUnit ending name bytes

-- why files of units give no image: one could not be read, or is no unit, or the units make no program
pub data RefusesLink (ending : Ending) (names : List (List ℕ)) (counts : FileCounts) : Type 0 where
  unit_unread : (name : List ℕ) → Among name names → RefusesRead ending name counts → RefusesLink ending names counts
  unit_bad : (name bytes : List ℕ) → Among name names → Holds counts.told name (Some bytes) → IsBadUnit ending name bytes → RefusesLink ending names counts
  units_refused : (no : CoreNo) → ending ≡ ending_of_refusal no → RefusesUnits no → RefusesLink ending names counts

pub data LinksFiles (ending : Ending) (image : List ℕ) (names : List (List ℕ)) (counts : FileCounts) (now : Option FileMap) : Type 0 where
  link_refused : RefusesLink ending names counts → now ≡ counts.told → LinksFiles ending image names counts now
  link_written : Writes ending image IsImageFile counts now → LinksFiles ending image names counts now
