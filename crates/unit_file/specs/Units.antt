-- Whole files: what reading gives, and why it refuses.
use Rattle.std.specs.Prelude.{◌≡◌, ℕ, ◌^◌, ◌<◌, ◌⊎◌, List, [], ◌∷◌, ◌++◌, length, take, slice_index, Some, Result, Ok, Err}
use Rattle.fat_code.specs.declared.fault.CheckNo.{CheckNo}
use Rattle.fat_code.specs.declared.fault.CheckNo.TheVariants.{Fault, NoMemory}
use Rattle.fat_code.specs.declared.fault.UnitFault.{UnitFault}
use Rattle.fat_code.specs.declared.fault.UnitFault.TheVariants as fault
use Rattle.fat_code.specs.declared.fault.Version.{Version}
use Rattle.fat_code.specs.declared.fault.Version.TheVariants.{One, Two}
use Rattle.fat_code.specs.declared.unit.FatParts.{FatParts}
use Rattle.fat_code.specs.Faults.{fault_of}
use Rattle.unit_file.specs.declared.refusal.ReadUnitNo.{ReadUnitNo}
use Rattle.unit_file.specs.declared.refusal.ReadUnitNo.TheVariants.{Bad, NoMemory as Full}
use Rattle.unit_file.specs.Reading.{IsWrongTag}
use Rattle.unit_file.specs.Spelling.{opening, spelled_unit}

-- ---- the first four bytes

abbrev pub IsVersion : Version → (byte : ℕ) → Type 0
IsVersion One byte = byte ≡ 49
IsVersion Two byte = byte ≡ 50

abbrev pub IsOpened : Version → List ℕ → Type 0
IsOpened version file = take 4 file ≡ opening version

-- ---- causes

-- other letters than FSU, or another version
abbrev pub IsOtherMagic : List ℕ → (offset : ℕ) → Type 0
IsOtherMagic file offset = (offset ≡ 0) × (take 3 file ≡ 70 ∷ 83 ∷ 85 ∷ [] → ⊥)

abbrev pub IsOtherVersion : List ℕ → (offset : ℕ) → Type 0
IsOtherVersion file offset = (offset ≡ 3) × ((version : Version) → IsVersion version (slice_index file 3) → ⊥)

-- bytes behind a unit
pub record IsTrailing (file : List ℕ) (offset : ℕ) : Type 0 where
  pub version : Version
  pub unit : FatParts
  pub rest : List ℕ
  pub bytes : file ≡ spelled_unit version unit ++ rest
  pub place : offset ≡ length (spelled_unit version unit)
  pub some : 0 < length rest

-- the parts of a unit, with a fault
pub record IsFaulty (file : List ℕ) (fault : UnitFault) (offset : ℕ) : Type 0 where
  pub version : Version
  pub unit : FatParts
  pub told : Version
  pub bytes : file ≡ spelled_unit version unit
  pub first : fault_of told unit ≡ Some (fault, offset)

-- what the bytes alone show, while they are read
abbrev pub IsBytesFault : List ℕ → UnitFault → (offset : ℕ) → Type 0
IsBytesFault file fault.Short offset = offset ≡ length file
IsBytesFault file fault.Tag offset = IsWrongTag file offset
IsBytesFault file fault.Magic offset = IsOtherMagic file offset
IsBytesFault file fault.Version offset = IsOtherVersion file offset
IsBytesFault file fault.Trailing offset = IsTrailing file offset
IsBytesFault file fault.Limit offset = (2 ^ 28 < length file) × (offset ≡ 0)
IsBytesFault file fault.Index offset = ⊥
IsBytesFault file fault.Height offset = ⊥

-- and what the parts show that they spell
abbrev pub IsFault : List ℕ → UnitFault → (offset : ℕ) → Type 0
IsFault file fault offset = IsBytesFault file fault offset ⊎ IsFaulty file fault offset

-- ---- what is given

abbrev pub IsBytesNo : List ℕ → CheckNo → Type 0
IsBytesNo file (Fault fault offset) = IsBytesFault file fault offset
IsBytesNo file NoMemory = Unit {0}

abbrev pub IsFileNo : List ℕ → CheckNo → Type 0
IsFileNo file (Fault fault offset) = IsFault file fault offset
IsFileNo file NoMemory = Unit {0}

abbrev pub ReadsVersion : List ℕ → Result Version CheckNo → Type 0
ReadsVersion file (Ok version) = IsOpened version file
ReadsVersion file (Err refusal) = IsBytesNo file refusal

abbrev pub ReadsWhole : Version → List ℕ → Result FatParts CheckNo → Type 0
ReadsWhole version file (Ok unit) = file ≡ spelled_unit version unit
ReadsWhole version file (Err refusal) = IsBytesNo file refusal

-- the first fault of parts, told as in a file of their version, or as in one of version 2
abbrev pub IsPartsNo : Version → FatParts → CheckNo → Type 0
IsPartsNo version unit (Fault fault offset) = (fault_of version unit ≡ Some (fault, offset)) ⊎ (fault_of Two unit ≡ Some (fault, offset))
IsPartsNo version unit NoMemory = Unit {0}

abbrev pub IsChecked : Version → FatParts → Result FatParts CheckNo → Type 0
IsChecked version parts (Ok unit) = unit ≡ parts
IsChecked version parts (Err refusal) = IsPartsNo version parts refusal

-- a unit and the version in which its file spells it
pub record IsFile (file : List ℕ) (unit : FatParts) : Type 0 where
  pub version : Version
  pub bytes : file ≡ spelled_unit version unit

abbrev pub ReadsFile : List ℕ → Result FatParts CheckNo → Type 0
ReadsFile file (Ok unit) = IsFile file unit
ReadsFile file (Err refusal) = IsFileNo file refusal

abbrev pub ReadsUnit : List ℕ → Result FatParts ReadUnitNo → Type 0
ReadsUnit file (Ok unit) = IsFile file unit
ReadsUnit file (Err (Bad fault offset)) = IsFault file fault offset
ReadsUnit file (Err Full) = Unit {0}

-- the same refusal, or want of memory
abbrev pub IsRefusal : CheckNo → ReadUnitNo → Type 0
IsRefusal stop Full = Unit {0}
IsRefusal (Fault fault offset) (Bad found place) = (fault ≡ found) × (offset ≡ place)
IsRefusal NoMemory (Bad found place) = ⊥
