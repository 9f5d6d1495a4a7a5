-- What readers give: what is spelled there, or why it is none.
use Rattle.std.specs.Prelude.{◌≡◌, ℕ, ◌+◌, ◌≤◌, List, ◌++◌, length, drop, Option, Some, None, Result, Ok, Err}
use Rattle.byteorder.specs.Endian.{little_number}
use Rattle.fat_code.specs.declared.fault.UnitFault.{UnitFault}
use Rattle.fat_code.specs.declared.fault.UnitFault.TheVariants as fault
use Rattle.unit_file.specs.declared.number.Found.{Found}
use Rattle.fat_code.specs.declared.fault.CheckNo.{CheckNo}
use Rattle.fat_code.specs.declared.fault.CheckNo.TheVariants.{Fault, NoMemory}

-- a tag at an offset is none of its values: the number there is not 1, which is a value of each tag
pub record IsWrongTag (file : List ℕ) (offset : ℕ) : Type 0 where
  pub inside : offset + 4 ≤ length file
  pub wrong : little_number 4 (drop offset file) ≡ 1 → ⊥

-- what can be wrong before the whole file is read: it ends too early, or has a wrong tag
abbrev pub IsReadFault : List ℕ → UnitFault → (offset : ℕ) → Type 0
IsReadFault file fault.Short offset = offset ≡ length file
IsReadFault file fault.Tag offset = IsWrongTag file offset
IsReadFault file _ offset = ⊥

abbrev pub IsReadNo : List ℕ → CheckNo → Type 0
IsReadNo file (Fault fault offset) = IsReadFault file fault offset
IsReadNo file NoMemory = Unit {0}

-- a value is spelled at an offset, and the next one stands behind it
pub record IsRead {T : Type 0} (spelled : T → List ℕ) (file : List ℕ) (at : ℕ) (found : Found T) : Type 0 where
  pub bytes : drop at file ≡ spelled found.value ++ drop found.behind file
  pub within : found.behind ≤ length file

abbrev pub Reads : {T : Type 0} → (spelled : T → List ℕ) → (file : List ℕ) → (at : ℕ) → Result (Found T) CheckNo → Type 0
Reads spelled file at (Ok found) = IsRead spelled file at found
Reads spelled file at (Err refusal) = IsReadNo file refusal

-- a tag that means this, or nothing
abbrev pub Tells : {T : Type 0} → Option T → (at behind : ℕ) → Result (Found T) CheckNo → Type 0
Tells value at behind (Ok found) = (value ≡ Some found.value) × (found.behind ≡ behind)
Tells value at behind (Err refusal) = (value ≡ None) × (refusal ≡ Fault fault.Tag at)

-- what is known of a number besides: the file has its 4 bytes
pub record IsNumber (file : List ℕ) (at : ℕ) (found : Found ℕ) : Type 0 where
  pub inside : at + 4 ≤ length file
  pub value : found.value ≡ little_number 4 (drop at file)
  pub behind : found.behind ≡ at + 4

-- what stands in front of an offset is the value's too, as its tag is
pub record IsReadBehind {T : Type 0} (front : List ℕ) (spelled : T → List ℕ) (file : List ℕ) (at : ℕ) (found : Found T) : Type 0 where
  pub bytes : front ++ drop at file ≡ spelled found.value ++ drop found.behind file
  pub within : found.behind ≤ length file

abbrev pub ReadsBehind : {T : Type 0} → (front : List ℕ) → (spelled : T → List ℕ) → (file : List ℕ) → (at : ℕ) → Result (Found T) CheckNo → Type 0
ReadsBehind front spelled file at (Ok found) = IsReadBehind front spelled file at found
ReadsBehind front spelled file at (Err refusal) = IsReadNo file refusal

-- the tag at an offset
pub record IsTag (file : List ℕ) (at tag : ℕ) : Type 0 where
  pub inside : at + 4 ≤ length file
  pub value : tag ≡ little_number 4 (drop at file)
