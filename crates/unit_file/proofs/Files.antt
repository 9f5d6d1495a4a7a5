-- Whole files.
use Rattle.std.proofs.Common.{◌≡◌, List, ℕ, Result, Ok, Err, subst, sym, inl, inr}
use Rattle.fat_code.specs.declared.fault.CheckNo.{CheckNo}
use Rattle.fat_code.specs.declared.fault.CheckNo.TheVariants.{Fault, NoMemory}
use Rattle.fat_code.specs.declared.fault.Version.{Version}
use Rattle.fat_code.specs.declared.fault.Version.TheVariants.{Two}
use Rattle.fat_code.specs.declared.unit.FatParts.{FatParts}
use Rattle.unit_file.specs.Spelling.{spelled_unit}
use Rattle.unit_file.specs.Units.{IsBytesNo, IsFileNo, IsChecked, ReadsFile}

pub bytes_refused : (file : List ℕ) (refusal : CheckNo) → IsBytesNo file refusal → IsFileNo file refusal
bytes_refused file (Fault fault offset) is = inl is
bytes_refused file NoMemory is = tt

pub file_checked : (file : List ℕ) (version : Version) (parts : FatParts) (result : Result FatParts CheckNo) → file ≡ spelled_unit version parts
    → IsChecked version parts result → ReadsFile file result
file_checked file version parts (Ok unit) bytes is = record { version = version; bytes = subst (λ (x : FatParts). file ≡ spelled_unit version x) (sym is) bytes }
file_checked file version parts (Err NoMemory) bytes is = tt
file_checked file version parts (Err (Fault fault offset)) bytes (inl first) = inr (record { version = version; unit = parts; told = version; bytes = bytes; first = first })
file_checked file version parts (Err (Fault fault offset)) bytes (inr first) = inr (record { version = version; unit = parts; told = Two; bytes = bytes; first = first })
