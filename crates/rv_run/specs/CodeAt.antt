-- Code in memory.
use Rattle.std.specs.Prelude.{◌≡◌, ℕ, ◌+◌, ◌^◌, ◌<◌, List, [], ◌∷◌, Option, Some, None, Result, Ok, Err}
use Rattle.guest_mem.specs.Regions.{Region}
use Rattle.guest_mem.specs.Guest.{fetched}
use Rattle.guest_mem.specs.declared.fault.Fault.{Fault}
use Rattle.guest_mem.specs.declared.fault.Fault.TheVariants as fault
use Rattle.rv_isa.specs.declared.inst.Inst.{Inst}
use Rattle.rv_isa.specs.Decoding.{decoded}
use Rattle.rv_run.specs.declared.stop.TrapKind.{TrapKind}
use Rattle.rv_run.specs.declared.stop.TrapKind.TheVariants as trap

-- the word that is fetched at an address is an instruction's
abbrev pub StandsAt : List Region → (at : ℕ) → Inst → Type 0
StandsAt memory at inst = (word : ℕ) × (fetched memory at ≡ Ok word) × (decoded word ≡ Some inst)

-- these instructions stand from an address on, one behind the other
abbrev pub CodeAt : List Region → (at : ℕ) → List Inst → Type 0
CodeAt memory at [] = Unit {0}
CodeAt memory at (inst ∷ code) = StandsAt memory at inst × CodeAt memory (at + 4) code

-- ---- the instruction at an address

abbrev pub spelled_inst : Option Inst → Result Inst TrapKind
spelled_inst None = Err trap.Illegal
spelled_inst (Some inst) = Ok inst

abbrev pub fetched_inst : Result ℕ Fault → Result Inst TrapKind
fetched_inst (Err fault.Misaligned) = Err trap.Misaligned
fetched_inst (Err fault.Outside) = Err trap.Fetch
fetched_inst (Ok word) = spelled_inst (decoded word)

-- the instruction that is found at an address, or why there is none
unfoldable pub instruction_at : List Region → (at : ℕ) → Result Inst TrapKind
instruction_at memory at = fetched_inst (fetched memory at)

-- an instruction that was found at an address is the one there, spelled by a word of 32 bits
abbrev pub IsDecodedAt : List Region → (at : ℕ) → Inst → Type 0
IsDecodedAt memory at inst = (instruction_at memory at ≡ Ok inst) × ((word : ℕ) → fetched memory at ≡ Ok word → word < 2 ^ 32)
