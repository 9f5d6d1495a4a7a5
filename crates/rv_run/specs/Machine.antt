-- The machine: its state, and what the instruction at its pc does to it, one row for each instruction.
-- Read it beside the RISC-V manual: registers, addresses and words are numbers below 2 ^ 32, and every sum is modulo that.
use Rattle.std.specs.Prelude.{◌≡◌, ℕ, ◌+◌, ◌-◌, ◌*◌, ◌%◌, ◌^◌, ◌==◌, nat_lt, nat_le, ◌&&◌, if◌then◌else◌, List, [], length, replicate, slice_index, slice_set, bit_and, bit_or, bit_xor, Bool, not, Option, Some, None, unwrap_or, Result, Ok, Err, ℤ, int_lt}
use Rattle.std.specs.Int.{w32, cast_unsigned}
use Rattle.fsc_base.specs.declared.image.Image.{Image}
use Rattle.guest_mem.specs.Regions.{Region}
use Rattle.guest_mem.specs.Guest.{memory_of, bytes_at, covers, loaded, stored, fetched}
use Rattle.guest_mem.specs.Filling.{with_front}
use Rattle.guest_mem.specs.declared.fault.Fault.{Fault}
use Rattle.guest_mem.specs.declared.fault.Fault.TheVariants as fault
use Rattle.guest_mem.specs.declared.right.Right.TheVariants.{Read, Write}
use Rattle.rv_arith.specs.Arithmetic.{signed, add, sub, sll, srl, sra, slt, sltu, mul, mulh, mulhsu, mulhu, div, divu, rem, remu}
use Rattle.rv_isa.specs.declared.inst.Inst.{Inst}
use Rattle.rv_isa.specs.declared.inst.Inst.TheVariants.{Lui, Auipc, Jal, Jalr, Beq, Bne, Blt, Bge, Bltu, Bgeu, Lb, Lh, Lw, Lbu, Lhu, Sb, Sh, Sw, Addi, Slti, Sltiu, Xori, Ori, Andi, Slli, Srli, Srai, Add, Sub, Sll, Slt, Sltu, Xor, Srl, Sra, Or, And, Mul, Mulh, Mulhsu, Mulhu, Div, Divu, Rem, Remu, Fence, Ecall, Ebreak}
use Rattle.rv_isa.specs.Decoding.{decoded}
use Rattle.rv_run.specs.declared.stop.TrapKind.{TrapKind}
use Rattle.rv_run.specs.declared.stop.TrapKind.TheVariants as trap

pub record State : Type 0 where
  -- x0 to x31
  pub registers : List ℕ
  pub pc : ℕ
  pub memory : List Region
  -- how many marks were run, and how many instructions
  pub marks : ℕ
  pub count : ℕ

-- where the run of an image starts
abbrev pub start_of : Image → State
start_of image = record { registers = replicate 32 0; pc = image.entry; memory = memory_of image; marks = 0; count = 0 }

-- what a register holds
abbrev pub value_of : State → ℕ → ℕ
value_of s r = slice_index s.registers r

-- a register holds this value now; x0 stays zero
abbrev pub with_register : State → (r value : ℕ) → State
with_register s r value = if r == 0 then s else record s { registers = slice_set s.registers r value }

-- the address of the instruction behind this one
abbrev pub following : State → ℕ
following s = (s.pc + 4) % 2 ^ 32

-- the instruction counts as run
abbrev pub counted : State → State
counted s = record s { count = s.count + 1 }

-- the instruction counts as run, and the one behind it is the next
abbrev pub next : State → State
next s = record s { pc = following s; count = s.count + 1 }

-- What an instruction does.
pub data Action : Type 0 where
  -- it writes these bytes, mostly none, and the run goes on from this state
  Goes : List ℕ → State → Action
  -- it takes bytes from the input, as many as there are up to a number, and the run goes on from the state for them
  Takes : ℕ → (List ℕ → State) → Action
  -- it ends the run with this status
  Exits : ℕ → Action
  -- it stops the run with a kind, a block, an offset and a width
  Stops : (kind block offset width : ℕ) → Action
  -- the machine has no row for it
  Traps : TrapKind → Action

-- an instruction that writes nothing
abbrev pub goes : State → Action
goes s = Goes [] s

-- ---- instructions that compute

-- a register becomes a value
abbrev pub gives : (rd value : ℕ) → State → Action
gives rd value s = goes (next (with_register s rd value))

-- the bits of an immediate
abbrev pub bits_of : ℤ → ℕ
bits_of imm = cast_unsigned w32 imm

-- the sum of a register and an immediate
abbrev pub sum_of : State → ℕ → ℤ → ℕ
sum_of s r imm = (value_of s r + bits_of imm) % 2 ^ 32

-- an immediate of format U, which stands for the upper bits
abbrev pub upper_of : ℤ → ℕ
upper_of imm = bits_of imm * 2 ^ 12

-- ADDI with x0 twice and 1 is the mark, which changes nothing but the pc and the two counts
abbrev pub is_mark : (rd rs1 : ℕ) (imm : ℤ) → Bool
is_mark rd rs1 imm = (rd == 0) && ((rs1 == 0) && (bits_of imm == 1))

abbrev pub with_mark : Bool → State → State
with_mark is_one s = if is_one then record s { marks = s.marks + 1 } else s

abbrev pub addi : (rd rs1 : ℕ) (imm : ℤ) → State → Action
addi rd rs1 imm s = goes (next (with_mark (is_mark rd rs1 imm) (with_register s rd (sum_of s rs1 imm))))

-- ---- instructions that jump

-- the next instruction is at the target, which has to be a multiple of 4
abbrev pub arrives : (target : ℕ) → State → Action
arrives target s = if target % 4 == 0 then goes (record s { pc = target; count = s.count + 1 }) else Traps trap.Misaligned

-- so many bytes from the pc
abbrev pub offset_by : State → ℤ → ℕ
offset_by s imm = (s.pc + bits_of imm) % 2 ^ 32

-- the register becomes the address behind the instruction
abbrev pub links : (rd target : ℕ) → State → Action
links rd target s = arrives target (with_register s rd (following s))

-- with the lowest bit cleared
abbrev pub even_of : ℕ → ℕ
even_of n = n - n % 2

abbrev pub branches : Bool → ℤ → State → Action
branches taken imm s = if taken then arrives (offset_by s imm) s else goes (next s)

-- ---- instructions that load and store

-- the word of a value of so many bits, read as signed
abbrev pub sign_extended : (width value : ℕ) → ℕ
sign_extended width value = if nat_lt value (2 ^ (width - 1)) then value else value + (2 ^ 32 - 2 ^ width)

-- the trap of a refused load, and of a refused store
abbrev pub load_trap : Fault → TrapKind
load_trap fault.Misaligned = trap.Misaligned
load_trap fault.Outside = trap.Load

abbrev pub store_trap : Fault → TrapKind
store_trap fault.Misaligned = trap.Misaligned
store_trap fault.Outside = trap.Store

-- a register becomes what a load gave, or the load was refused
abbrev pub got : (rd : ℕ) → (ℕ → ℕ) → State → Result ℕ Fault → Action
got rd extended s (Ok value) = gives rd (extended value) s
got rd extended s (Err why) = Traps (load_trap why)

abbrev pub loads : (width rd rs1 : ℕ) (imm : ℤ) → (ℕ → ℕ) → State → Action
loads width rd rs1 imm extended s = got rd extended s (loaded width s.memory (sum_of s rs1 imm))

-- memory becomes what a store left, or the store was refused
abbrev pub put : State → Result (List Region) Fault → Action
put s (Ok memory) = goes (next (record s { memory = memory }))
put s (Err why) = Traps (store_trap why)

abbrev pub stores : (width rs1 : ℕ) (imm : ℤ) (value : ℕ) → State → Action
stores width rs1 imm value s = put s (stored width s.memory (sum_of s rs1 imm) value)

-- ---- environment calls, by the number in x17

-- 63: fills x12 bytes at x11 from stream 0, until they are full or the input ends; x10 becomes how many came. Those that
-- are not reached stay.
abbrev pub with_filled : State → List ℕ → State
with_filled s bytes = record s { memory = unwrap_or (with_front s.memory (value_of s 11) (value_of s 12) bytes) s.memory }

abbrev pub filled : State → List ℕ → State
filled s bytes = next (with_register (with_filled s bytes) 10 (length bytes))

abbrev pub read_call : State → Action
read_call s =
    if value_of s 10 == 0
    then (if covers s.memory Write (value_of s 11) (value_of s 12) then Takes (value_of s 12) (filled s) else Traps trap.Store)
    else Traps trap.Call

-- 64: writes the x12 bytes at x11 to stream 1; x10 becomes x12
abbrev pub written : State → Option (List ℕ) → Action
written s None = Traps trap.Load
written s (Some bytes) = Goes bytes (next (with_register s 10 (value_of s 12)))

abbrev pub write_call : State → Action
write_call s =
    if value_of s 10 == 1 then written s (bytes_at s.memory Read (value_of s 11) (value_of s 12)) else Traps trap.Call

-- 93: exits with the low 8 bits of x10
abbrev pub exit_call : State → Action
exit_call s = Exits (value_of s 10 % 2 ^ 8)

-- 4000: stops with the kind in x10, from 1 to 7, and a block, an offset and a width in x11 to x13
abbrev pub stop_call : State → Action
stop_call s =
    if nat_le 1 (value_of s 10) && nat_le (value_of s 10) 7
    then Stops (value_of s 10) (value_of s 11) (value_of s 12) (value_of s 13)
    else Traps trap.Call

abbrev pub ecall : State → Action
ecall s =
    if value_of s 17 == 63 then read_call s
    else if value_of s 17 == 64 then write_call s
    else if value_of s 17 == 93 then exit_call s
    else if value_of s 17 == 4000 then stop_call s
    else Traps trap.Call

-- ---- the rows

unfoldable pub row : Inst → State → Action
row (Lui rd imm) s = gives rd (upper_of imm) s
row (Auipc rd imm) s = gives rd (add s.pc (upper_of imm)) s
row (Jal rd imm) s = links rd (offset_by s imm) s
row (Jalr rd rs1 imm) s = links rd (even_of (sum_of s rs1 imm)) s
row (Beq rs1 rs2 imm) s = branches (value_of s rs1 == value_of s rs2) imm s
row (Bne rs1 rs2 imm) s = branches (not (value_of s rs1 == value_of s rs2)) imm s
row (Blt rs1 rs2 imm) s = branches (int_lt (signed (value_of s rs1)) (signed (value_of s rs2))) imm s
row (Bge rs1 rs2 imm) s = branches (not (int_lt (signed (value_of s rs1)) (signed (value_of s rs2)))) imm s
row (Bltu rs1 rs2 imm) s = branches (nat_lt (value_of s rs1) (value_of s rs2)) imm s
row (Bgeu rs1 rs2 imm) s = branches (nat_le (value_of s rs2) (value_of s rs1)) imm s
row (Lb rd rs1 imm) s = loads 1 rd rs1 imm (sign_extended 8) s
row (Lh rd rs1 imm) s = loads 2 rd rs1 imm (sign_extended 16) s
row (Lw rd rs1 imm) s = loads 4 rd rs1 imm (λ value. value) s
row (Lbu rd rs1 imm) s = loads 1 rd rs1 imm (λ value. value) s
row (Lhu rd rs1 imm) s = loads 2 rd rs1 imm (λ value. value) s
row (Sb rs1 rs2 imm) s = stores 1 rs1 imm (value_of s rs2 % 2 ^ 8) s
row (Sh rs1 rs2 imm) s = stores 2 rs1 imm (value_of s rs2 % 2 ^ 16) s
row (Sw rs1 rs2 imm) s = stores 4 rs1 imm (value_of s rs2) s
row (Addi rd rs1 imm) s = addi rd rs1 imm s
row (Slti rd rs1 imm) s = gives rd (slt (value_of s rs1) (bits_of imm)) s
row (Sltiu rd rs1 imm) s = gives rd (sltu (value_of s rs1) (bits_of imm)) s
row (Xori rd rs1 imm) s = gives rd (bit_xor (value_of s rs1) (bits_of imm)) s
row (Ori rd rs1 imm) s = gives rd (bit_or (value_of s rs1) (bits_of imm)) s
row (Andi rd rs1 imm) s = gives rd (bit_and (value_of s rs1) (bits_of imm)) s
row (Slli rd rs1 imm) s = gives rd (sll (value_of s rs1) (bits_of imm)) s
row (Srli rd rs1 imm) s = gives rd (srl (value_of s rs1) (bits_of imm)) s
row (Srai rd rs1 imm) s = gives rd (sra (value_of s rs1) (bits_of imm)) s
row (Add rd rs1 rs2) s = gives rd (add (value_of s rs1) (value_of s rs2)) s
row (Sub rd rs1 rs2) s = gives rd (sub (value_of s rs1) (value_of s rs2)) s
row (Sll rd rs1 rs2) s = gives rd (sll (value_of s rs1) (value_of s rs2)) s
row (Slt rd rs1 rs2) s = gives rd (slt (value_of s rs1) (value_of s rs2)) s
row (Sltu rd rs1 rs2) s = gives rd (sltu (value_of s rs1) (value_of s rs2)) s
row (Xor rd rs1 rs2) s = gives rd (bit_xor (value_of s rs1) (value_of s rs2)) s
row (Srl rd rs1 rs2) s = gives rd (srl (value_of s rs1) (value_of s rs2)) s
row (Sra rd rs1 rs2) s = gives rd (sra (value_of s rs1) (value_of s rs2)) s
row (Or rd rs1 rs2) s = gives rd (bit_or (value_of s rs1) (value_of s rs2)) s
row (And rd rs1 rs2) s = gives rd (bit_and (value_of s rs1) (value_of s rs2)) s
row (Mul rd rs1 rs2) s = gives rd (mul (value_of s rs1) (value_of s rs2)) s
row (Mulh rd rs1 rs2) s = gives rd (mulh (value_of s rs1) (value_of s rs2)) s
row (Mulhsu rd rs1 rs2) s = gives rd (mulhsu (value_of s rs1) (value_of s rs2)) s
row (Mulhu rd rs1 rs2) s = gives rd (mulhu (value_of s rs1) (value_of s rs2)) s
row (Div rd rs1 rs2) s = gives rd (div (value_of s rs1) (value_of s rs2)) s
row (Divu rd rs1 rs2) s = gives rd (divu (value_of s rs1) (value_of s rs2)) s
row (Rem rd rs1 rs2) s = gives rd (rem (value_of s rs1) (value_of s rs2)) s
row (Remu rd rs1 rs2) s = gives rd (remu (value_of s rs1) (value_of s rs2)) s
row (Fence rd rs1 imm) s = goes (next s)
row Ecall s = ecall s
row Ebreak s = Traps trap.Break

-- the row of the instruction that a word spells
abbrev pub spelled : State → Option Inst → Action
spelled s None = Traps trap.Illegal
spelled s (Some inst) = row inst s

-- the word at the pc
abbrev pub fetched_word : State → Result ℕ Fault → Action
fetched_word s (Err fault.Misaligned) = Traps trap.Misaligned
fetched_word s (Err fault.Outside) = Traps trap.Fetch
fetched_word s (Ok word) = spelled s (decoded word)

-- what the machine does next
unfoldable pub action_of : State → Action
action_of s = fetched_word s (fetched s.memory s.pc)

-- a word, where the load of it is not refused
abbrev pub WordIs : Result ℕ Fault → Option ℕ → Type 0
WordIs (Ok word) answer = answer ≡ Some word
WordIs (Err fault) answer = answer ≡ None
