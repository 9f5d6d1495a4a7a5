-- What an instruction changes that goes on: at most one register, the pc, at most one piece of memory, and the counts.
use Rattle.std.proofs.Common.{◌≡◌, ℕ, zero, suc, ◌+◌, ◌-◌, ◌*◌, ◌%◌, ◌^◌, ◌<◌, ◌≤◌, ◌⊎◌, inl, inr, Bool, true, false, not, cond, eqb, List, [], ◌++◌, set, length, get_or, drop, Option, Some, None, Result, Ok, Err, ℤ, All, refl, sym, ap, subst, ◌∙◌, arith}
use Rattle.std.specs.Prelude.{pos, negsuc, ◌≤ℤ◌, ◌<ℤ◌, int_lt, nat_lt, nat_le, bit_and, bit_or, bit_xor, unwrap_or, ◌==◌, ◌&&◌}
use Rattle.std.proofs.lemmas.Bool.{cases_Bool, cases_lt, lt-ltb, le-ltb, ne_eqb}
use Rattle.std.proofs.lemmas.Int.{ints}
use Rattle.std.proofs.lemmas.Nat.{or_lt, xor_lt}
use Rattle.std.specs.Int.Bits.{and_lt}
use Rattle.std.proofs.lemmas.List.Elements.{All-get_or, All-append, All-drop}
use Rattle.std.proofs.Math.ListN.{get_or-eq_default}
use Rattle.guest_mem.specs.Regions.{Region}
use Rattle.guest_mem.specs.Layout.{AreBytes, HoldBytes}
use Rattle.guest_mem.specs.Filling.{with_front, front_over, over_front}
use Rattle.guest_mem.specs.Guest.{loaded, stored, fetched, covers, bytes_at, with_bytes, little_endian_bytes}
use Rattle.guest_mem.specs.declared.fault.Fault.{Fault}
use Rattle.guest_mem.specs.declared.fault.Fault.TheVariants as fault
use Rattle.guest_mem.specs.declared.right.Right.TheVariants.{Execute, Read, Write}
use Rattle.guest_mem.proofs.Accesses.{loaded-lt, fetched-Ok, stored-Ok}
use Rattle.guest_mem.proofs.Changes.{length-bytes_at, AreBytes-bytes_at}
use Rattle.guest_mem.proofs.LittleEndian.{AreBytes-little_endian_bytes, little_endian-lt}
use Rattle.rv_arith.specs.Arithmetic.{signed, add, sub, sll, srl, sra, slt, sltu, mul, mulh, mulhsu, mulhu, div, divu, rem, remu}
use Rattle.rv_arith.proofs.Results.{add_lt, sub_lt, sll_lt, srl_lt, sra_lt, slt_lt, sltu_lt, mul_lt, mulh_lt, mulhsu_lt, mulhu_lt, div_lt, divu_lt, rem_lt, remu_lt}
use Rattle.rv_isa.specs.declared.inst.Inst.{Inst}
use Rattle.rv_isa.specs.declared.inst.Inst.TheVariants.{Lui, Auipc, Jal, Jalr, Beq, Bne, Blt, Bge, Bltu, Bgeu, Lb, Lh, Lw, Lbu, Lhu, Sb, Sh, Sw, Addi, Slti, Sltiu, Xori, Ori, Andi, Slli, Srli, Srai, Add, Sub, Sll, Slt, Sltu, Xor, Srl, Sra, Or, And, Mul, Mulh, Mulhsu, Mulhu, Div, Divu, Rem, Remu, Fence, Ecall, Ebreak}
use Rattle.rv_isa.specs.Decoding.{decoded}
use Rattle.rv_isa.specs.Encoding.{IsValid, IsSigned12, IsUnsigned20}
use Rattle.rv_isa.proofs.Tables.{decoded_is}
use Rattle.rv_run.specs.declared.stop.TrapKind.TheVariants as trap
use Rattle.rv_run.specs.Machine
use Rattle.rv_run.specs.Machine.{State, Action, Goes, Takes, Exits, Stops, Traps, action_of, row, spelled, fetched_word, value_of, bits_of, sum_of, upper_of, offset_by, even_of, following, with_register, with_mark, is_mark, with_filled, filled, gives, goes, addi, arrives, links, branches, loads, got, put, stores, load_trap, store_trap, sign_extended, read_call, write_call, exit_call, stop_call, ecall, written}

-- registers and memory are in their ranges, and so is what was taken from the input
pub record InRanges (s : State) (taken : List ℕ) : Type 0 where
  pub words : All (λ value. value < 2 ^ 32) s.registers
  pub bytes : HoldBytes s.memory
  pub input : AreBytes taken

-- at most one register becomes another value, and never x0
abbrev pub ChangesRegister : (fits : Type 0) (old new : List ℕ) → Type 0
ChangesRegister fits old new = (new ≡ old) ⊎ ((r : ℕ) × (value : ℕ) × (0 < r) × (fits → value < 2 ^ 32) × (new ≡ set old r value))

-- at most one piece of memory becomes other bytes
abbrev pub ChangesMemory : (fits : Type 0) (old new : List Region) → Type 0
ChangesMemory fits old new = (new ≡ old) ⊎ ((at : ℕ) × (bytes : List ℕ) × (fits → AreBytes bytes) × (with_bytes old at bytes ≡ Some new))

abbrev pub ChangesMarks : (old new : ℕ) → Type 0
ChangesMarks old new = (new ≡ old) ⊎ (new ≡ old + 1)

pub record Moved (taken : List ℕ) (s t : State) : Type 0 where
  pub register : ChangesRegister (InRanges s taken) s.registers t.registers
  pub memory : ChangesMemory (InRanges s taken) s.memory t.memory
  pub pc : t.pc < 2 ^ 32
  pub marks : ChangesMarks s.marks t.marks
  pub count : t.count ≡ s.count + 1

-- an action, if it goes on
abbrev pub Moves : State → Action → Type 0
Moves s (Goes bytes t) = Moved [] s t
Moves s (Takes n f) = (taken : List ℕ) → length taken ≤ n → Moved taken s (f taken)
Moves s (Exits status) = Unit {0}
Moves s (Stops kind block offset width) = Unit {0}
Moves s (Traps kind) = Unit {0}

-- ---- ranges

pub word : (s : State) {taken : List ℕ} → InRanges s taken → (r : ℕ) → value_of s r < 2 ^ 32
word s h r =
    elim (cases_lt r (length s.registers)) [
      | inl within ↦ All-get_or (λ value. value < 2 ^ 32) s.registers r 0 within h.words
      | inr past ↦ rw (get_or-eq_default s.registers 0 past) (omega arith)
    ]

upper_lt : (imm : ℤ) → IsUnsigned20 imm → upper_of imm < 2 ^ 32
upper_lt (pos n) h = omega (arith, ints)
upper_lt (negsuc n) h = absurd (omega (arith, ints))

immediate_lt : (imm : ℤ) → IsSigned12 imm → bits_of imm < 2 ^ 32
immediate_lt (pos n) h = omega (arith, ints)
immediate_lt (negsuc n) h = omega (arith, ints)

extended_lt : (width value : ℕ) → 2 ^ width ≤ 2 ^ 32 → value < 2 ^ width → sign_extended width value < 2 ^ 32
extended_lt width value narrow h =
    elim (cases_lt value (2 ^ (width - 1))) [
      | inl below ↦ let e = lt-ltb value (2 ^ (width - 1)) below in rw e (omega arith)
      | inr above ↦ let e = le-ltb value (2 ^ (width - 1)) above in rw e (omega arith)
    ]

byte_lt : (value : ℕ) → value < 256 ^ 1 → sign_extended 8 value < 2 ^ 32
byte_lt value h = extended_lt 8 value (omega arith) (omega arith)

half_lt : (value : ℕ) → value < 256 ^ 2 → sign_extended 16 value < 2 ^ 32
half_lt value h = extended_lt 16 value (omega arith) (omega arith)

fetched_lt : (regions : List Region) (at word : ℕ) → HoldBytes regions → fetched regions at ≡ Ok word → word < 2 ^ 32
fetched_lt regions at word held h =
    let read = fetched-Ok regions at word h in
    let n = length-bytes_at regions Execute at 4 read.1.0 read.1.1 in
    let below = little_endian-lt read.1.0 (AreBytes-bytes_at regions Execute at 4 read.1.0 read.1.1 held) in
    subst (λ (w : ℕ). word < 256 ^ w) n (subst (λ (v : ℕ). v < 256 ^ length read.1.0) (sym read.1.2) below)

-- ---- registers, the pc and marks

choice_moves : (s : State) (b : Bool) (x y : Action) → Moves s x → Moves s y → Moves s (cond b x y)
choice_moves s true x y hx hy = hx
choice_moves s false x y hx hy = hy

-- a register is set, or x0 is not; what stands beside it stays
pub record SetsRegister (fits : Type 0) (s t : State) : Type 0 where
  pub register : ChangesRegister fits s.registers t.registers
  pub pc : t.pc ≡ s.pc
  pub memory : t.memory ≡ s.memory
  pub marks : t.marks ≡ s.marks
  pub count : t.count ≡ s.count

pub sets : (fits : Type 0) (s : State) (r value : ℕ) → (fits → value < 2 ^ 32) → SetsRegister fits s (with_register s r value)
sets fits s zero value h = record { register = inl refl; pc = refl; memory = refl; marks = refl; count = refl }
sets fits s (suc r) value h =
    let named : eqb (suc r) 0 ≡ false = ne_eqb (suc r) 0 (λ (e : suc r ≡ 0). absurd (omega arith)) in
    rw named (record { register = inr (suc r, value, omega arith, h, refl); pc = refl; memory = refl; marks = refl; count = refl })

falls_through : (s : State) → Moved [] s (Machine.next s)
falls_through s = record { register = inl refl; memory = inl refl; pc = omega arith; marks = inl refl; count = refl }

gives_moves : (rd value : ℕ) (s : State) → (InRanges s [] → value < 2 ^ 32) → Moves s (gives rd value s)
gives_moves rd value s h =
    let done = sets (InRanges s []) s rd value h in
    record { register = done.register; memory = inl done.memory; pc = omega arith; marks = inl done.marks; count = ap (λ (n : ℕ). n + 1) done.count }

marks_once : (b : Bool) (s : State) → ChangesMarks s.marks (with_mark b s).marks
marks_once true s = inr refl
marks_once false s = inl refl

with_mark_beside : (b : Bool) (s : State) → ((with_mark b s).registers ≡ s.registers) × ((with_mark b s).memory ≡ s.memory) × ((with_mark b s).count ≡ s.count)
with_mark_beside true s = (refl, refl, refl)
with_mark_beside false s = (refl, refl, refl)

addi_moves : (rd rs1 : ℕ) (imm : ℤ) (s : State) → Moves s (addi rd rs1 imm s)
addi_moves rd rs1 imm s =
    let done = sets (InRanges s []) s rd (sum_of s rs1 imm) (λ r. omega arith) in
    let b = is_mark rd rs1 imm in
    let t = with_register s rd (sum_of s rs1 imm) in
    let kept = with_mark_beside b t in
    record {
      register = subst (λ (l : List ℕ). ChangesRegister (InRanges s []) s.registers l) (sym kept.0) done.register;
      memory = inl (kept.1 ∙ done.memory);
      pc = omega arith;
      marks = subst (λ (n : ℕ). ChangesMarks n (with_mark b t).marks) done.marks (marks_once b t);
      count = ap (λ (n : ℕ). n + 1) (kept.2 ∙ done.count);
    }

-- ---- jumps

arrives_moves : (target : ℕ) (s : State) → target < 2 ^ 32 → Moves s (arrives target s)
arrives_moves target s below =
    choice_moves s (eqb (target % 4) 0) (goes (record s { pc = target; count = s.count + 1 })) (Traps trap.Misaligned)
    (record { register = inl refl; memory = inl refl; pc = below; marks = inl refl; count = refl }) tt

links_moves : (rd target : ℕ) (s : State) → target < 2 ^ 32 → Moves s (links rd target s)
links_moves rd target s below =
    let t = with_register s rd (following s) in
    let done = sets (InRanges s []) s rd (following s) (λ r. omega arith) in
    choice_moves s (eqb (target % 4) 0) (goes (record t { pc = target; count = t.count + 1 })) (Traps trap.Misaligned)
    (record { register = done.register; memory = inl done.memory; pc = below; marks = inl done.marks; count = ap (λ (n : ℕ). n + 1) done.count }) tt

branches_moves : (taken : Bool) (imm : ℤ) (s : State) → Moves s (branches taken imm s)
branches_moves taken imm s =
    choice_moves s taken (arrives (offset_by s imm) s) (goes (Machine.next s)) (arrives_moves (offset_by s imm) s (omega arith)) (falls_through s)

-- ---- loads and stores

got_moves : (width rd : ℕ) (extended : ℕ → ℕ) (s : State) (value : Result ℕ Fault) → ((n : ℕ) → value ≡ Ok n → InRanges s [] → extended n < 2 ^ 32) → Moves s (got rd extended s value)
got_moves width rd extended s (Ok value) h = gives_moves rd (extended value) s (h value refl)
got_moves width rd extended s (Err why) h = tt

loads_moves : (width rd rs1 : ℕ) (imm : ℤ) (extended : ℕ → ℕ) (s : State) → ((value : ℕ) → value < 256 ^ width → extended value < 2 ^ 32) → Moves s (loads width rd rs1 imm extended s)
loads_moves width rd rs1 imm extended s fits =
    got_moves width rd extended s (loaded width s.memory (sum_of s rs1 imm)) (λ value is r. fits value (loaded-lt width s.memory (sum_of s rs1 imm) value r.bytes is))

put_moves : (s : State) (memory : Result (List Region) Fault) → ((new : List Region) → memory ≡ Ok new → ChangesMemory (InRanges s []) s.memory new) → Moves s (put s memory)
put_moves s (Ok memory) h = record { register = inl refl; memory = h memory refl; pc = omega arith; marks = inl refl; count = refl }
put_moves s (Err why) h = tt

stores_moves : (width rs1 : ℕ) (imm : ℤ) (value : ℕ) (s : State) → Moves s (stores width rs1 imm value s)
stores_moves width rs1 imm value s =
    let at = sum_of s rs1 imm in
    put_moves s (stored width s.memory at value) (λ new is.
    inr (at, little_endian_bytes width value, λ r. AreBytes-little_endian_bytes width value, (stored-Ok width s.memory at value new is).1))

-- ---- environment calls

put_over : (s : State) (at : ℕ) (taken bytes : List ℕ) (new : Option (List Region)) → with_bytes s.memory at bytes ≡ new → (InRanges s taken → AreBytes bytes)
    → ChangesMemory (InRanges s taken) s.memory (unwrap_or new s.memory)
put_over s at taken bytes None is fits = inl refl
put_over s at taken bytes (Some new) is fits = inr (at, bytes, fits, is)

front_put : (s : State) (at : ℕ) (taken : List ℕ) (all : Option (List ℕ)) → ((old : List ℕ) → all ≡ Some old → HoldBytes s.memory → AreBytes old)
    → ChangesMemory (InRanges s taken) s.memory (unwrap_or (front_over s.memory at taken all) s.memory)
front_put s at taken None held = inl refl
front_put s at taken (Some all) held =
    let bytes : List ℕ = over_front taken all in
    put_over s at taken bytes (with_bytes s.memory at bytes) refl (λ r.
    let byte : ℕ → Type 0 = λ n. n < 256 in
    All-append byte taken (drop (length taken) all) r.input (All-drop byte (length taken) all (held all refl r.bytes)))

filled_moves : (s : State) (n : ℕ) (taken : List ℕ) → length taken ≤ value_of s 12 → Moved taken s (filled s taken)
filled_moves s n taken few =
    let t = with_filled s taken in
    let fits : InRanges s taken → length taken < 2 ^ 32 = λ r. omega (arith, word s r 12) in
    let done = sets (InRanges s taken) t 10 (length taken) fits in
    let at = value_of s 11 in
    let change = front_put s at taken (bytes_at s.memory Write at (value_of s 12)) (λ old is. AreBytes-bytes_at s.memory Write at (value_of s 12) old is) in
    record {
      register = done.register;
      memory = subst (λ (m : List Region). ChangesMemory (InRanges s taken) s.memory m) (sym done.memory) change;
      pc = omega arith;
      marks = inl done.marks;
      count = ap (λ (n : ℕ). n + 1) done.count;
    }

read_call_moves : (s : State) → Moves s (read_call s)
read_call_moves s =
    let takes = Takes (value_of s 12) (filled s) in
    let covered = cond (covers s.memory Write (value_of s 11) (value_of s 12)) takes (Traps trap.Store) in
    choice_moves s (eqb (value_of s 10) 0) covered (Traps trap.Call)
    (choice_moves s (covers s.memory Write (value_of s 11) (value_of s 12)) takes (Traps trap.Store) (λ taken few. filled_moves s 0 taken few) tt)
    tt

written_moves : (s : State) (bytes : Option (List ℕ)) → Moves s (written s bytes)
written_moves s None = tt
written_moves s (Some bytes) =
    let done = sets (InRanges s []) s 10 (value_of s 12) (λ r. word s r 12) in
    record { register = done.register; memory = inl done.memory; pc = omega arith; marks = inl done.marks; count = ap (λ (n : ℕ). n + 1) done.count }

write_call_moves : (s : State) → Moves s (write_call s)
write_call_moves s =
    let bytes = bytes_at s.memory Read (value_of s 11) (value_of s 12) in
    choice_moves s (eqb (value_of s 10) 1) (written s bytes) (Traps trap.Call) (written_moves s bytes) tt

stop_call_moves : (s : State) → Moves s (stop_call s)
stop_call_moves s =
    choice_moves s (nat_le 1 (value_of s 10) && nat_le (value_of s 10) 7) (Stops (value_of s 10) (value_of s 11) (value_of s 12) (value_of s 13)) (Traps trap.Call) tt tt

ecall_moves : (s : State) → Moves s (ecall s)
ecall_moves s =
    let stops = cond (eqb (value_of s 17) 4000) (stop_call s) (Traps trap.Call) in
    let exits = cond (eqb (value_of s 17) 93) (exit_call s) stops in
    let writes = cond (eqb (value_of s 17) 64) (write_call s) exits in
    let stops_moves : Moves s stops = choice_moves s (eqb (value_of s 17) 4000) (stop_call s) (Traps trap.Call) (stop_call_moves s) tt in
    let exits_moves : Moves s exits = choice_moves s (eqb (value_of s 17) 93) (exit_call s) stops tt stops_moves in
    let writes_moves : Moves s writes = choice_moves s (eqb (value_of s 17) 64) (write_call s) exits (write_call_moves s) exits_moves in
    choice_moves s (eqb (value_of s 17) 63) (read_call s) writes (read_call_moves s) writes_moves

-- ---- the rows

row_moves : (inst : Inst) (s : State) → (InRanges s [] → IsValid inst) → Moves s (row inst s)
unfolding row
row_moves (Lui rd imm) s valid = gives_moves rd (upper_of imm) s (λ r. upper_lt imm (valid r))
row_moves (Auipc rd imm) s valid = gives_moves rd (add s.pc (upper_of imm)) s (λ r. add_lt s.pc (upper_of imm))
row_moves (Jal rd imm) s valid = links_moves rd (offset_by s imm) s (omega arith)
row_moves (Jalr rd rs1 imm) s valid = links_moves rd (even_of (sum_of s rs1 imm)) s (omega arith)
row_moves (Beq rs1 rs2 imm) s valid = branches_moves (value_of s rs1 == value_of s rs2) imm s
row_moves (Bne rs1 rs2 imm) s valid = branches_moves (not (value_of s rs1 == value_of s rs2)) imm s
row_moves (Blt rs1 rs2 imm) s valid = branches_moves (int_lt (signed (value_of s rs1)) (signed (value_of s rs2))) imm s
row_moves (Bge rs1 rs2 imm) s valid = branches_moves (not (int_lt (signed (value_of s rs1)) (signed (value_of s rs2)))) imm s
row_moves (Bltu rs1 rs2 imm) s valid = branches_moves (nat_lt (value_of s rs1) (value_of s rs2)) imm s
row_moves (Bgeu rs1 rs2 imm) s valid = branches_moves (nat_le (value_of s rs2) (value_of s rs1)) imm s
row_moves (Lb rd rs1 imm) s valid = loads_moves 1 rd rs1 imm (sign_extended 8) s byte_lt
row_moves (Lh rd rs1 imm) s valid = loads_moves 2 rd rs1 imm (sign_extended 16) s half_lt
row_moves (Lw rd rs1 imm) s valid = loads_moves 4 rd rs1 imm (λ value. value) s (λ value h. omega arith)
row_moves (Lbu rd rs1 imm) s valid = loads_moves 1 rd rs1 imm (λ value. value) s (λ value h. omega arith)
row_moves (Lhu rd rs1 imm) s valid = loads_moves 2 rd rs1 imm (λ value. value) s (λ value h. omega arith)
row_moves (Sb rs1 rs2 imm) s valid = stores_moves 1 rs1 imm (value_of s rs2 % 2 ^ 8) s
row_moves (Sh rs1 rs2 imm) s valid = stores_moves 2 rs1 imm (value_of s rs2 % 2 ^ 16) s
row_moves (Sw rs1 rs2 imm) s valid = stores_moves 4 rs1 imm (value_of s rs2) s
row_moves (Addi rd rs1 imm) s valid = addi_moves rd rs1 imm s
row_moves (Slti rd rs1 imm) s valid = gives_moves rd (slt (value_of s rs1) (bits_of imm)) s (λ r. slt_lt (value_of s rs1) (bits_of imm))
row_moves (Sltiu rd rs1 imm) s valid = gives_moves rd (sltu (value_of s rs1) (bits_of imm)) s (λ r. sltu_lt (value_of s rs1) (bits_of imm))
row_moves (Xori rd rs1 imm) s valid = gives_moves rd (bit_xor (value_of s rs1) (bits_of imm)) s (λ r. xor_lt 32 (value_of s rs1) (bits_of imm) (word s r rs1) (immediate_lt imm (valid r)))
row_moves (Ori rd rs1 imm) s valid = gives_moves rd (bit_or (value_of s rs1) (bits_of imm)) s (λ r. or_lt 32 (value_of s rs1) (bits_of imm) (word s r rs1) (immediate_lt imm (valid r)))
row_moves (Andi rd rs1 imm) s valid = gives_moves rd (bit_and (value_of s rs1) (bits_of imm)) s (λ r. and_lt 32 (value_of s rs1) (bits_of imm) (word s r rs1) (immediate_lt imm (valid r)))
row_moves (Slli rd rs1 imm) s valid = gives_moves rd (sll (value_of s rs1) (bits_of imm)) s (λ r. sll_lt (value_of s rs1) (bits_of imm))
row_moves (Srli rd rs1 imm) s valid = gives_moves rd (srl (value_of s rs1) (bits_of imm)) s (λ r. srl_lt (value_of s rs1) (bits_of imm) (word s r rs1))
row_moves (Srai rd rs1 imm) s valid = gives_moves rd (sra (value_of s rs1) (bits_of imm)) s (λ r. sra_lt (value_of s rs1) (bits_of imm) (word s r rs1))
row_moves (Add rd rs1 rs2) s valid = gives_moves rd (add (value_of s rs1) (value_of s rs2)) s (λ r. add_lt (value_of s rs1) (value_of s rs2))
row_moves (Sub rd rs1 rs2) s valid = gives_moves rd (sub (value_of s rs1) (value_of s rs2)) s (λ r. sub_lt (value_of s rs1) (value_of s rs2))
row_moves (Sll rd rs1 rs2) s valid = gives_moves rd (sll (value_of s rs1) (value_of s rs2)) s (λ r. sll_lt (value_of s rs1) (value_of s rs2))
row_moves (Slt rd rs1 rs2) s valid = gives_moves rd (slt (value_of s rs1) (value_of s rs2)) s (λ r. slt_lt (value_of s rs1) (value_of s rs2))
row_moves (Sltu rd rs1 rs2) s valid = gives_moves rd (sltu (value_of s rs1) (value_of s rs2)) s (λ r. sltu_lt (value_of s rs1) (value_of s rs2))
row_moves (Xor rd rs1 rs2) s valid = gives_moves rd (bit_xor (value_of s rs1) (value_of s rs2)) s (λ r. xor_lt 32 (value_of s rs1) (value_of s rs2) (word s r rs1) (word s r rs2))
row_moves (Srl rd rs1 rs2) s valid = gives_moves rd (srl (value_of s rs1) (value_of s rs2)) s (λ r. srl_lt (value_of s rs1) (value_of s rs2) (word s r rs1))
row_moves (Sra rd rs1 rs2) s valid = gives_moves rd (sra (value_of s rs1) (value_of s rs2)) s (λ r. sra_lt (value_of s rs1) (value_of s rs2) (word s r rs1))
row_moves (Or rd rs1 rs2) s valid = gives_moves rd (bit_or (value_of s rs1) (value_of s rs2)) s (λ r. or_lt 32 (value_of s rs1) (value_of s rs2) (word s r rs1) (word s r rs2))
row_moves (And rd rs1 rs2) s valid = gives_moves rd (bit_and (value_of s rs1) (value_of s rs2)) s (λ r. and_lt 32 (value_of s rs1) (value_of s rs2) (word s r rs1) (word s r rs2))
row_moves (Mul rd rs1 rs2) s valid = gives_moves rd (mul (value_of s rs1) (value_of s rs2)) s (λ r. mul_lt (value_of s rs1) (value_of s rs2))
row_moves (Mulh rd rs1 rs2) s valid = gives_moves rd (mulh (value_of s rs1) (value_of s rs2)) s (λ r. mulh_lt (value_of s rs1) (value_of s rs2) (word s r rs1) (word s r rs2))
row_moves (Mulhsu rd rs1 rs2) s valid = gives_moves rd (mulhsu (value_of s rs1) (value_of s rs2)) s (λ r. mulhsu_lt (value_of s rs1) (value_of s rs2) (word s r rs1) (word s r rs2))
row_moves (Mulhu rd rs1 rs2) s valid = gives_moves rd (mulhu (value_of s rs1) (value_of s rs2)) s (λ r. mulhu_lt (value_of s rs1) (value_of s rs2) (word s r rs1) (word s r rs2))
row_moves (Div rd rs1 rs2) s valid = gives_moves rd (div (value_of s rs1) (value_of s rs2)) s (λ r. div_lt (value_of s rs1) (value_of s rs2) (word s r rs1))
row_moves (Divu rd rs1 rs2) s valid = gives_moves rd (divu (value_of s rs1) (value_of s rs2)) s (λ r. divu_lt (value_of s rs1) (value_of s rs2) (word s r rs1))
row_moves (Rem rd rs1 rs2) s valid = gives_moves rd (rem (value_of s rs1) (value_of s rs2)) s (λ r. rem_lt (value_of s rs1) (value_of s rs2) (word s r rs1))
row_moves (Remu rd rs1 rs2) s valid = gives_moves rd (remu (value_of s rs1) (value_of s rs2)) s (λ r. remu_lt (value_of s rs1) (value_of s rs2) (word s r rs1))
row_moves (Fence rd rs1 imm) s valid = falls_through s
row_moves Ecall s valid = ecall_moves s
row_moves Ebreak s valid = tt

spelled_moves : (s : State) (inst : Option Inst) → ((i : Inst) → inst ≡ Some i → InRanges s [] → IsValid i) → Moves s (spelled s inst)
spelled_moves s None valid = tt
spelled_moves s (Some inst) valid = row_moves inst s (valid inst refl)

fetched_moves : (s : State) (word : Result ℕ Fault) → fetched s.memory s.pc ≡ word → Moves s (fetched_word s word)
fetched_moves s (Err fault.Misaligned) is = tt
fetched_moves s (Err fault.Outside) is = tt
fetched_moves s (Ok code) is =
    spelled_moves s (decoded code) (λ inst spells r. (decoded_is code inst (fetched_lt s.memory s.pc code r.bytes is) spells).0)

pub action_moves : (s : State) → Moves s (action_of s)
unfolding action_of
action_moves s = fetched_moves s (fetched s.memory s.pc) refl
