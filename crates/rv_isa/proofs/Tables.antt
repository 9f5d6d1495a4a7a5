-- The table of encodings and the table of decodings are inverse: a line for each instruction in each direction.
use Rattle.std.proofs.Common.{ℕ, ◌≡◌, ◌<◌, ◌^◌, ℤ, Option, Some, if◌then◌else◌, ◌==◌, arith, refl, sym, lit<, ⊎_elim}
use Rattle.std.proofs.lemmas.Bool.Decides.{eqb_tells}
use Rattle.std.specs.Option.{IfSome}
use Rattle.rv_isa.specs.declared.inst.Inst.{Inst}
use Rattle.rv_isa.specs.declared.inst.Inst.TheVariants.{Lui, Auipc, Jal, Jalr, Beq, Bne, Blt, Bge, Bltu, Bgeu, Lb, Lh, Lw, Lbu, Lhu, Sb, Sh, Sw, Addi, Slti, Sltiu, Xori, Ori, Andi, Slli, Srli, Srai, Add, Sub, Sll, Slt, Sltu, Xor, Srl, Sra, Or, And, Fence, Ecall, Ebreak, Mul, Mulh, Mulhsu, Mulhu, Div, Divu, Rem, Remu}
use Rattle.rv_isa.specs.Encoding.{listing, Fits, HasRegisters, IsValid, NamesRegisters, encoding, Spells}
use Rattle.rv_isa.specs.Decoding.{decoded, decoded_jalr, decoded_branch, decoded_load, decoded_store, decoded_left_shift, decoded_right_shift, decoded_op_imm, decoded_base_op, decoded_other_op, decoded_multiply, decoded_op, decoded_misc_mem, decoded_system}
use Rattle.rv_isa.specs.Formats.{Layout, RType, IType, ShiftType, SType, BType, UType, JType, word}
use Rattle.rv_isa.specs.Fields.{opcode_of, rd_of, funct3_of, rs1_of, rs2_of, funct7_of, i_imm_of, shift_imm_of, s_imm_of, b_imm_of, u_imm_of, j_imm_of}
use Rattle.rv_isa.proofs.Formats.{SaysR, r_type-says, r_type-fields, SaysI, i_type-says, i_type-fields, i_type-range, SaysShift, shift_type-says, shift_type-fields, shift_type-range, SaysS, s_type-says, s_type-fields, s_type-range, SaysB, b_type-says, b_type-fields, b_type-range, SaysU, u_type-says, u_type-fields, u_type-range, SaysJ, j_type-says, j_type-fields, j_type-range}

-- From instructions to words and back. Each format's lemma takes how the decoding table reads a word with such fields.
record ReadsAs (layout : Layout) (inst : Inst) : Type 0 where
  pub in_range : word layout < 2 ^ 32
  pub read : decoded (word layout) ≡ Some inst

r_row : {funct7 rs2 rs1 funct3 rd opcode : ℕ} {inst : Inst} → funct7 < 2 ^ 7 → funct3 < 2 ^ 3 → opcode < 2 ^ 7 → HasRegisters (RType funct7 rs2 rs1 funct3 rd opcode)
    → ((code : ℕ) → SaysR code funct7 rs2 rs1 funct3 rd opcode → decoded code ≡ Some inst) → ReadsAs (RType funct7 rs2 rs1 funct3 rd opcode) inst
r_row {funct7} {rs2} {rs1} {funct3} {rd} {opcode} g f o n row =
    let says = r_type-says funct7 rs2 rs1 funct3 rd opcode g f o n in record { in_range = says.in_range; read = row _ says }

i_row : {imm : ℤ} {rs1 funct3 rd opcode : ℕ} {inst : Inst} → funct3 < 2 ^ 3 → opcode < 2 ^ 7 → HasRegisters (IType imm rs1 funct3 rd opcode) → Fits (IType imm rs1 funct3 rd opcode)
    → ((code : ℕ) → SaysI code imm rs1 funct3 rd opcode → decoded code ≡ Some inst) → ReadsAs (IType imm rs1 funct3 rd opcode) inst
i_row {imm} {rs1} {funct3} {rd} {opcode} f o n v row =
    let says = i_type-says imm rs1 funct3 rd opcode f o n v in record { in_range = says.in_range; read = row _ says }

shift_row : {funct7 : ℕ} {imm : ℤ} {rs1 funct3 rd opcode : ℕ} {inst : Inst} → funct7 < 2 ^ 7 → funct3 < 2 ^ 3 → opcode < 2 ^ 7 → HasRegisters (ShiftType funct7 imm rs1 funct3 rd opcode) → Fits (ShiftType funct7 imm rs1 funct3 rd opcode)
    → ((code : ℕ) → SaysShift code funct7 imm rs1 funct3 rd opcode → decoded code ≡ Some inst) → ReadsAs (ShiftType funct7 imm rs1 funct3 rd opcode) inst
shift_row {funct7} {imm} {rs1} {funct3} {rd} {opcode} g f o n v row =
    let says = shift_type-says funct7 imm rs1 funct3 rd opcode g f o n v in record { in_range = says.in_range; read = row _ says }

s_row : {imm : ℤ} {rs2 rs1 funct3 opcode : ℕ} {inst : Inst} → funct3 < 2 ^ 3 → opcode < 2 ^ 7 → HasRegisters (SType imm rs2 rs1 funct3 opcode) → Fits (SType imm rs2 rs1 funct3 opcode)
    → ((code : ℕ) → SaysS code imm rs2 rs1 funct3 opcode → decoded code ≡ Some inst) → ReadsAs (SType imm rs2 rs1 funct3 opcode) inst
s_row {imm} {rs2} {rs1} {funct3} {opcode} f o n v row =
    let says = s_type-says imm rs2 rs1 funct3 opcode f o n v in record { in_range = says.in_range; read = row _ says }

b_row : {imm : ℤ} {rs2 rs1 funct3 opcode : ℕ} {inst : Inst} → funct3 < 2 ^ 3 → opcode < 2 ^ 7 → HasRegisters (BType imm rs2 rs1 funct3 opcode) → Fits (BType imm rs2 rs1 funct3 opcode)
    → ((code : ℕ) → SaysB code imm rs2 rs1 funct3 opcode → decoded code ≡ Some inst) → ReadsAs (BType imm rs2 rs1 funct3 opcode) inst
b_row {imm} {rs2} {rs1} {funct3} {opcode} f o n v row =
    let says = b_type-says imm rs2 rs1 funct3 opcode f o n v in record { in_range = says.in_range; read = row _ says }

u_row : {imm : ℤ} {rd opcode : ℕ} {inst : Inst} → opcode < 2 ^ 7 → HasRegisters (UType imm rd opcode) → Fits (UType imm rd opcode)
    → ((code : ℕ) → SaysU code imm rd opcode → decoded code ≡ Some inst) → ReadsAs (UType imm rd opcode) inst
u_row {imm} {rd} {opcode} o n v row =
    let says = u_type-says imm rd opcode o n v in record { in_range = says.in_range; read = row _ says }

j_row : {imm : ℤ} {rd opcode : ℕ} {inst : Inst} → opcode < 2 ^ 7 → HasRegisters (JType imm rd opcode) → Fits (JType imm rd opcode)
    → ((code : ℕ) → SaysJ code imm rd opcode → decoded code ≡ Some inst) → ReadsAs (JType imm rd opcode) inst
j_row {imm} {rd} {opcode} o n v row =
    let says = j_type-says imm rd opcode o n v in record { in_range = says.in_range; read = row _ says }

reads_back : (inst : Inst) → IsValid inst → NamesRegisters inst → ReadsAs (listing inst) inst
unfolding decoded decoded_jalr decoded_branch decoded_load decoded_store decoded_left_shift decoded_right_shift decoded_op_imm decoded_base_op decoded_other_op decoded_multiply decoded_op decoded_misc_mem decoded_system
reads_back (Lui rd imm) v n = u_row (lit< tt) n v (λ code s. simp (s.opcode_is, s.rd_is, s.imm_is))
reads_back (Auipc rd imm) v n = u_row (lit< tt) n v (λ code s. simp (s.opcode_is, s.rd_is, s.imm_is))
reads_back (Jal rd imm) v n = j_row (lit< tt) n v (λ code s. simp (s.opcode_is, s.rd_is, s.imm_is))
reads_back (Jalr rd rs1 imm) v n = i_row (lit< tt) (lit< tt) n v (λ code s. simp (s.opcode_is, s.funct3_is, s.rd_is, s.rs1_is, s.imm_is))
reads_back (Beq rs1 rs2 imm) v n = b_row (lit< tt) (lit< tt) n v (λ code s. simp (s.opcode_is, s.funct3_is, s.rs1_is, s.rs2_is, s.imm_is))
reads_back (Bne rs1 rs2 imm) v n = b_row (lit< tt) (lit< tt) n v (λ code s. simp (s.opcode_is, s.funct3_is, s.rs1_is, s.rs2_is, s.imm_is))
reads_back (Blt rs1 rs2 imm) v n = b_row (lit< tt) (lit< tt) n v (λ code s. simp (s.opcode_is, s.funct3_is, s.rs1_is, s.rs2_is, s.imm_is))
reads_back (Bge rs1 rs2 imm) v n = b_row (lit< tt) (lit< tt) n v (λ code s. simp (s.opcode_is, s.funct3_is, s.rs1_is, s.rs2_is, s.imm_is))
reads_back (Bltu rs1 rs2 imm) v n = b_row (lit< tt) (lit< tt) n v (λ code s. simp (s.opcode_is, s.funct3_is, s.rs1_is, s.rs2_is, s.imm_is))
reads_back (Bgeu rs1 rs2 imm) v n = b_row (lit< tt) (lit< tt) n v (λ code s. simp (s.opcode_is, s.funct3_is, s.rs1_is, s.rs2_is, s.imm_is))
reads_back (Lb rd rs1 imm) v n = i_row (lit< tt) (lit< tt) n v (λ code s. simp (s.opcode_is, s.funct3_is, s.rd_is, s.rs1_is, s.imm_is))
reads_back (Lh rd rs1 imm) v n = i_row (lit< tt) (lit< tt) n v (λ code s. simp (s.opcode_is, s.funct3_is, s.rd_is, s.rs1_is, s.imm_is))
reads_back (Lw rd rs1 imm) v n = i_row (lit< tt) (lit< tt) n v (λ code s. simp (s.opcode_is, s.funct3_is, s.rd_is, s.rs1_is, s.imm_is))
reads_back (Lbu rd rs1 imm) v n = i_row (lit< tt) (lit< tt) n v (λ code s. simp (s.opcode_is, s.funct3_is, s.rd_is, s.rs1_is, s.imm_is))
reads_back (Lhu rd rs1 imm) v n = i_row (lit< tt) (lit< tt) n v (λ code s. simp (s.opcode_is, s.funct3_is, s.rd_is, s.rs1_is, s.imm_is))
reads_back (Sb rs1 rs2 imm) v n = s_row (lit< tt) (lit< tt) n v (λ code s. simp (s.opcode_is, s.funct3_is, s.rs1_is, s.rs2_is, s.imm_is))
reads_back (Sh rs1 rs2 imm) v n = s_row (lit< tt) (lit< tt) n v (λ code s. simp (s.opcode_is, s.funct3_is, s.rs1_is, s.rs2_is, s.imm_is))
reads_back (Sw rs1 rs2 imm) v n = s_row (lit< tt) (lit< tt) n v (λ code s. simp (s.opcode_is, s.funct3_is, s.rs1_is, s.rs2_is, s.imm_is))
reads_back (Addi rd rs1 imm) v n = i_row (lit< tt) (lit< tt) n v (λ code s. simp (s.opcode_is, s.funct3_is, s.rd_is, s.rs1_is, s.imm_is))
reads_back (Slti rd rs1 imm) v n = i_row (lit< tt) (lit< tt) n v (λ code s. simp (s.opcode_is, s.funct3_is, s.rd_is, s.rs1_is, s.imm_is))
reads_back (Sltiu rd rs1 imm) v n = i_row (lit< tt) (lit< tt) n v (λ code s. simp (s.opcode_is, s.funct3_is, s.rd_is, s.rs1_is, s.imm_is))
reads_back (Xori rd rs1 imm) v n = i_row (lit< tt) (lit< tt) n v (λ code s. simp (s.opcode_is, s.funct3_is, s.rd_is, s.rs1_is, s.imm_is))
reads_back (Ori rd rs1 imm) v n = i_row (lit< tt) (lit< tt) n v (λ code s. simp (s.opcode_is, s.funct3_is, s.rd_is, s.rs1_is, s.imm_is))
reads_back (Andi rd rs1 imm) v n = i_row (lit< tt) (lit< tt) n v (λ code s. simp (s.opcode_is, s.funct3_is, s.rd_is, s.rs1_is, s.imm_is))
reads_back (Slli rd rs1 imm) v n = shift_row (lit< tt) (lit< tt) (lit< tt) n v (λ code s. simp (s.opcode_is, s.funct3_is, s.funct7_is, s.rd_is, s.rs1_is, s.imm_is))
reads_back (Srli rd rs1 imm) v n = shift_row (lit< tt) (lit< tt) (lit< tt) n v (λ code s. simp (s.opcode_is, s.funct3_is, s.funct7_is, s.rd_is, s.rs1_is, s.imm_is))
reads_back (Srai rd rs1 imm) v n = shift_row (lit< tt) (lit< tt) (lit< tt) n v (λ code s. simp (s.opcode_is, s.funct3_is, s.funct7_is, s.rd_is, s.rs1_is, s.imm_is))
reads_back (Add rd rs1 rs2) v n = r_row (lit< tt) (lit< tt) (lit< tt) n (λ code s. simp (s.opcode_is, s.funct7_is, s.funct3_is, s.rd_is, s.rs1_is, s.rs2_is))
reads_back (Sub rd rs1 rs2) v n = r_row (lit< tt) (lit< tt) (lit< tt) n (λ code s. simp (s.opcode_is, s.funct7_is, s.funct3_is, s.rd_is, s.rs1_is, s.rs2_is))
reads_back (Sll rd rs1 rs2) v n = r_row (lit< tt) (lit< tt) (lit< tt) n (λ code s. simp (s.opcode_is, s.funct7_is, s.funct3_is, s.rd_is, s.rs1_is, s.rs2_is))
reads_back (Slt rd rs1 rs2) v n = r_row (lit< tt) (lit< tt) (lit< tt) n (λ code s. simp (s.opcode_is, s.funct7_is, s.funct3_is, s.rd_is, s.rs1_is, s.rs2_is))
reads_back (Sltu rd rs1 rs2) v n = r_row (lit< tt) (lit< tt) (lit< tt) n (λ code s. simp (s.opcode_is, s.funct7_is, s.funct3_is, s.rd_is, s.rs1_is, s.rs2_is))
reads_back (Xor rd rs1 rs2) v n = r_row (lit< tt) (lit< tt) (lit< tt) n (λ code s. simp (s.opcode_is, s.funct7_is, s.funct3_is, s.rd_is, s.rs1_is, s.rs2_is))
reads_back (Srl rd rs1 rs2) v n = r_row (lit< tt) (lit< tt) (lit< tt) n (λ code s. simp (s.opcode_is, s.funct7_is, s.funct3_is, s.rd_is, s.rs1_is, s.rs2_is))
reads_back (Sra rd rs1 rs2) v n = r_row (lit< tt) (lit< tt) (lit< tt) n (λ code s. simp (s.opcode_is, s.funct7_is, s.funct3_is, s.rd_is, s.rs1_is, s.rs2_is))
reads_back (Or rd rs1 rs2) v n = r_row (lit< tt) (lit< tt) (lit< tt) n (λ code s. simp (s.opcode_is, s.funct7_is, s.funct3_is, s.rd_is, s.rs1_is, s.rs2_is))
reads_back (And rd rs1 rs2) v n = r_row (lit< tt) (lit< tt) (lit< tt) n (λ code s. simp (s.opcode_is, s.funct7_is, s.funct3_is, s.rd_is, s.rs1_is, s.rs2_is))
reads_back (Fence rd rs1 imm) v n = i_row (lit< tt) (lit< tt) n v (λ code s. simp (s.opcode_is, s.funct3_is, s.rd_is, s.rs1_is, s.imm_is))
reads_back Ecall v n = record { in_range = lit< tt; read = refl }
reads_back Ebreak v n = record { in_range = lit< tt; read = refl }
reads_back (Mul rd rs1 rs2) v n = r_row (lit< tt) (lit< tt) (lit< tt) n (λ code s. simp (s.opcode_is, s.funct7_is, s.funct3_is, s.rd_is, s.rs1_is, s.rs2_is))
reads_back (Mulh rd rs1 rs2) v n = r_row (lit< tt) (lit< tt) (lit< tt) n (λ code s. simp (s.opcode_is, s.funct7_is, s.funct3_is, s.rd_is, s.rs1_is, s.rs2_is))
reads_back (Mulhsu rd rs1 rs2) v n = r_row (lit< tt) (lit< tt) (lit< tt) n (λ code s. simp (s.opcode_is, s.funct7_is, s.funct3_is, s.rd_is, s.rs1_is, s.rs2_is))
reads_back (Mulhu rd rs1 rs2) v n = r_row (lit< tt) (lit< tt) (lit< tt) n (λ code s. simp (s.opcode_is, s.funct7_is, s.funct3_is, s.rd_is, s.rs1_is, s.rs2_is))
reads_back (Div rd rs1 rs2) v n = r_row (lit< tt) (lit< tt) (lit< tt) n (λ code s. simp (s.opcode_is, s.funct7_is, s.funct3_is, s.rd_is, s.rs1_is, s.rs2_is))
reads_back (Divu rd rs1 rs2) v n = r_row (lit< tt) (lit< tt) (lit< tt) n (λ code s. simp (s.opcode_is, s.funct7_is, s.funct3_is, s.rd_is, s.rs1_is, s.rs2_is))
reads_back (Rem rd rs1 rs2) v n = r_row (lit< tt) (lit< tt) (lit< tt) n (λ code s. simp (s.opcode_is, s.funct7_is, s.funct3_is, s.rd_is, s.rs1_is, s.rs2_is))
reads_back (Remu rd rs1 rs2) v n = r_row (lit< tt) (lit< tt) (lit< tt) n (λ code s. simp (s.opcode_is, s.funct7_is, s.funct3_is, s.rd_is, s.rs1_is, s.rs2_is))

pub decoded-encoding : (inst : Inst) → IsValid inst → NamesRegisters inst → decoded (encoding inst) ≡ Some inst
unfolding encoding
decoded-encoding inst valid registers = (reads_back inst valid registers).read

pub encoding-below : (inst : Inst) → IsValid inst → NamesRegisters inst → encoding inst < 2 ^ 32
unfolding encoding
encoding-below inst valid registers = (reads_back inst valid registers).in_range

-- From words to instructions and back: a row of the decoding table, and the rows below it.
on_equal : (code a b : ℕ) (here others : Option Inst)
    → (a ≡ b → IfSome here (Spells code)) → IfSome others (Spells code) → IfSome (if a == b then here else others) (Spells code)
on_equal code a b here others same below = ⊎_elim (λ t. rw t.0 (same t.1)) (λ t. rw t.0 below) (eqb_tells a b)

-- the word is that of this layout, whose fields fit
abbrev Written : ℕ → Layout → Type 0
Written code layout = Fits layout × HasRegisters layout × (word layout ≡ code)

r_spells : {funct7 funct3 opcode : ℕ} (code : ℕ) → code < 2 ^ 32 → opcode_of code ≡ opcode → funct7_of code ≡ funct7 → funct3_of code ≡ funct3
    → Written code (RType funct7 (rs2_of code) (rs1_of code) funct3 (rd_of code) opcode)
r_spells {funct7} {funct3} {opcode} code below o g f =
    (tt, (omega arith, omega arith, omega arith), rw (← o, ← g, ← f) (r_type-fields code below))

i_spells : {funct3 opcode : ℕ} (code : ℕ) → code < 2 ^ 32 → opcode_of code ≡ opcode → funct3_of code ≡ funct3
    → Written code (IType (i_imm_of code) (rs1_of code) funct3 (rd_of code) opcode)
i_spells {funct3} {opcode} code below o f =
    (i_type-range code, (omega arith, omega arith), rw (← o, ← f) (i_type-fields code below))

shift_spells : {funct7 funct3 opcode : ℕ} (code : ℕ) → code < 2 ^ 32 → opcode_of code ≡ opcode → funct7_of code ≡ funct7 → funct3_of code ≡ funct3
    → Written code (ShiftType funct7 (shift_imm_of code) (rs1_of code) funct3 (rd_of code) opcode)
shift_spells {funct7} {funct3} {opcode} code below o g f =
    (shift_type-range code, (omega arith, omega arith), rw (← o, ← g, ← f) (shift_type-fields code below))

s_spells : {funct3 opcode : ℕ} (code : ℕ) → code < 2 ^ 32 → opcode_of code ≡ opcode → funct3_of code ≡ funct3
    → Written code (SType (s_imm_of code) (rs2_of code) (rs1_of code) funct3 opcode)
s_spells {funct3} {opcode} code below o f =
    (s_type-range code, (omega arith, omega arith), rw (← o, ← f) (s_type-fields code below))

b_spells : {funct3 opcode : ℕ} (code : ℕ) → code < 2 ^ 32 → opcode_of code ≡ opcode → funct3_of code ≡ funct3
    → Written code (BType (b_imm_of code) (rs2_of code) (rs1_of code) funct3 opcode)
b_spells {funct3} {opcode} code below o f =
    (b_type-range code, (omega arith, omega arith), rw (← o, ← f) (b_type-fields code below))

u_spells : {opcode : ℕ} (code : ℕ) → code < 2 ^ 32 → opcode_of code ≡ opcode
    → Written code (UType (u_imm_of code) (rd_of code) opcode)
u_spells {opcode} code below o =
    (u_type-range code, omega arith, rw (← o) (u_type-fields code below))

j_spells : {opcode : ℕ} (code : ℕ) → code < 2 ^ 32 → opcode_of code ≡ opcode
    → Written code (JType (j_imm_of code) (rd_of code) opcode)
j_spells {opcode} code below o =
    (j_type-range code, omega arith, rw (← o) (j_type-fields code below))

jalr_spells : (code : ℕ) → code < 2 ^ 32 → opcode_of code ≡ 0b1100111 → IfSome (decoded_jalr code) (Spells code)
unfolding decoded_jalr encoding
jalr_spells code below o =
    on_equal code (funct3_of code) 0b000 _ _ (λ e. i_spells code below o e)
    tt

branch_spells : (code : ℕ) → code < 2 ^ 32 → opcode_of code ≡ 0b1100011 → IfSome (decoded_branch code) (Spells code)
unfolding decoded_branch encoding
branch_spells code below o =
    on_equal code (funct3_of code) 0b000 _ _ (λ e. b_spells code below o e)
    (on_equal code (funct3_of code) 0b001 _ _ (λ e. b_spells code below o e)
    (on_equal code (funct3_of code) 0b100 _ _ (λ e. b_spells code below o e)
    (on_equal code (funct3_of code) 0b101 _ _ (λ e. b_spells code below o e)
    (on_equal code (funct3_of code) 0b110 _ _ (λ e. b_spells code below o e)
    (on_equal code (funct3_of code) 0b111 _ _ (λ e. b_spells code below o e)
    tt)))))

load_spells : (code : ℕ) → code < 2 ^ 32 → opcode_of code ≡ 0b0000011 → IfSome (decoded_load code) (Spells code)
unfolding decoded_load encoding
load_spells code below o =
    on_equal code (funct3_of code) 0b000 _ _ (λ e. i_spells code below o e)
    (on_equal code (funct3_of code) 0b001 _ _ (λ e. i_spells code below o e)
    (on_equal code (funct3_of code) 0b010 _ _ (λ e. i_spells code below o e)
    (on_equal code (funct3_of code) 0b100 _ _ (λ e. i_spells code below o e)
    (on_equal code (funct3_of code) 0b101 _ _ (λ e. i_spells code below o e)
    tt))))

store_spells : (code : ℕ) → code < 2 ^ 32 → opcode_of code ≡ 0b0100011 → IfSome (decoded_store code) (Spells code)
unfolding decoded_store encoding
store_spells code below o =
    on_equal code (funct3_of code) 0b000 _ _ (λ e. s_spells code below o e)
    (on_equal code (funct3_of code) 0b001 _ _ (λ e. s_spells code below o e)
    (on_equal code (funct3_of code) 0b010 _ _ (λ e. s_spells code below o e)
    tt))

left_shift_spells : (code : ℕ) → code < 2 ^ 32 → opcode_of code ≡ 0b0010011 → funct3_of code ≡ 0b001 → IfSome (decoded_left_shift code) (Spells code)
unfolding decoded_left_shift encoding
left_shift_spells code below o f =
    on_equal code (funct7_of code) 0b0000000 _ _ (λ e. shift_spells code below o e f)
    tt

right_shift_spells : (code : ℕ) → code < 2 ^ 32 → opcode_of code ≡ 0b0010011 → funct3_of code ≡ 0b101 → IfSome (decoded_right_shift code) (Spells code)
unfolding decoded_right_shift encoding
right_shift_spells code below o f =
    on_equal code (funct7_of code) 0b0000000 _ _ (λ e. shift_spells code below o e f)
    (on_equal code (funct7_of code) 0b0100000 _ _ (λ e. shift_spells code below o e f)
    tt)

op_imm_spells : (code : ℕ) → code < 2 ^ 32 → opcode_of code ≡ 0b0010011 → IfSome (decoded_op_imm code) (Spells code)
unfolding decoded_op_imm encoding
op_imm_spells code below o =
    on_equal code (funct3_of code) 0b000 _ _ (λ e. i_spells code below o e)
    (on_equal code (funct3_of code) 0b001 _ _ (λ e. left_shift_spells code below o e)
    (on_equal code (funct3_of code) 0b010 _ _ (λ e. i_spells code below o e)
    (on_equal code (funct3_of code) 0b011 _ _ (λ e. i_spells code below o e)
    (on_equal code (funct3_of code) 0b100 _ _ (λ e. i_spells code below o e)
    (on_equal code (funct3_of code) 0b101 _ _ (λ e. right_shift_spells code below o e)
    (on_equal code (funct3_of code) 0b110 _ _ (λ e. i_spells code below o e)
    (on_equal code (funct3_of code) 0b111 _ _ (λ e. i_spells code below o e)
    tt)))))))

base_op_spells : (code : ℕ) → code < 2 ^ 32 → opcode_of code ≡ 0b0110011 → funct7_of code ≡ 0b0000000 → IfSome (decoded_base_op code) (Spells code)
unfolding decoded_base_op encoding
base_op_spells code below o g =
    on_equal code (funct3_of code) 0b000 _ _ (λ e. r_spells code below o g e)
    (on_equal code (funct3_of code) 0b001 _ _ (λ e. r_spells code below o g e)
    (on_equal code (funct3_of code) 0b010 _ _ (λ e. r_spells code below o g e)
    (on_equal code (funct3_of code) 0b011 _ _ (λ e. r_spells code below o g e)
    (on_equal code (funct3_of code) 0b100 _ _ (λ e. r_spells code below o g e)
    (on_equal code (funct3_of code) 0b101 _ _ (λ e. r_spells code below o g e)
    (on_equal code (funct3_of code) 0b110 _ _ (λ e. r_spells code below o g e)
    (on_equal code (funct3_of code) 0b111 _ _ (λ e. r_spells code below o g e)
    tt)))))))

other_op_spells : (code : ℕ) → code < 2 ^ 32 → opcode_of code ≡ 0b0110011 → funct7_of code ≡ 0b0100000 → IfSome (decoded_other_op code) (Spells code)
unfolding decoded_other_op encoding
other_op_spells code below o g =
    on_equal code (funct3_of code) 0b000 _ _ (λ e. r_spells code below o g e)
    (on_equal code (funct3_of code) 0b101 _ _ (λ e. r_spells code below o g e)
    tt)

multiply_spells : (code : ℕ) → code < 2 ^ 32 → opcode_of code ≡ 0b0110011 → funct7_of code ≡ 0b0000001 → IfSome (decoded_multiply code) (Spells code)
unfolding decoded_multiply encoding
multiply_spells code below o g =
    on_equal code (funct3_of code) 0b000 _ _ (λ e. r_spells code below o g e)
    (on_equal code (funct3_of code) 0b001 _ _ (λ e. r_spells code below o g e)
    (on_equal code (funct3_of code) 0b010 _ _ (λ e. r_spells code below o g e)
    (on_equal code (funct3_of code) 0b011 _ _ (λ e. r_spells code below o g e)
    (on_equal code (funct3_of code) 0b100 _ _ (λ e. r_spells code below o g e)
    (on_equal code (funct3_of code) 0b101 _ _ (λ e. r_spells code below o g e)
    (on_equal code (funct3_of code) 0b110 _ _ (λ e. r_spells code below o g e)
    (on_equal code (funct3_of code) 0b111 _ _ (λ e. r_spells code below o g e)
    tt)))))))

op_spells : (code : ℕ) → code < 2 ^ 32 → opcode_of code ≡ 0b0110011 → IfSome (decoded_op code) (Spells code)
unfolding decoded_op encoding
op_spells code below o =
    on_equal code (funct7_of code) 0b0000000 _ _ (λ e. base_op_spells code below o e)
    (on_equal code (funct7_of code) 0b0100000 _ _ (λ e. other_op_spells code below o e)
    (on_equal code (funct7_of code) 0b0000001 _ _ (λ e. multiply_spells code below o e)
    tt))

misc_mem_spells : (code : ℕ) → code < 2 ^ 32 → opcode_of code ≡ 0b0001111 → IfSome (decoded_misc_mem code) (Spells code)
unfolding decoded_misc_mem encoding
misc_mem_spells code below o =
    on_equal code (funct3_of code) 0b000 _ _ (λ e. i_spells code below o e)
    tt

system_spells : (code : ℕ) → IfSome (decoded_system code) (Spells code)
unfolding decoded_system encoding
system_spells code =
    on_equal code code 0x00000073 _ _ (λ e. (tt, tt, sym e))
    (on_equal code code 0x00100073 _ _ (λ e. (tt, tt, sym e))
    tt)

pub decoded-spells : (code : ℕ) → code < 2 ^ 32 → IfSome (decoded code) (Spells code)
unfolding decoded encoding
decoded-spells code below =
    on_equal code (opcode_of code) 0b0110111 _ _ (λ e. u_spells code below e)
    (on_equal code (opcode_of code) 0b0010111 _ _ (λ e. u_spells code below e)
    (on_equal code (opcode_of code) 0b1101111 _ _ (λ e. j_spells code below e)
    (on_equal code (opcode_of code) 0b1100111 _ _ (λ e. jalr_spells code below e)
    (on_equal code (opcode_of code) 0b1100011 _ _ (λ e. branch_spells code below e)
    (on_equal code (opcode_of code) 0b0000011 _ _ (λ e. load_spells code below e)
    (on_equal code (opcode_of code) 0b0100011 _ _ (λ e. store_spells code below e)
    (on_equal code (opcode_of code) 0b0010011 _ _ (λ e. op_imm_spells code below e)
    (on_equal code (opcode_of code) 0b0110011 _ _ (λ e. op_spells code below e)
    (on_equal code (opcode_of code) 0b0001111 _ _ (λ e. misc_mem_spells code below e)
    (on_equal code (opcode_of code) 0b1110011 _ _ (λ e. system_spells code)
    tt))))))))))

pub decoded_is : (code : ℕ) (inst : Inst) → code < 2 ^ 32 → decoded code ≡ Some inst → Spells code inst
decoded_is code inst below e = rw e at (decoded-spells code below)

pub decoded-only : (code : ℕ) (inst : Inst) → Spells code inst → decoded code ≡ Some inst
decoded-only code inst spelt = rw (← spelt.2) (decoded-encoding inst spelt.0 spelt.1)
