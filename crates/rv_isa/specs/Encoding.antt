-- The instruction table of RV32IM, and the word of each instruction.
use Rattle.std.specs.Prelude.{ℕ, ◌%◌, ◌≡◌, ◌<◌, ℤ, pos, ◌≤ℤ◌, ◌<ℤ◌, negsuc}
use Rattle.std.specs.Int.{w32, cast_unsigned}
use Rattle.rv_isa.specs.declared.inst.Inst.{Inst}
use Rattle.rv_isa.specs.declared.inst.Inst.TheVariants.{Lui, Auipc, Jal, Jalr, Beq, Bne, Blt, Bge, Bltu, Bgeu, Lb, Lh, Lw, Lbu, Lhu, Sb, Sh, Sw, Addi, Slti, Sltiu, Xori, Ori, Andi, Slli, Srli, Srai, Add, Sub, Sll, Slt, Sltu, Xor, Srl, Sra, Or, And, Fence, Ecall, Ebreak, Mul, Mulh, Mulhsu, Mulhu, Div, Divu, Rem, Remu}
use Rattle.rv_isa.specs.Formats.{Layout, RType, IType, ShiftType, SType, BType, UType, JType, Whole, word}

-- The table. Each row is the instruction's line of the manual's listing: its fields from the highest bit down.
abbrev pub listing : Inst → Layout
listing (Lui rd imm) = UType imm rd 0b0110111
listing (Auipc rd imm) = UType imm rd 0b0010111
listing (Jal rd imm) = JType imm rd 0b1101111
listing (Jalr rd rs1 imm) = IType imm rs1 0b000 rd 0b1100111
listing (Beq rs1 rs2 imm) = BType imm rs2 rs1 0b000 0b1100011
listing (Bne rs1 rs2 imm) = BType imm rs2 rs1 0b001 0b1100011
listing (Blt rs1 rs2 imm) = BType imm rs2 rs1 0b100 0b1100011
listing (Bge rs1 rs2 imm) = BType imm rs2 rs1 0b101 0b1100011
listing (Bltu rs1 rs2 imm) = BType imm rs2 rs1 0b110 0b1100011
listing (Bgeu rs1 rs2 imm) = BType imm rs2 rs1 0b111 0b1100011
listing (Lb rd rs1 imm) = IType imm rs1 0b000 rd 0b0000011
listing (Lh rd rs1 imm) = IType imm rs1 0b001 rd 0b0000011
listing (Lw rd rs1 imm) = IType imm rs1 0b010 rd 0b0000011
listing (Lbu rd rs1 imm) = IType imm rs1 0b100 rd 0b0000011
listing (Lhu rd rs1 imm) = IType imm rs1 0b101 rd 0b0000011
listing (Sb rs1 rs2 imm) = SType imm rs2 rs1 0b000 0b0100011
listing (Sh rs1 rs2 imm) = SType imm rs2 rs1 0b001 0b0100011
listing (Sw rs1 rs2 imm) = SType imm rs2 rs1 0b010 0b0100011
listing (Addi rd rs1 imm) = IType imm rs1 0b000 rd 0b0010011
listing (Slti rd rs1 imm) = IType imm rs1 0b010 rd 0b0010011
listing (Sltiu rd rs1 imm) = IType imm rs1 0b011 rd 0b0010011
listing (Xori rd rs1 imm) = IType imm rs1 0b100 rd 0b0010011
listing (Ori rd rs1 imm) = IType imm rs1 0b110 rd 0b0010011
listing (Andi rd rs1 imm) = IType imm rs1 0b111 rd 0b0010011
listing (Slli rd rs1 imm) = ShiftType 0b0000000 imm rs1 0b001 rd 0b0010011
listing (Srli rd rs1 imm) = ShiftType 0b0000000 imm rs1 0b101 rd 0b0010011
listing (Srai rd rs1 imm) = ShiftType 0b0100000 imm rs1 0b101 rd 0b0010011
listing (Add rd rs1 rs2) = RType 0b0000000 rs2 rs1 0b000 rd 0b0110011
listing (Sub rd rs1 rs2) = RType 0b0100000 rs2 rs1 0b000 rd 0b0110011
listing (Sll rd rs1 rs2) = RType 0b0000000 rs2 rs1 0b001 rd 0b0110011
listing (Slt rd rs1 rs2) = RType 0b0000000 rs2 rs1 0b010 rd 0b0110011
listing (Sltu rd rs1 rs2) = RType 0b0000000 rs2 rs1 0b011 rd 0b0110011
listing (Xor rd rs1 rs2) = RType 0b0000000 rs2 rs1 0b100 rd 0b0110011
listing (Srl rd rs1 rs2) = RType 0b0000000 rs2 rs1 0b101 rd 0b0110011
listing (Sra rd rs1 rs2) = RType 0b0100000 rs2 rs1 0b101 rd 0b0110011
listing (Or rd rs1 rs2) = RType 0b0000000 rs2 rs1 0b110 rd 0b0110011
listing (And rd rs1 rs2) = RType 0b0000000 rs2 rs1 0b111 rd 0b0110011
listing (Fence rd rs1 imm) = IType imm rs1 0b000 rd 0b0001111
listing Ecall = Whole 0x00000073
listing Ebreak = Whole 0x00100073
listing (Mul rd rs1 rs2) = RType 0b0000001 rs2 rs1 0b000 rd 0b0110011
listing (Mulh rd rs1 rs2) = RType 0b0000001 rs2 rs1 0b001 rd 0b0110011
listing (Mulhsu rd rs1 rs2) = RType 0b0000001 rs2 rs1 0b010 rd 0b0110011
listing (Mulhu rd rs1 rs2) = RType 0b0000001 rs2 rs1 0b011 rd 0b0110011
listing (Div rd rs1 rs2) = RType 0b0000001 rs2 rs1 0b100 rd 0b0110011
listing (Divu rd rs1 rs2) = RType 0b0000001 rs2 rs1 0b101 rd 0b0110011
listing (Rem rd rs1 rs2) = RType 0b0000001 rs2 rs1 0b110 rd 0b0110011
listing (Remu rd rs1 rs2) = RType 0b0000001 rs2 rs1 0b111 rd 0b0110011

-- -2048 to 2047
abbrev pub IsSigned12 : ℤ → Type 0
IsSigned12 imm = (negsuc 2047 ≤ℤ imm) × (imm <ℤ pos 2048)

-- 0 to 31
abbrev pub IsShiftCount : ℤ → Type 0
IsShiftCount imm = (pos 0 ≤ℤ imm) × (imm <ℤ pos 32)

-- 0 to 2 ^ 20 - 1
abbrev pub IsUnsigned20 : ℤ → Type 0
IsUnsigned20 imm = (pos 0 ≤ℤ imm) × (imm <ℤ pos 1048576)

abbrev pub IsEven : ℤ → Type 0
IsEven imm = cast_unsigned w32 imm % 2 ≡ 0

-- -4096 to 4094 and even
abbrev pub IsBranchOffset : ℤ → Type 0
IsBranchOffset imm = (negsuc 4095 ≤ℤ imm) × (imm <ℤ pos 4096) × IsEven imm

-- -2 ^ 20 to 2 ^ 20 - 2 and even
abbrev pub IsJumpOffset : ℤ → Type 0
IsJumpOffset imm = (negsuc 1048575 ≤ℤ imm) × (imm <ℤ pos 1048576) × IsEven imm

-- The immediate fits its format.
abbrev pub Fits : Layout → Type 0
Fits (RType funct7 rs2 rs1 funct3 rd opcode) = Unit {0}
Fits (IType imm rs1 funct3 rd opcode) = IsSigned12 imm
Fits (ShiftType funct7 imm rs1 funct3 rd opcode) = IsShiftCount imm
Fits (SType imm rs2 rs1 funct3 opcode) = IsSigned12 imm
Fits (BType imm rs2 rs1 funct3 opcode) = IsBranchOffset imm
Fits (UType imm rd opcode) = IsUnsigned20 imm
Fits (JType imm rd opcode) = IsJumpOffset imm
Fits (Whole code) = Unit {0}

abbrev pub IsValid : Inst → Type 0
IsValid inst = Fits (listing inst)

-- The registers are x0 to x31, as every register of the program is.
abbrev pub HasRegisters : Layout → Type 0
HasRegisters (RType funct7 rs2 rs1 funct3 rd opcode) = (rd < 32) × (rs1 < 32) × (rs2 < 32)
HasRegisters (IType imm rs1 funct3 rd opcode) = (rd < 32) × (rs1 < 32)
HasRegisters (ShiftType funct7 imm rs1 funct3 rd opcode) = (rd < 32) × (rs1 < 32)
HasRegisters (SType imm rs2 rs1 funct3 opcode) = (rs1 < 32) × (rs2 < 32)
HasRegisters (BType imm rs2 rs1 funct3 opcode) = (rs1 < 32) × (rs2 < 32)
HasRegisters (UType imm rd opcode) = rd < 32
HasRegisters (JType imm rd opcode) = rd < 32
HasRegisters (Whole code) = Unit {0}

abbrev pub NamesRegisters : Inst → Type 0
NamesRegisters inst = HasRegisters (listing inst)

-- The word of an instruction.
unfoldable pub encoding : Inst → ℕ
encoding inst = word (listing inst)

-- The word is the instruction's, which is one that a program can hold.
abbrev pub Spells : ℕ → Inst → Type 0
Spells code inst = IsValid inst × NamesRegisters inst × (encoding inst ≡ code)
