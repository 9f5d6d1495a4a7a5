-- The instruction table read the other way: the instruction that a word spells, where it spells one.
use Rattle.std.specs.Prelude.{ℕ, ◌==◌, if◌then◌else◌, Option, Some, None}
use Rattle.rv_isa.specs.declared.inst.Inst.{Inst}
use Rattle.rv_isa.specs.declared.inst.Inst.TheVariants.{Lui, Auipc, Jal, Jalr, Beq, Bne, Blt, Bge, Bltu, Bgeu, Lb, Lh, Lw, Lbu, Lhu, Sb, Sh, Sw, Addi, Slti, Sltiu, Xori, Ori, Andi, Slli, Srli, Srai, Add, Sub, Sll, Slt, Sltu, Xor, Srl, Sra, Or, And, Fence, Ecall, Ebreak, Mul, Mulh, Mulhsu, Mulhu, Div, Divu, Rem, Remu}
use Rattle.rv_isa.specs.Fields.{opcode_of, rd_of, funct3_of, rs1_of, rs2_of, funct7_of, i_imm_of, shift_imm_of, s_imm_of, b_imm_of, u_imm_of, j_imm_of}

-- the opcode JALR
unfoldable pub decoded_jalr : ℕ → Option Inst
decoded_jalr code =
    if funct3_of code == 0b000 then Some (Jalr (rd_of code) (rs1_of code) (i_imm_of code))
    else None

-- the opcode BRANCH
unfoldable pub decoded_branch : ℕ → Option Inst
decoded_branch code =
    if funct3_of code == 0b000 then Some (Beq (rs1_of code) (rs2_of code) (b_imm_of code))
    else if funct3_of code == 0b001 then Some (Bne (rs1_of code) (rs2_of code) (b_imm_of code))
    else if funct3_of code == 0b100 then Some (Blt (rs1_of code) (rs2_of code) (b_imm_of code))
    else if funct3_of code == 0b101 then Some (Bge (rs1_of code) (rs2_of code) (b_imm_of code))
    else if funct3_of code == 0b110 then Some (Bltu (rs1_of code) (rs2_of code) (b_imm_of code))
    else if funct3_of code == 0b111 then Some (Bgeu (rs1_of code) (rs2_of code) (b_imm_of code))
    else None

-- the opcode LOAD
unfoldable pub decoded_load : ℕ → Option Inst
decoded_load code =
    if funct3_of code == 0b000 then Some (Lb (rd_of code) (rs1_of code) (i_imm_of code))
    else if funct3_of code == 0b001 then Some (Lh (rd_of code) (rs1_of code) (i_imm_of code))
    else if funct3_of code == 0b010 then Some (Lw (rd_of code) (rs1_of code) (i_imm_of code))
    else if funct3_of code == 0b100 then Some (Lbu (rd_of code) (rs1_of code) (i_imm_of code))
    else if funct3_of code == 0b101 then Some (Lhu (rd_of code) (rs1_of code) (i_imm_of code))
    else None

-- the opcode STORE
unfoldable pub decoded_store : ℕ → Option Inst
decoded_store code =
    if funct3_of code == 0b000 then Some (Sb (rs1_of code) (rs2_of code) (s_imm_of code))
    else if funct3_of code == 0b001 then Some (Sh (rs1_of code) (rs2_of code) (s_imm_of code))
    else if funct3_of code == 0b010 then Some (Sw (rs1_of code) (rs2_of code) (s_imm_of code))
    else None

-- the opcode OP-IMM, where funct3 is that of a shift to the left
unfoldable pub decoded_left_shift : ℕ → Option Inst
decoded_left_shift code =
    if funct7_of code == 0b0000000 then Some (Slli (rd_of code) (rs1_of code) (shift_imm_of code))
    else None

-- the opcode OP-IMM, where funct3 is that of the shifts to the right
unfoldable pub decoded_right_shift : ℕ → Option Inst
decoded_right_shift code =
    if funct7_of code == 0b0000000 then Some (Srli (rd_of code) (rs1_of code) (shift_imm_of code))
    else if funct7_of code == 0b0100000 then Some (Srai (rd_of code) (rs1_of code) (shift_imm_of code))
    else None

-- the opcode OP-IMM
unfoldable pub decoded_op_imm : ℕ → Option Inst
decoded_op_imm code =
    if funct3_of code == 0b000 then Some (Addi (rd_of code) (rs1_of code) (i_imm_of code))
    else if funct3_of code == 0b001 then decoded_left_shift code
    else if funct3_of code == 0b010 then Some (Slti (rd_of code) (rs1_of code) (i_imm_of code))
    else if funct3_of code == 0b011 then Some (Sltiu (rd_of code) (rs1_of code) (i_imm_of code))
    else if funct3_of code == 0b100 then Some (Xori (rd_of code) (rs1_of code) (i_imm_of code))
    else if funct3_of code == 0b101 then decoded_right_shift code
    else if funct3_of code == 0b110 then Some (Ori (rd_of code) (rs1_of code) (i_imm_of code))
    else if funct3_of code == 0b111 then Some (Andi (rd_of code) (rs1_of code) (i_imm_of code))
    else None

-- the opcode OP with funct7 0000000
unfoldable pub decoded_base_op : ℕ → Option Inst
decoded_base_op code =
    if funct3_of code == 0b000 then Some (Add (rd_of code) (rs1_of code) (rs2_of code))
    else if funct3_of code == 0b001 then Some (Sll (rd_of code) (rs1_of code) (rs2_of code))
    else if funct3_of code == 0b010 then Some (Slt (rd_of code) (rs1_of code) (rs2_of code))
    else if funct3_of code == 0b011 then Some (Sltu (rd_of code) (rs1_of code) (rs2_of code))
    else if funct3_of code == 0b100 then Some (Xor (rd_of code) (rs1_of code) (rs2_of code))
    else if funct3_of code == 0b101 then Some (Srl (rd_of code) (rs1_of code) (rs2_of code))
    else if funct3_of code == 0b110 then Some (Or (rd_of code) (rs1_of code) (rs2_of code))
    else if funct3_of code == 0b111 then Some (And (rd_of code) (rs1_of code) (rs2_of code))
    else None

-- the opcode OP with funct7 0100000
unfoldable pub decoded_other_op : ℕ → Option Inst
decoded_other_op code =
    if funct3_of code == 0b000 then Some (Sub (rd_of code) (rs1_of code) (rs2_of code))
    else if funct3_of code == 0b101 then Some (Sra (rd_of code) (rs1_of code) (rs2_of code))
    else None

-- the opcode OP with funct7 0000001
unfoldable pub decoded_multiply : ℕ → Option Inst
decoded_multiply code =
    if funct3_of code == 0b000 then Some (Mul (rd_of code) (rs1_of code) (rs2_of code))
    else if funct3_of code == 0b001 then Some (Mulh (rd_of code) (rs1_of code) (rs2_of code))
    else if funct3_of code == 0b010 then Some (Mulhsu (rd_of code) (rs1_of code) (rs2_of code))
    else if funct3_of code == 0b011 then Some (Mulhu (rd_of code) (rs1_of code) (rs2_of code))
    else if funct3_of code == 0b100 then Some (Div (rd_of code) (rs1_of code) (rs2_of code))
    else if funct3_of code == 0b101 then Some (Divu (rd_of code) (rs1_of code) (rs2_of code))
    else if funct3_of code == 0b110 then Some (Rem (rd_of code) (rs1_of code) (rs2_of code))
    else if funct3_of code == 0b111 then Some (Remu (rd_of code) (rs1_of code) (rs2_of code))
    else None

-- the opcode OP
unfoldable pub decoded_op : ℕ → Option Inst
decoded_op code =
    if funct7_of code == 0b0000000 then decoded_base_op code
    else if funct7_of code == 0b0100000 then decoded_other_op code
    else if funct7_of code == 0b0000001 then decoded_multiply code
    else None

-- the opcode MISC-MEM
unfoldable pub decoded_misc_mem : ℕ → Option Inst
decoded_misc_mem code =
    if funct3_of code == 0b000 then Some (Fence (rd_of code) (rs1_of code) (i_imm_of code))
    else None

-- the opcode SYSTEM, whose words have no fields of their own
unfoldable pub decoded_system : ℕ → Option Inst
decoded_system code =
    if code == 0x00000073 then Some Ecall
    else if code == 0x00100073 then Some Ebreak
    else None

-- the whole table, by opcode
unfoldable pub decoded : ℕ → Option Inst
decoded code =
    if opcode_of code == 0b0110111 then Some (Lui (rd_of code) (u_imm_of code))
    else if opcode_of code == 0b0010111 then Some (Auipc (rd_of code) (u_imm_of code))
    else if opcode_of code == 0b1101111 then Some (Jal (rd_of code) (j_imm_of code))
    else if opcode_of code == 0b1100111 then decoded_jalr code
    else if opcode_of code == 0b1100011 then decoded_branch code
    else if opcode_of code == 0b0000011 then decoded_load code
    else if opcode_of code == 0b0100011 then decoded_store code
    else if opcode_of code == 0b0010011 then decoded_op_imm code
    else if opcode_of code == 0b0110011 then decoded_op code
    else if opcode_of code == 0b0001111 then decoded_misc_mem code
    else if opcode_of code == 0b1110011 then decoded_system code
    else None
