-- The instruction formats of RV32I, as the RISC-V manual draws them: how a word is made of its fields.
use Rattle.std.specs.Prelude.{ℕ, ◌+◌, ◌*◌, ◌^◌, List, [], ◌∷◌, ℤ}
use Rattle.std.specs.Int.{w32, cast_unsigned}
use Rattle.rv_isa.specs.Fields.{field}

-- A format with the values of its fields, from the highest bit down.
pub data Layout : Type 0 where
  RType : (funct7 rs2 rs1 funct3 rd opcode : ℕ) → Layout
  IType : (imm : ℤ) (rs1 funct3 rd opcode : ℕ) → Layout
  -- the format I of a shift by a constant
  ShiftType : (funct7 : ℕ) (imm : ℤ) (rs1 funct3 rd opcode : ℕ) → Layout
  SType : (imm : ℤ) (rs2 rs1 funct3 opcode : ℕ) → Layout
  BType : (imm : ℤ) (rs2 rs1 funct3 opcode : ℕ) → Layout
  UType : (imm : ℤ) (rd opcode : ℕ) → Layout
  JType : (imm : ℤ) (rd opcode : ℕ) → Layout
  -- a word without fields
  Whole : ℕ → Layout

-- so many bits of an immediate in two's complement, from a bit up
abbrev pub part : (imm : ℤ) (from width : ℕ) → ℕ
part imm from width = field (cast_unsigned w32 imm) from width

-- a word made of fields from its lowest bit up, each with its width in bits
abbrev pub joined : List (ℕ × ℕ) → ℕ
joined [] = 0
joined (field ∷ fields) = field.1 + 2 ^ field.0 * joined fields

-- the word of a layout
abbrev pub word : Layout → ℕ
word (RType funct7 rs2 rs1 funct3 rd opcode) =
    joined ((7, opcode) ∷ (5, rd) ∷ (3, funct3) ∷ (5, rs1) ∷ (5, rs2) ∷ (7, funct7) ∷ [])
word (IType imm rs1 funct3 rd opcode) =
    joined ((7, opcode) ∷ (5, rd) ∷ (3, funct3) ∷ (5, rs1) ∷ (12, part imm 0 12) ∷ [])
word (ShiftType funct7 imm rs1 funct3 rd opcode) =
    joined ((7, opcode) ∷ (5, rd) ∷ (3, funct3) ∷ (5, rs1) ∷ (5, part imm 0 5) ∷ (7, funct7) ∷ [])
word (SType imm rs2 rs1 funct3 opcode) =
    joined ((7, opcode) ∷ (5, part imm 0 5) ∷ (3, funct3) ∷ (5, rs1) ∷ (5, rs2) ∷ (7, part imm 5 7) ∷ [])
word (BType imm rs2 rs1 funct3 opcode) =
    joined ((7, opcode) ∷ (1, part imm 11 1) ∷ (4, part imm 1 4) ∷ (3, funct3) ∷ (5, rs1) ∷ (5, rs2) ∷ (6, part imm 5 6) ∷ (1, part imm 12 1) ∷ [])
word (UType imm rd opcode) =
    joined ((7, opcode) ∷ (5, rd) ∷ (20, part imm 0 20) ∷ [])
word (JType imm rd opcode) =
    joined ((7, opcode) ∷ (5, rd) ∷ (8, part imm 12 8) ∷ (1, part imm 11 1) ∷ (10, part imm 1 10) ∷ (1, part imm 20 1) ∷ [])
word (Whole code) = code
