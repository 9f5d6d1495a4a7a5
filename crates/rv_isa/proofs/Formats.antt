-- Each format both ways: what its word says at each place, and the word that the fields of a word make.
use Rattle.std.proofs.Common.{ℕ, ◌≡◌, ◌+◌, ◌*◌, ◌-◌, ◌<◌, ◌^◌, ℤ, arith, refl}
use Rattle.std.specs.Prelude.{pos, ◌-ℤ◌, ◌%◌}
use Rattle.std.specs.Int.{w32, cast_unsigned}
use Rattle.std.proofs.lemmas.Int.{ints}
use Rattle.rv_isa.specs.Encoding.{IsSigned12, IsShiftCount, IsBranchOffset, IsJumpOffset, IsUnsigned20}
use Rattle.rv_isa.specs.Formats.{RType, IType, ShiftType, SType, BType, UType, JType, part, word}
use Rattle.rv_isa.specs.Fields.{field, opcode_of, rd_of, funct3_of, rs1_of, rs2_of, funct7_of, sign_of, i_imm_of, shift_imm_of, s_imm_of, b_imm_of, u_imm_of, j_imm_of}

-- A signed immediate is its low bits less its sign: there and back.
signed12 : (imm : ℤ) → IsSigned12 imm → pos (part imm 0 11) -ℤ pos (2 ^ 11 * part imm 11 1) ≡ imm
signed12 imm range = grind (arith, ints)

signed13 : (imm : ℤ) → IsBranchOffset imm → pos (part imm 0 12) -ℤ pos (2 ^ 12 * part imm 12 1) ≡ imm
signed13 imm range = grind (arith, ints)

signed21 : (imm : ℤ) → IsJumpOffset imm → pos (part imm 0 20) -ℤ pos (2 ^ 20 * part imm 20 1) ≡ imm
signed21 imm range = grind (arith, ints)

bits12 : (low sign : ℕ) → low < 2 ^ 11 → sign < 2 → cast_unsigned w32 (pos low -ℤ pos (2 ^ 11 * sign)) ≡ low + (2 ^ 32 - 2 ^ 11) * sign
bits12 low sign a b = grind (arith, ints)

bits13 : (low sign : ℕ) → low < 2 ^ 12 → sign < 2 → cast_unsigned w32 (pos low -ℤ pos (2 ^ 12 * sign)) ≡ low + (2 ^ 32 - 2 ^ 12) * sign
bits13 low sign a b = grind (arith, ints)

bits21 : (low sign : ℕ) → low < 2 ^ 20 → sign < 2 → cast_unsigned w32 (pos low -ℤ pos (2 ^ 20 * sign)) ≡ low + (2 ^ 32 - 2 ^ 20) * sign
bits21 low sign a b = grind (arith, ints)

range12 : (low sign : ℕ) → low < 2 ^ 11 → sign < 2 → IsSigned12 (pos low -ℤ pos (2 ^ 11 * sign))
range12 low sign a b = (grind (arith, ints), grind (arith, ints))

range13 : (low sign : ℕ) → low < 2 ^ 12 → low % 2 ≡ 0 → sign < 2 → IsBranchOffset (pos low -ℤ pos (2 ^ 12 * sign))
range13 low sign a even b = (grind (arith, ints), grind (arith, ints), rw (bits13 low sign a b) (omega arith))

range21 : (low sign : ℕ) → low < 2 ^ 20 → low % 2 ≡ 0 → sign < 2 → IsJumpOffset (pos low -ℤ pos (2 ^ 20 * sign))
range21 low sign a even b = (grind (arith, ints), grind (arith, ints), rw (bits21 low sign a b) (omega arith))

-- format R
pub record SaysR (code funct7 rs2 rs1 funct3 rd opcode : ℕ) : Type 0 where
  pub in_range : code < 2 ^ 32
  pub opcode_is : opcode_of code ≡ opcode
  pub rd_is : rd_of code ≡ rd
  pub funct3_is : funct3_of code ≡ funct3
  pub rs1_is : rs1_of code ≡ rs1
  pub rs2_is : rs2_of code ≡ rs2
  pub funct7_is : funct7_of code ≡ funct7

pub r_type-says : (funct7 rs2 rs1 funct3 rd opcode : ℕ) → funct7 < 2 ^ 7 → funct3 < 2 ^ 3 → opcode < 2 ^ 7 → (rd < 32) × (rs1 < 32) × (rs2 < 32)
    → SaysR (word (RType funct7 rs2 rs1 funct3 rd opcode)) funct7 rs2 rs1 funct3 rd opcode
r_type-says funct7 rs2 rs1 funct3 rd opcode g f o n =
    record {
      in_range = omega arith;
      opcode_is = omega arith;
      rd_is = omega arith;
      funct3_is = omega arith;
      rs1_is = omega arith;
      rs2_is = omega arith;
      funct7_is = omega arith;
    }

pub r_type-fields : (code : ℕ) → code < 2 ^ 32
    → word (RType (funct7_of code) (rs2_of code) (rs1_of code) (funct3_of code) (rd_of code) (opcode_of code)) ≡ code
r_type-fields code below = omega arith

-- format I
pub record SaysI (code : ℕ) (imm : ℤ) (rs1 funct3 rd opcode : ℕ) : Type 0 where
  pub in_range : code < 2 ^ 32
  pub opcode_is : opcode_of code ≡ opcode
  pub rd_is : rd_of code ≡ rd
  pub funct3_is : funct3_of code ≡ funct3
  pub rs1_is : rs1_of code ≡ rs1
  pub imm_is : i_imm_of code ≡ imm

i_bits : (bits rs1 funct3 rd opcode : ℕ) → funct3 < 2 ^ 3 → opcode < 2 ^ 7 → rd < 32 → rs1 < 32 → (code : ℕ)
    → code ≡ opcode + 128 * (rd + 32 * (funct3 + 8 * (rs1 + 32 * (field bits 0 12 + 4096 * 0))))
    → (code < 2 ^ 32) × (opcode_of code ≡ opcode) × (rd_of code ≡ rd) × (funct3_of code ≡ funct3) × (rs1_of code ≡ rs1)
    × (field code 20 11 ≡ field bits 0 11) × (sign_of code ≡ field bits 11 1)
i_bits bits rs1 funct3 rd opcode f o d a code is = (omega arith, omega arith, omega arith, omega arith, omega arith, omega arith, omega arith)

pub i_type-says : (imm : ℤ) (rs1 funct3 rd opcode : ℕ) → funct3 < 2 ^ 3 → opcode < 2 ^ 7 → (rd < 32) × (rs1 < 32) → IsSigned12 imm
    → SaysI (word (IType imm rs1 funct3 rd opcode)) imm rs1 funct3 rd opcode
i_type-says imm rs1 funct3 rd opcode f o n fits =
    let bits = i_bits (cast_unsigned w32 imm) rs1 funct3 rd opcode f o n.0 n.1 (word (IType imm rs1 funct3 rd opcode)) refl in
    record {
      in_range = bits.0;
      opcode_is = bits.1;
      rd_is = bits.2;
      funct3_is = bits.3;
      rs1_is = bits.4;
      imm_is = rw (bits.5, bits.6) (signed12 imm fits);
    }

pub i_type-fields : (code : ℕ) → code < 2 ^ 32
    → word (IType (i_imm_of code) (rs1_of code) (funct3_of code) (rd_of code) (opcode_of code)) ≡ code
i_type-fields code below = rw (bits12 (field code 20 11) (sign_of code) (omega arith) (omega arith)) (omega arith)

pub i_type-range : (code : ℕ) → IsSigned12 (i_imm_of code)
i_type-range code = range12 (field code 20 11) (sign_of code) (omega arith) (omega arith)

-- format I of a shift
pub record SaysShift (code funct7 : ℕ) (imm : ℤ) (rs1 funct3 rd opcode : ℕ) : Type 0 where
  pub in_range : code < 2 ^ 32
  pub opcode_is : opcode_of code ≡ opcode
  pub rd_is : rd_of code ≡ rd
  pub funct3_is : funct3_of code ≡ funct3
  pub rs1_is : rs1_of code ≡ rs1
  pub imm_is : shift_imm_of code ≡ imm
  pub funct7_is : funct7_of code ≡ funct7

pub shift_type-says : (funct7 : ℕ) (imm : ℤ) (rs1 funct3 rd opcode : ℕ) → funct7 < 2 ^ 7 → funct3 < 2 ^ 3 → opcode < 2 ^ 7 → (rd < 32) × (rs1 < 32) → IsShiftCount imm
    → SaysShift (word (ShiftType funct7 imm rs1 funct3 rd opcode)) funct7 imm rs1 funct3 rd opcode
shift_type-says funct7 imm rs1 funct3 rd opcode g f o n fits =
    record {
      in_range = omega arith;
      opcode_is = omega arith;
      rd_is = omega arith;
      funct3_is = omega arith;
      rs1_is = omega arith;
      imm_is = grind (arith, ints);
      funct7_is = omega arith;
    }

pub shift_type-fields : (code : ℕ) → code < 2 ^ 32
    → word (ShiftType (funct7_of code) (shift_imm_of code) (rs1_of code) (funct3_of code) (rd_of code) (opcode_of code)) ≡ code
shift_type-fields code below = omega arith

pub shift_type-range : (code : ℕ) → IsShiftCount (shift_imm_of code)
shift_type-range code = grind (arith, ints)

-- format S
pub record SaysS (code : ℕ) (imm : ℤ) (rs2 rs1 funct3 opcode : ℕ) : Type 0 where
  pub in_range : code < 2 ^ 32
  pub opcode_is : opcode_of code ≡ opcode
  pub funct3_is : funct3_of code ≡ funct3
  pub rs1_is : rs1_of code ≡ rs1
  pub rs2_is : rs2_of code ≡ rs2
  pub imm_is : s_imm_of code ≡ imm

s_bits : (bits rs2 rs1 funct3 opcode : ℕ) → funct3 < 2 ^ 3 → opcode < 2 ^ 7 → rs1 < 32 → rs2 < 32 → (code : ℕ)
    → code ≡ opcode + 128 * (field bits 0 5 + 32 * (funct3 + 8 * (rs1 + 32 * (rs2 + 32 * (field bits 5 7 + 128 * 0)))))
    → (code < 2 ^ 32) × (opcode_of code ≡ opcode) × (funct3_of code ≡ funct3) × (rs1_of code ≡ rs1) × (rs2_of code ≡ rs2)
    × (field code 7 5 + 2 ^ 5 * field code 25 6 ≡ field bits 0 11) × (sign_of code ≡ field bits 11 1)
s_bits bits rs2 rs1 funct3 opcode f o a b code is = (omega arith, omega arith, omega arith, omega arith, omega arith, omega arith, omega arith)

pub s_type-says : (imm : ℤ) (rs2 rs1 funct3 opcode : ℕ) → funct3 < 2 ^ 3 → opcode < 2 ^ 7 → (rs1 < 32) × (rs2 < 32) → IsSigned12 imm
    → SaysS (word (SType imm rs2 rs1 funct3 opcode)) imm rs2 rs1 funct3 opcode
s_type-says imm rs2 rs1 funct3 opcode f o n fits =
    let bits = s_bits (cast_unsigned w32 imm) rs2 rs1 funct3 opcode f o n.0 n.1 (word (SType imm rs2 rs1 funct3 opcode)) refl in
    record {
      in_range = bits.0;
      opcode_is = bits.1;
      funct3_is = bits.2;
      rs1_is = bits.3;
      rs2_is = bits.4;
      imm_is = rw (bits.5, bits.6) (signed12 imm fits);
    }

pub s_type-fields : (code : ℕ) → code < 2 ^ 32
    → word (SType (s_imm_of code) (rs2_of code) (rs1_of code) (funct3_of code) (opcode_of code)) ≡ code
s_type-fields code below =
    rw (bits12 (field code 7 5 + 2 ^ 5 * field code 25 6) (sign_of code) (omega arith) (omega arith)) (omega arith)

pub s_type-range : (code : ℕ) → IsSigned12 (s_imm_of code)
s_type-range code = range12 (field code 7 5 + 2 ^ 5 * field code 25 6) (sign_of code) (omega arith) (omega arith)

-- format B
pub record SaysB (code : ℕ) (imm : ℤ) (rs2 rs1 funct3 opcode : ℕ) : Type 0 where
  pub in_range : code < 2 ^ 32
  pub opcode_is : opcode_of code ≡ opcode
  pub funct3_is : funct3_of code ≡ funct3
  pub rs1_is : rs1_of code ≡ rs1
  pub rs2_is : rs2_of code ≡ rs2
  pub imm_is : b_imm_of code ≡ imm

b_bits : (a b c d rs2 rs1 funct3 opcode : ℕ) → a < 2 → b < 16 → c < 64 → d < 2 → funct3 < 2 ^ 3 → opcode < 2 ^ 7 → rs1 < 32 → rs2 < 32 → (code : ℕ)
    → code ≡ opcode + 128 * (a + 2 * (b + 16 * (funct3 + 8 * (rs1 + 32 * (rs2 + 32 * (c + 64 * (d + 2 * 0)))))))
    → (code < 2 ^ 32) × (opcode_of code ≡ opcode) × (funct3_of code ≡ funct3) × (rs1_of code ≡ rs1) × (rs2_of code ≡ rs2)
    × (field code 7 1 ≡ a) × (field code 8 4 ≡ b) × (field code 25 6 ≡ c) × (sign_of code ≡ d)
b_bits a b c d rs2 rs1 funct3 opcode h i j k f o p q code is = (omega arith, omega arith, omega arith, omega arith, omega arith, omega arith, omega arith, omega arith, omega arith)

b_whole : (bits : ℕ) → bits % 2 ≡ 0 → 2 * field bits 1 4 + 2 ^ 5 * field bits 5 6 + 2 ^ 11 * field bits 11 1 ≡ field bits 0 12
b_whole bits even = omega arith

pub b_type-says : (imm : ℤ) (rs2 rs1 funct3 opcode : ℕ) → funct3 < 2 ^ 3 → opcode < 2 ^ 7 → (rs1 < 32) × (rs2 < 32) → IsBranchOffset imm
    → SaysB (word (BType imm rs2 rs1 funct3 opcode)) imm rs2 rs1 funct3 opcode
b_type-says imm rs2 rs1 funct3 opcode f o n fits =
    let bits = b_bits (part imm 11 1) (part imm 1 4) (part imm 5 6) (part imm 12 1) rs2 rs1 funct3 opcode (omega arith) (omega arith) (omega arith) (omega arith) f o n.0 n.1 (word (BType imm rs2 rs1 funct3 opcode)) refl in
    record {
      in_range = bits.0;
      opcode_is = bits.1;
      funct3_is = bits.2;
      rs1_is = bits.3;
      rs2_is = bits.4;
      imm_is = rw (bits.5, bits.6, bits.7, bits.8, b_whole (cast_unsigned w32 imm) fits.2) (signed13 imm fits);
    }

pub b_type-fields : (code : ℕ) → code < 2 ^ 32
    → word (BType (b_imm_of code) (rs2_of code) (rs1_of code) (funct3_of code) (opcode_of code)) ≡ code
b_type-fields code below =
    rw (bits13 (2 * field code 8 4 + 2 ^ 5 * field code 25 6 + 2 ^ 11 * field code 7 1) (sign_of code) (omega arith) (omega arith)) (omega arith)

pub b_type-range : (code : ℕ) → IsBranchOffset (b_imm_of code)
b_type-range code =
    range13 (2 * field code 8 4 + 2 ^ 5 * field code 25 6 + 2 ^ 11 * field code 7 1) (sign_of code) (omega arith) (omega arith) (omega arith)

-- format U
pub record SaysU (code : ℕ) (imm : ℤ) (rd opcode : ℕ) : Type 0 where
  pub in_range : code < 2 ^ 32
  pub opcode_is : opcode_of code ≡ opcode
  pub rd_is : rd_of code ≡ rd
  pub imm_is : u_imm_of code ≡ imm

pub u_type-says : (imm : ℤ) (rd opcode : ℕ) → opcode < 2 ^ 7 → rd < 32 → IsUnsigned20 imm → SaysU (word (UType imm rd opcode)) imm rd opcode
u_type-says imm rd opcode o n fits =
    record {
      in_range = omega arith;
      opcode_is = omega arith;
      rd_is = omega arith;
      imm_is = grind (arith, ints);
    }

pub u_type-fields : (code : ℕ) → code < 2 ^ 32 → word (UType (u_imm_of code) (rd_of code) (opcode_of code)) ≡ code
u_type-fields code below = omega arith

pub u_type-range : (code : ℕ) → IsUnsigned20 (u_imm_of code)
u_type-range code = grind (arith, ints)

-- format J
pub record SaysJ (code : ℕ) (imm : ℤ) (rd opcode : ℕ) : Type 0 where
  pub in_range : code < 2 ^ 32
  pub opcode_is : opcode_of code ≡ opcode
  pub rd_is : rd_of code ≡ rd
  pub imm_is : j_imm_of code ≡ imm

j_bits : (a b c d rd opcode : ℕ) → a < 256 → b < 2 → c < 1024 → d < 2 → opcode < 2 ^ 7 → rd < 32 → (code : ℕ)
    → code ≡ opcode + 128 * (rd + 32 * (a + 256 * (b + 2 * (c + 1024 * (d + 2 * 0)))))
    → (code < 2 ^ 32) × (opcode_of code ≡ opcode) × (rd_of code ≡ rd)
    × (field code 12 8 ≡ a) × (field code 20 1 ≡ b) × (field code 21 10 ≡ c) × (sign_of code ≡ d)
j_bits a b c d rd opcode h i j k o n code is = (omega arith, omega arith, omega arith, omega arith, omega arith, omega arith, omega arith)

j_whole : (bits : ℕ) → bits % 2 ≡ 0 → 2 * field bits 1 10 + 2 ^ 11 * field bits 11 1 + 2 ^ 12 * field bits 12 8 ≡ field bits 0 20
j_whole bits even = omega arith

pub j_type-says : (imm : ℤ) (rd opcode : ℕ) → opcode < 2 ^ 7 → rd < 32 → IsJumpOffset imm → SaysJ (word (JType imm rd opcode)) imm rd opcode
j_type-says imm rd opcode o n fits =
    let bits = j_bits (part imm 12 8) (part imm 11 1) (part imm 1 10) (part imm 20 1) rd opcode (omega arith) (omega arith) (omega arith) (omega arith) o n (word (JType imm rd opcode)) refl in
    record {
      in_range = bits.0;
      opcode_is = bits.1;
      rd_is = bits.2;
      imm_is = rw (bits.3, bits.4, bits.5, bits.6, j_whole (cast_unsigned w32 imm) fits.2) (signed21 imm fits);
    }

pub j_type-fields : (code : ℕ) → code < 2 ^ 32 → word (JType (j_imm_of code) (rd_of code) (opcode_of code)) ≡ code
j_type-fields code below =
    rw (bits21 (2 * field code 21 10 + 2 ^ 11 * field code 20 1 + 2 ^ 12 * field code 12 8) (sign_of code) (omega arith) (omega arith)) (omega arith)

pub j_type-range : (code : ℕ) → IsJumpOffset (j_imm_of code)
j_type-range code =
    range21 (2 * field code 21 10 + 2 ^ 11 * field code 20 1 + 2 ^ 12 * field code 12 8) (sign_of code) (omega arith) (omega arith) (omega arith)
