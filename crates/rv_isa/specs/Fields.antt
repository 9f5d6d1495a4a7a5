-- The fields of a word, as the RISC-V manual draws them, and the immediates that they make.
use Rattle.std.specs.Prelude.{ℕ, ◌+◌, ◌*◌, ◌/◌, ◌%◌, ◌^◌, ℤ, pos, ◌-ℤ◌}

-- so many bits of a word, from a bit up
abbrev pub field : (code from width : ℕ) → ℕ
field code from width = code / 2 ^ from % 2 ^ width

-- the fields that stand in the same place in each format that has them
abbrev pub opcode_of : ℕ → ℕ
opcode_of code = field code 0 7

abbrev pub rd_of : ℕ → ℕ
rd_of code = field code 7 5

abbrev pub funct3_of : ℕ → ℕ
funct3_of code = field code 12 3

abbrev pub rs1_of : ℕ → ℕ
rs1_of code = field code 15 5

abbrev pub rs2_of : ℕ → ℕ
rs2_of code = field code 20 5

abbrev pub funct7_of : ℕ → ℕ
funct7_of code = field code 25 7

-- the sign of every signed immediate: two's complement counts it negatively
abbrev pub sign_of : ℕ → ℕ
sign_of code = field code 31 1

-- the immediate of each format
abbrev pub i_imm_of : ℕ → ℤ
i_imm_of code = pos (field code 20 11) -ℤ pos (2 ^ 11 * sign_of code)

abbrev pub shift_imm_of : ℕ → ℤ
shift_imm_of code = pos (field code 20 5)

abbrev pub s_imm_of : ℕ → ℤ
s_imm_of code = pos (field code 7 5 + 2 ^ 5 * field code 25 6) -ℤ pos (2 ^ 11 * sign_of code)

abbrev pub b_imm_of : ℕ → ℤ
b_imm_of code =
    pos (2 * field code 8 4 + 2 ^ 5 * field code 25 6 + 2 ^ 11 * field code 7 1) -ℤ pos (2 ^ 12 * sign_of code)

abbrev pub u_imm_of : ℕ → ℤ
u_imm_of code = pos (field code 12 20)

abbrev pub j_imm_of : ℕ → ℤ
j_imm_of code =
    pos (2 * field code 21 10 + 2 ^ 11 * field code 20 1 + 2 ^ 12 * field code 12 8) -ℤ pos (2 ^ 20 * sign_of code)
