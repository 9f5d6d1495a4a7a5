-- What the instructions compute of two registers, each a number below 2 ^ 32. A signed reading is two's complement.
use Rattle.std.specs.Prelude.{ℕ, ◌+◌, ◌-◌, ◌*◌, ◌/◌, ◌%◌, ◌^◌, ◌==◌, nat_lt, if◌then◌else◌, ℤ, pos, ◌*ℤ◌, int_lt, int_div, int_rem}
use Rattle.std.specs.Int.{w32, cast_unsigned, cast_signed, int_shr}

abbrev pub signed : ℕ → ℤ
signed x = cast_signed w32 x

-- the word of a number from -2 ^ 31 to 2 ^ 32 - 1, in two's complement
abbrev pub bits : ℤ → ℕ
bits z = cast_unsigned w32 z

abbrev pub add : (x y : ℕ) → ℕ
add x y = (x + y) % 2 ^ 32

abbrev pub sub : (x y : ℕ) → ℕ
sub x y = (x + (2 ^ 32 - y)) % 2 ^ 32

-- shifts, by the low five bits of the second
abbrev pub sll : (x y : ℕ) → ℕ
sll x y = (x * 2 ^ (y % 32)) % 2 ^ 32

abbrev pub srl : (x y : ℕ) → ℕ
srl x y = x / 2 ^ (y % 32)

abbrev pub sra : (x y : ℕ) → ℕ
sra x y = bits (int_shr (signed x) (y % 32))

-- comparisons, as 1 or 0
abbrev pub slt : (x y : ℕ) → ℕ
slt x y = if int_lt (signed x) (signed y) then 1 else 0

abbrev pub sltu : (x y : ℕ) → ℕ
sltu x y = if nat_lt x y then 1 else 0

-- the low half of a product, and its high half with both factors signed, the first alone, or neither
abbrev pub mul : (x y : ℕ) → ℕ
mul x y = (x * y) % 2 ^ 32

abbrev pub mulh : (x y : ℕ) → ℕ
mulh x y = bits (int_shr (signed x *ℤ signed y) 32)

abbrev pub mulhsu : (x y : ℕ) → ℕ
mulhsu x y = bits (int_shr (signed x *ℤ pos y) 32)

abbrev pub mulhu : (x y : ℕ) → ℕ
mulhu x y = (x * y) / 2 ^ 32

-- division toward zero; by zero all bits are ones and the remainder is the dividend; -2 ^ 31 by -1 is itself, and the
-- remainder 0
abbrev pub div : (x y : ℕ) → ℕ
div x y = if y == 0 then 2 ^ 32 - 1 else bits (int_div (signed x) (signed y))

abbrev pub divu : (x y : ℕ) → ℕ
divu x y = if y == 0 then 2 ^ 32 - 1 else x / y

abbrev pub rem : (x y : ℕ) → ℕ
rem x y = if y == 0 then x else bits (int_rem (signed x) (signed y))

abbrev pub remu : (x y : ℕ) → ℕ
remu x y = if y == 0 then x else x % y
