-- Arithmetic of words: what it gives, and what keeps the base of an operand. Values are below 2 ^ 32; arithmetic wraps. A signed
-- value is two's complement.
use Rattle.std.specs.Prelude.{ℕ, zero, suc, ◌+◌, ◌*◌, ◌-◌, ◌/◌, ◌%◌, ◌^◌, ◌==◌, nat_lt, nat_le, not, Bool, true, false, if◌then◌else◌, bit_and, bit_or, bit_xor, Option, Some, None, ℤ, int_lt, int_le, int_div, int_rem}
use Rattle.std.specs.Int.{w32, cast_unsigned, cast_signed, int_shr}
use Rattle.fsc_base.specs.declared.word.Word.{Word}

-- ---- values and bases

-- a word without a base
abbrev pub plain : ℕ → Word
plain value = record { value = value; block = 0 }

abbrev pub signed : ℕ → ℤ
signed value = cast_signed w32 value

-- the value of a number from -2 ^ 31 to 2 ^ 32 - 1
abbrev pub wrapped : ℤ → ℕ
wrapped number = cast_unsigned w32 number

-- the base that the result of two operands keeps where exactly one of them has one
abbrev pub one_base : (left right : ℕ) → ℕ
one_base zero right = right
one_base (suc left) zero = suc left
one_base (suc left) (suc right) = 0

-- the left base, where the right operand has none
abbrev pub left_base : (left right : ℕ) → ℕ
left_base left zero = left
left_base left (suc right) = 0

-- ---- operators that keep a base

-- + keeps one base
abbrev pub sum_of : (left right : Word) → Word
sum_of left right = record { value = (left.value + right.value) % 2 ^ 32; block = one_base left.block right.block }

-- - keeps the left base
abbrev pub difference_of : (left right : Word) → Word
difference_of left right =
    record { value = (left.value + 2 ^ 32 - right.value) % 2 ^ 32; block = left_base left.block right.block }

-- & | ^ keep one base
abbrev pub and_of : (left right : Word) → Word
and_of left right = record { value = bit_and left.value right.value; block = one_base left.block right.block }

abbrev pub or_of : (left right : Word) → Word
or_of left right = record { value = bit_or left.value right.value; block = one_base left.block right.block }

abbrev pub xor_of : (left right : Word) → Word
xor_of left right = record { value = bit_xor left.value right.value; block = one_base left.block right.block }

-- ---- every other operator drops the bases

abbrev pub product_of : (left right : Word) → Word
product_of left right = plain (left.value * right.value % 2 ^ 32)

-- division by zero has no result; others truncate toward zero, and of the least int by -1 the quotient is itself
abbrev pub unless_zero : (divisor : ℕ) → (value : ℕ) → Option Word
unless_zero zero value = None
unless_zero (suc divisor) value = Some (plain value)

abbrev pub quotient_of : (left right : Word) → Option Word
quotient_of left right = unless_zero right.value (wrapped (int_div (signed left.value) (signed right.value)))

abbrev pub remainder_of : (left right : Word) → Option Word
remainder_of left right = unless_zero right.value (wrapped (int_rem (signed left.value) (signed right.value)))

abbrev pub unsigned_quotient_of : (left right : Word) → Option Word
unsigned_quotient_of left right = unless_zero right.value (left.value / right.value)

abbrev pub unsigned_remainder_of : (left right : Word) → Option Word
unsigned_remainder_of left right = unless_zero right.value (left.value % right.value)

-- shifts, by the right operand modulo 32; a signed right shift keeps the sign
abbrev pub shifted_left_of : (left right : Word) → Word
shifted_left_of left right = plain (left.value * 2 ^ (right.value % 32) % 2 ^ 32)

abbrev pub unsigned_shifted_right_of : (left right : Word) → Word
unsigned_shifted_right_of left right = plain (left.value / 2 ^ (right.value % 32))

abbrev pub shifted_right_of : (left right : Word) → Word
shifted_right_of left right = plain (wrapped (int_shr (signed left.value) (right.value % 32)))

-- comparisons look at values alone, and give 1 or 0
abbrev pub truth : Bool → Word
truth holds = plain (if holds then 1 else 0)

abbrev pub equal_of : (left right : Word) → Word
equal_of left right = truth (left.value == right.value)

abbrev pub unequal_of : (left right : Word) → Word
unequal_of left right = truth (not (left.value == right.value))

abbrev pub less_of : (left right : Word) → Word
less_of left right = truth (int_lt (signed left.value) (signed right.value))

abbrev pub unsigned_less_of : (left right : Word) → Word
unsigned_less_of left right = truth (nat_lt left.value right.value)

abbrev pub not_greater_of : (left right : Word) → Word
not_greater_of left right = truth (not (int_lt (signed right.value) (signed left.value)))

abbrev pub unsigned_not_greater_of : (left right : Word) → Word
unsigned_not_greater_of left right = truth (not (nat_lt right.value left.value))

-- ---- one operand

abbrev pub minus_of : Word → Word
minus_of word = plain ((2 ^ 32 - word.value) % 2 ^ 32)

abbrev pub complement_of : Word → Word
complement_of word = plain (2 ^ 32 - 1 - word.value)

abbrev pub is_true : Word → Bool
is_true word = not (word.value == 0)

abbrev pub not_of : Word → Word
not_of word = truth (word.value == 0)

-- an index in bytes: multiplied by the size of an element, which drops its base; by 1 no multiplication is made
abbrev pub scaled_by : (size : ℕ) → Word → Word
scaled_by size word = if size == 1 then word else product_of word (plain size)
