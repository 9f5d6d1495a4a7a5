-- Values of controlling expressions: longs and unsigned longs of 32 bits, a long in two's complement (C90 6.2.1.5, 6.3
-- and 6.8.1).
use Rattle.std.specs.Prelude.{ℕ, ◌+◌, ◌-◌, ◌*◌, ◌/◌, ◌%◌, ◌^◌, ◌==◌, ◌||◌, not, nat_lt, Bool, false, if◌then◌else◌, Option, Some, None, bit_and, bit_or, bit_xor, ℤ, int_lt, int_div, int_rem}
use Rattle.std.specs.Int.{w32, cast_unsigned, cast_signed, int_shr}
use Rattle.cpp_cond.specs.declared.value.Value.{Value}
use Rattle.cpp_cond.specs.declared.operator.Unary.{Unary}
use Rattle.cpp_cond.specs.declared.operator.Unary.TheVariants as unary
use Rattle.cpp_cond.specs.declared.operator.Binary.{Binary}
use Rattle.cpp_cond.specs.declared.operator.Binary.TheVariants as binary

-- the long 1 or 0
abbrev pub truth : Bool → Value
truth b = record { bits = (if b then 1 else 0); is_unsigned = false }

abbrev pub is_true : Value → Bool
is_true value = not (value.bits == 0)

abbrev pub signed : ℕ → ℤ
signed bits = cast_signed w32 bits

-- these bits in the type of two operands: unsigned long where either is
abbrev pub joint : Value → Value → ℕ → Value
joint a b bits = record { bits = bits; is_unsigned = a.is_unsigned || b.is_unsigned }

-- these bits in the type of one
abbrev pub alike : Value → ℕ → Value
alike a bits = record a { bits = bits }

abbrev pub is_less : Value → Value → Bool
is_less a b = if a.is_unsigned || b.is_unsigned then nat_lt a.bits b.bits else int_lt (signed a.bits) (signed b.bits)

-- toward zero, where the divisor is not 0; the least long by -1 is itself, and the remainder 0
abbrev pub quotient : Value → Value → ℕ
quotient a b = if a.is_unsigned || b.is_unsigned then a.bits / b.bits else cast_unsigned w32 (int_div (signed a.bits) (signed b.bits))

abbrev pub remainder : Value → Value → ℕ
remainder a b = if a.is_unsigned || b.is_unsigned then a.bits % b.bits else cast_unsigned w32 (int_rem (signed a.bits) (signed b.bits))

-- by the low five bits of the count, with the sign of a long
abbrev pub shifted_right : Value → ℕ → ℕ
shifted_right a count = if a.is_unsigned then a.bits / 2 ^ (count % 32) else cast_unsigned w32 (int_shr (signed a.bits) (count % 32))

-- what an operator makes of one value
abbrev pub unary_value : Unary → Value → Value
unary_value unary.Plus a = a
unary_value unary.Minus a = alike a ((2 ^ 32 - a.bits) % 2 ^ 32)
unary_value unary.Complement a = alike a (2 ^ 32 - 1 - a.bits)
unary_value unary.Not a = truth (a.bits == 0)

-- what an operator makes of two values, and None where it divides by zero
abbrev pub binary_value : Binary → Value → Value → Option Value
binary_value binary.Multiply a b = Some (joint a b ((a.bits * b.bits) % 2 ^ 32))
binary_value binary.Divide a b = if b.bits == 0 then None else Some (joint a b (quotient a b))
binary_value binary.Remainder a b = if b.bits == 0 then None else Some (joint a b (remainder a b))
binary_value binary.Add a b = Some (joint a b ((a.bits + b.bits) % 2 ^ 32))
binary_value binary.Subtract a b = Some (joint a b ((a.bits + (2 ^ 32 - b.bits)) % 2 ^ 32))
binary_value binary.ShiftLeft a b = Some (alike a ((a.bits * 2 ^ (b.bits % 32)) % 2 ^ 32))
binary_value binary.ShiftRight a b = Some (alike a (shifted_right a b.bits))
binary_value binary.Less a b = Some (truth (is_less a b))
binary_value binary.Greater a b = Some (truth (is_less b a))
binary_value binary.NotGreater a b = Some (truth (not (is_less b a)))
binary_value binary.NotLess a b = Some (truth (not (is_less a b)))
binary_value binary.Equal a b = Some (truth (a.bits == b.bits))
binary_value binary.Unequal a b = Some (truth (not (a.bits == b.bits)))
binary_value binary.And a b = Some (joint a b (bit_and a.bits b.bits))
binary_value binary.ExclusiveOr a b = Some (joint a b (bit_xor a.bits b.bits))
binary_value binary.Or a b = Some (joint a b (bit_or a.bits b.bits))

-- the choice of ?: after the usual conversions of both
abbrev pub choice_of : Bool → Value → Value → Value
choice_of c a b = if c then joint a b a.bits else joint a b b.bits
