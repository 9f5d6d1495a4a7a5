-- Fields of bits, and conversions to narrower types.
use Rattle.std.specs.Prelude.{ℕ, ◌+◌, ◌*◌, ◌-◌, ◌/◌, ◌%◌, ◌^◌, nat_le, ◌&&◌, Bool, if◌then◌else◌}
use Rattle.fsc_base.specs.declared.word.Word.{Word}
use Rattle.fsc_base.specs.declared.word.Width.{Width}
use Rattle.fsc_base.specs.declared.word.Width.TheVariants as width
use Rattle.c_ops.specs.Words.{plain, and_of, or_of}

-- count bits, extended by their sign or by zeros
abbrev pub extended : (count : ℕ) → (is_signed : Bool) → (bits : ℕ) → ℕ
extended count is_signed bits = if is_signed && nat_le (2 ^ (count - 1)) bits then bits + (2 ^ 32 - 2 ^ count) else bits

-- what a bit-field of count bits from first on has of its unit; it has no base
abbrev pub field_of : (first count : ℕ) → (is_signed : Bool) → Word → Word
field_of first count is_signed unit = plain (extended count is_signed (unit.value / 2 ^ first % 2 ^ count))

-- (unit & ~mask) | bits, which keeps the unit's base
abbrev pub replaced_in : (first count : ℕ) → (unit value : Word) → Word
replaced_in first count unit value =
    or_of (and_of unit (plain (2 ^ 32 - 1 - (2 ^ count - 1) * 2 ^ first))) (plain (value.value % 2 ^ count * 2 ^ first))

-- a conversion to a type of this width: one of 4 bytes keeps the word, a narrower one drops the base
abbrev pub narrowed_to : Width → (is_signed : Bool) → Word → Word
narrowed_to width.Four is_signed word = word
narrowed_to width.Two is_signed word = field_of 0 16 is_signed word
narrowed_to width.One is_signed word = field_of 0 8 is_signed word
