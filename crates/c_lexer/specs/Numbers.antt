-- Integer and floating constants (C90 6.1.3.1 and 6.1.3.2).
use Rattle.std.specs.Prelude.{ℕ, List, [], ◌∷◌, take, drop, slice_index, Bool, true, false, ◌&&◌, ◌||◌, ◌==◌, nat_lt, nat_le, if◌then◌else◌, Option, Some, None, option_map, find}
use Rattle.std.specs.List.{prefix_len}
use Rattle.std.specs.Char.{is_digit, is_ascii_digit}
use Rattle.std.specs.Str.Parse.{digits_value}
use Rattle.c_lexer.specs.declared.token.BasicType.{BasicType}
use Rattle.c_lexer.specs.declared.token.BasicType.TheVariants.{Int, Unsigned, Long, UnsignedLong}
use Rattle.c_lexer.specs.declared.integer.Radix.{Radix}
use Rattle.c_lexer.specs.declared.integer.Radix.TheVariants.{Octal, Decimal, Hexadecimal}
use Rattle.c_lexer.specs.declared.integer.IntegerParts.{IntegerParts}
use Rattle.c_lexer.specs.declared.integer.Suffix.{Suffix}
use Rattle.c_lexer.specs.declared.integer.Suffix.TheVariants.{Absent, OnlyUnsigned, OnlyLong, Both}

-- ---- integer constants

abbrev pub base : Radix → ℕ
base Octal = 8
base Decimal = 10
base Hexadecimal = 16

-- how many digits to that base are in front
abbrev pub count_of : ℕ → List ℕ → ℕ
count_of base text = prefix_len (λ c. is_digit c base) text

-- 0x or 0X is in front
abbrev pub is_marked : List ℕ → Bool
is_marked text = slice_index text 0 == 48 && (slice_index text 1 == 120 || slice_index text 1 == 88)

-- a decimal constant begins with a digit other than 0
abbrev pub radix_of : List ℕ → Radix
radix_of text = if is_marked text then Hexadecimal else if slice_index text 0 == 48 then Octal else Decimal

-- the text behind the mark of its radix
abbrev pub unmarked : List ℕ → List ℕ
unmarked text = if is_marked text then drop 2 text else text

abbrev pub is_u : ℕ → Bool
is_u c = c == 117 || c == 85

abbrev pub is_l : ℕ → Bool
is_l c = c == 108 || c == 76

-- nothing, u, l, or both in either order, in either case
abbrev pub suffix_of : List ℕ → Option Suffix
suffix_of [] = Some Absent
suffix_of (a ∷ []) = if is_u a then Some OnlyUnsigned else if is_l a then Some OnlyLong else None
suffix_of (a ∷ b ∷ []) = if is_u a && is_l b || is_l a && is_u b then Some Both else None
suffix_of (a ∷ b ∷ c ∷ rest) = None

-- an integer constant in its parts
pub record Integer : Type 0 where
  pub radix : Radix
  pub digits : List ℕ
  pub suffix : Suffix

-- the parts that were read, seen as lists
abbrev pub parts_of : IntegerParts → Integer
parts_of found = record { radix = found.radix; digits = found.digits.now; suffix = found.suffix }

-- these parts, where there is a digit and what follows the digits is a suffix
abbrev pub integer_with : Radix → List ℕ → Option Integer
integer_with radix text =
    let count = count_of (base radix) text in
    if count == 0 then None else option_map (λ suffix. record { radix = radix; digits = take count text; suffix = suffix }) (suffix_of (drop count text))

-- the integer constant that is spelled so
unfoldable pub integer_of : List ℕ → Option Integer
integer_of text = integer_with (radix_of text) (unmarked text)

abbrev pub value_of : Integer → ℕ
value_of constant = digits_value (base constant.radix) constant.digits

-- the types that a constant may have, of which it has the first that its value fits (6.1.3.2)
abbrev pub candidates : Radix → Suffix → List BasicType
candidates Decimal Absent = Int ∷ Long ∷ UnsignedLong ∷ []
candidates radix Absent = Int ∷ Unsigned ∷ Long ∷ UnsignedLong ∷ []
candidates radix OnlyUnsigned = Unsigned ∷ UnsignedLong ∷ []
candidates radix OnlyLong = Long ∷ UnsignedLong ∷ []
candidates radix Both = UnsignedLong ∷ []

-- the greatest value of a type
abbrev pub greatest : BasicType → ℕ
greatest Int = 2147483647
greatest Unsigned = 4294967295
greatest Long = 2147483647
greatest UnsignedLong = 4294967295

-- the first of these types that the value fits
abbrev pub first_fitting : ℕ → List BasicType → Option BasicType
first_fitting value types = find (λ basic. nat_le value (greatest basic)) types

abbrev pub type_of : Integer → Option BasicType
type_of constant = first_fitting (value_of constant) (candidates constant.radix constant.suffix)

-- ---- floating constants

abbrev pub decimal_count : List ℕ → ℕ
decimal_count text = prefix_len is_ascii_digit text

-- the text behind a sign, where there is one
abbrev pub unsigned_text : List ℕ → List ℕ
unsigned_text [] = []
unsigned_text (c ∷ rest) = if c == 43 || c == 45 then rest else c ∷ rest

-- e or E, a sign or none, and digits are in front: the text behind them
abbrev pub after_exponent : List ℕ → Option (List ℕ)
after_exponent [] = None
after_exponent (c ∷ rest) =
    let digits = unsigned_text rest in
    if c == 101 || c == 69 then (if decimal_count digits == 0 then None else Some (drop (decimal_count digits) digits)) else None

-- nothing, f, l, F or L
abbrev pub is_floating_suffix : List ℕ → Bool
is_floating_suffix [] = true
is_floating_suffix (c ∷ []) = c == 102 || (c == 108 || (c == 70 || c == 76))
is_floating_suffix (c ∷ d ∷ rest) = false

abbrev pub suffix_follows : Option (List ℕ) → Bool
suffix_follows None = false
suffix_follows (Some text) = is_floating_suffix text

-- an exponent and a suffix
abbrev pub ends_with_exponent : List ℕ → Bool
ends_with_exponent text = suffix_follows (after_exponent text)

-- digits with a point before, among or behind them, an exponent or none, and a suffix; or digits, an exponent and a suffix
unfoldable pub is_floating : List ℕ → Bool
is_floating text =
    let whole = decimal_count text in
    let rest = drop whole text in
    let fraction = drop 1 rest in
    let behind = drop (decimal_count fraction) fraction in
    if slice_index rest 0 == 46
    then (nat_lt 0 whole || nat_lt 0 (decimal_count fraction)) && (is_floating_suffix behind || ends_with_exponent behind)
    else nat_lt 0 whole && ends_with_exponent rest
