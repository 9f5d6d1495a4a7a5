-- The characters of character constants and string literals (C90 6.1.3.4 and 6.1.4).
use Rattle.std.specs.Prelude.{ℕ, zero, suc, ◌<◌, List, [], ◌∷◌, length, take, drop, min, ◌==◌, if◌then◌else◌, Option, Some, None}
use Rattle.std.specs.Str.Parse.{digits_value}
use Rattle.std.specs.Char.{is_digit}
use Rattle.c_lexer.specs.Numbers.{count_of}

-- the character that a letter stands for behind a backslash: \a \b \f \n \r \t \v, and else itself
abbrev pub simple_escape : ℕ → ℕ
simple_escape c =
    if c == 97 then 7 else if c == 98 then 8 else if c == 102 then 12 else if c == 110 then 10 else if c == 114 then 13 else if c == 116 then 9 else if c == 118 then 11 else c

-- a character as it is read: its value, none where \x has no digit, and the text behind it
pub record Read : Type 0 where
  pub value : Option ℕ
  pub rest : List ℕ

abbrev pub read_as : ℕ → List ℕ → Read
read_as value rest = record { value = Some value; rest = rest }

-- behind \x: all hexadecimal digits that follow
abbrev pub hexadecimal : List ℕ → Read
hexadecimal text =
    let count = count_of 16 text in
    record { value = if count == 0 then None else Some (digits_value 16 (take count text)); rest = drop count text }

-- behind \: one to three octal digits
abbrev pub octal : List ℕ → Read
octal text = let count = min 3 (count_of 8 text) in read_as (digits_value 8 (take count text)) (drop count text)

-- behind a backslash
abbrev pub escape : List ℕ → Read
escape [] = read_as 92 []
escape (c ∷ rest) = if c == 120 then hexadecimal rest else if is_digit c 8 then octal (c ∷ rest) else read_as (simple_escape c) rest

-- the character that begins with c
unfoldable pub character : ℕ → List ℕ → Read
character c rest = if c == 92 then escape rest else read_as c rest

-- the values of all characters of a text of at most so many bytes
abbrev pub values_within : ℕ → List ℕ → List (Option ℕ)
values_within zero text = []
values_within (suc most) [] = []
values_within (suc most) (c ∷ rest) = (character c rest).value ∷ values_within most (character c rest).rest

abbrev pub values_of : List ℕ → List (Option ℕ)
values_of text = values_within (length text) text

-- an escape without digits, or above the greatest value of unsigned char
abbrev pub IsBad : Option ℕ → Type 0
IsBad None = Unit {0}
IsBad (Some value) = 255 < value

-- its byte, and any where it has none
abbrev pub byte_of : Option ℕ → ℕ
byte_of None = 0
byte_of (Some value) = value
