-- The token at the front of a text, read from left to right.
use Rattle.std.specs.Prelude.{ℕ, ◌+◌, ◌==◌, ◌&&◌, Bool, true, false, not, List, [], ◌∷◌, Option, Some, None, if◌then◌else◌}
use Rattle.std.specs.List.{prefix_len}
use Rattle.std.specs.Char.{is_ascii_digit}
use Rattle.pp_token.specs.declared.token.PpKind.{PpKind}
use Rattle.pp_token.specs.declared.token.PpKind.TheVariants as kinds
use Rattle.pp_token.specs.declared.spelling.Found.{Found}
use Rattle.pp_token.specs.declared.spelling.Quote.{Quote}
use Rattle.pp_token.specs.declared.spelling.Quote.TheVariants.{Single, Double}
use Rattle.pp_token.specs.declared.spelling.Opening.{Opening}
use Rattle.pp_token.specs.Spelling.{is_nondigit, is_name_character, number_goes_on, is_punctuator_of_1, is_punctuator_of_2, is_punctuator_of_3}

-- how many characters at the front are an identifier
unfoldable pub name_length : List ℕ → ℕ
name_length [] = 0
name_length (c ∷ cs) = if is_nondigit c then 1 + prefix_len is_name_character cs else 0

-- how many characters at the front go on with a number that ended in this one
abbrev pub number_rest : ℕ → List ℕ → ℕ
number_rest previous [] = 0
number_rest previous (c ∷ cs) = if number_goes_on previous c then 1 + number_rest c cs else 0

-- a number that begins with a dot, behind the dot
abbrev pub fraction_length : List ℕ → ℕ
fraction_length [] = 0
fraction_length (c ∷ cs) = if is_ascii_digit c then 2 + number_rest c cs else 0

unfoldable pub number_length : List ℕ → ℕ
number_length [] = 0
number_length (c ∷ cs) = if is_ascii_digit c then 1 + number_rest c cs else (if c == 46 then fraction_length cs else 0)

-- so many more
abbrev pub further : ℕ → Option ℕ → Option ℕ
further n None = None
further n (Some k) = Some (n + k)

-- how many characters up to and with the quote that closes on this line; the first may be escaped
abbrev pub closing : ℕ → Bool → List ℕ → Option ℕ
closing quote escaped [] = None
closing quote escaped (c ∷ cs) = if c == 10 then None else (if not escaped && c == quote then Some 1 else further 1 (closing quote (not escaped && c == 92) cs))

abbrev pub quote_of : ℕ → Option Quote
quote_of c = if c == 39 then Some Single else (if c == 34 then Some Double else None)

abbrev pub character_of : Quote → ℕ
character_of Single = 39
character_of Double = 34

abbrev pub kind_of_quote : Quote → PpKind
kind_of_quote Single = kinds.Char
kind_of_quote Double = kinds.Str

abbrev pub front_of : Opening → ℕ
front_of opening = if opening.wide then 2 else 1

abbrev pub with_opening : Bool → List ℕ → Option Quote → Option (Opening × List ℕ)
with_opening wide behind None = None
with_opening wide behind (Some quote) = Some (record { quote = quote; wide = wide }, behind)

-- what opens at the front, and the text behind its quote
unfoldable pub opening_at : List ℕ → Option (Opening × List ℕ)
opening_at [] = None
opening_at (c ∷ []) = with_opening false [] (quote_of c)
opening_at (c ∷ d ∷ ds) = if c == 76 then with_opening true ds (quote_of d) else with_opening false (d ∷ ds) (quote_of c)

abbrev pub with_length : Opening → Option ℕ → Option Found
with_length opening None = None
with_length opening (Some n) = Some (record { kind = kind_of_quote opening.quote; length = front_of opening + n })

-- the character constant or string literal, from the text behind its quote
unfoldable pub quoted : Opening → List ℕ → Option Found
quoted opening behind = with_length opening (closing (character_of opening.quote) false behind)

abbrev pub begins_with_1 : List ℕ → Bool
begins_with_1 [] = false
begins_with_1 (a ∷ _) = is_punctuator_of_1 a

abbrev pub begins_with_2 : List ℕ → Bool
begins_with_2 [] = false
begins_with_2 (a ∷ []) = false
begins_with_2 (a ∷ b ∷ _) = is_punctuator_of_2 a b

abbrev pub begins_with_3 : List ℕ → Bool
begins_with_3 [] = false
begins_with_3 (a ∷ []) = false
begins_with_3 (a ∷ b ∷ []) = false
begins_with_3 (a ∷ b ∷ c ∷ _) = is_punctuator_of_3 a b c

-- how many characters at the front are an operator or a punctuator
unfoldable pub punctuator_length : List ℕ → ℕ
punctuator_length text = if begins_with_3 text then 3 else (if begins_with_2 text then 2 else (if begins_with_1 text then 1 else 0))

abbrev pub first_found : ℕ → PpKind → Found → Found
first_found n kind other = if n == 0 then other else record { kind = kind; length = n }

-- the token at the front that is neither quoted nor a header name
unfoldable pub plain : List ℕ → Found
plain text = first_found (name_length text) kinds.Name (first_found (number_length text) kinds.Number (first_found (punctuator_length text) kinds.Punct (record { kind = kinds.Other; length = 1 })))

abbrev pub quoted_from : Option (Opening × List ℕ) → Option Found
quoted_from None = None
quoted_from (Some opened) = quoted opened.0 opened.1

-- the character constant or string literal at the front
unfoldable pub quoted_at : List ℕ → Option Found
quoted_at text = quoted_from (opening_at text)

abbrev pub or_plain : Option Found → List ℕ → Found
or_plain None text = plain text
or_plain (Some found) text = found

-- the longest token at the front that is no header name
unfoldable pub front : List ℕ → Found
front text = or_plain (quoted_at text) text

-- how many characters up to and with the delimiter that closes a header name on this line, behind one at least
abbrev pub header_rest : ℕ → Bool → List ℕ → Option ℕ
header_rest close some [] = None
header_rest close some (c ∷ cs) = if c == 10 then None else (if c == close then (if some then Some 1 else None) else further 1 (header_rest close true cs))

abbrev pub header_found : Option ℕ → Option Found
header_found None = None
header_found (Some n) = Some (record { kind = kinds.Header; length = 1 + n })

-- the header name at the front
unfoldable pub header_at : List ℕ → Option Found
header_at [] = None
header_at (c ∷ cs) = if c == 60 then header_found (header_rest 62 false cs) else (if c == 34 then header_found (header_rest 34 false cs) else None)

-- how many characters up to and with the */ that closes a comment; a * may stand just before
abbrev pub comment_rest : Bool → List ℕ → Option ℕ
comment_rest starred [] = None
comment_rest starred (c ∷ cs) = if starred && c == 47 then Some 1 else further 1 (comment_rest (c == 42) cs)
