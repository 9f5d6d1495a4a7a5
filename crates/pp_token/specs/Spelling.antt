-- Preprocessing tokens by their spelling (C90 6.1).
use Rattle.std.specs.Prelude.{ℕ, zero, suc, ◌==◌, ◌&&◌, ◌||◌, not, Bool, true, false, List, [], ◌∷◌, length, take, codes, Option, Some, None, is_some, unwrap_or, if◌then◌else◌}
use Rattle.std.specs.List.{list_any, list_all}
use Rattle.std.specs.Char.{is_ascii_digit, is_ascii_alphabetic}
use Rattle.std.specs.Str.{bytes_eq}
use Rattle.pp_token.specs.declared.spelling.Found.{Found}
use Rattle.pp_token.specs.declared.token.PpKind.{PpKind}
use Rattle.pp_token.specs.declared.token.PpKind.TheVariants as kinds

-- a letter or an underscore
unfoldable pub is_nondigit : ℕ → Bool
is_nondigit c = c == 95 || is_ascii_alphabetic c

-- what an identifier goes on with
unfoldable pub is_name_character : ℕ → Bool
is_name_character c = is_nondigit c || is_ascii_digit c

-- space, tab, vertical tab, form feed: white space inside a line
unfoldable pub is_blank : ℕ → Bool
is_blank c = c == 32 || (c == 9 || (c == 11 || c == 12))

-- what a preprocessing number goes on with behind a character of it: . or a letter, digit or underscore, or a sign behind e or E
unfoldable pub number_goes_on : ℕ → ℕ → Bool
number_goes_on previous c = (is_name_character c || c == 46) || ((c == 43 || c == 45) && (previous == 101 || previous == 69))

-- operators and punctuators (C90 6.1.5, 6.1.6) of one character
abbrev pub punctuators_of_1 : List ℕ
punctuators_of_1 = codes "[](){}.&*+-~!/%<>^|?:=,;#"

-- of two characters
abbrev pub punctuators_of_2 : List (List ℕ)
punctuators_of_2 = codes "->" ∷ codes "++" ∷ codes "--" ∷ codes "<<" ∷ codes ">>" ∷ codes "<=" ∷ codes ">=" ∷ codes "==" ∷ codes "!=" ∷ codes "&&" ∷ codes "||" ∷ codes "*=" ∷ codes "/=" ∷ codes "%=" ∷ codes "+=" ∷ codes "-=" ∷ codes "&=" ∷ codes "^=" ∷ codes "|=" ∷ codes "##" ∷ []

-- of three characters
abbrev pub punctuators_of_3 : List (List ℕ)
punctuators_of_3 = codes "..." ∷ codes "<<=" ∷ codes ">>=" ∷ []

unfoldable pub is_punctuator_of_1 : ℕ → Bool
is_punctuator_of_1 c = list_any (λ p. p == c) punctuators_of_1

unfoldable pub is_punctuator_of_2 : ℕ → ℕ → Bool
is_punctuator_of_2 a b = list_any (λ p. bytes_eq p (a ∷ b ∷ [])) punctuators_of_2

unfoldable pub is_punctuator_of_3 : ℕ → ℕ → ℕ → Bool
is_punctuator_of_3 a b c = list_any (λ p. bytes_eq p (a ∷ b ∷ c ∷ [])) punctuators_of_3

-- an identifier (C90 6.1.2)
unfoldable pub is_name : List ℕ → Bool
is_name [] = false
is_name (c ∷ cs) = is_nondigit c && list_all is_name_character cs

-- each character goes on with a number behind the one before
abbrev pub goes_on : ℕ → List ℕ → Bool
goes_on previous [] = true
goes_on previous (c ∷ cs) = number_goes_on previous c && goes_on c cs

abbrev pub is_digits : List ℕ → Bool
is_digits [] = false
is_digits (c ∷ cs) = is_ascii_digit c && goes_on c cs

-- a preprocessing number (C90 6.1.8): a digit, or a dot and a digit, and what goes on with it
unfoldable pub is_number : List ℕ → Bool
is_number [] = false
is_number (c ∷ cs) = is_digits (c ∷ cs) || (c == 46 && is_digits cs)

abbrev pub is_empty : List ℕ → Bool
is_empty [] = true
is_empty (_ ∷ _) = false

-- characters of one line with the quote at their end and nowhere before, but escaped; the first may be escaped
abbrev pub is_closed : ℕ → Bool → List ℕ → Bool
is_closed quote escaped [] = false
is_closed quote escaped (c ∷ cs) = if c == 10 then false else (if not escaped && c == quote then is_empty cs else is_closed quote (not escaped && c == 92) cs)

abbrev pub is_between : ℕ → List ℕ → Bool
is_between quote [] = false
is_between quote (c ∷ cs) = c == quote && is_closed quote false cs

-- a character constant (C90 6.1.3.4) with ', a string literal (6.1.4) with "; an L may stand before it
unfoldable pub is_quoted : ℕ → List ℕ → Bool
is_quoted quote [] = false
is_quoted quote (c ∷ cs) = is_between quote (c ∷ cs) || (c == 76 && is_between quote cs)

-- an operator or punctuator
unfoldable pub is_punctuator : List ℕ → Bool
is_punctuator [] = false
is_punctuator (a ∷ []) = is_punctuator_of_1 a
is_punctuator (a ∷ b ∷ []) = is_punctuator_of_2 a b
is_punctuator (a ∷ b ∷ c ∷ []) = is_punctuator_of_3 a b c
is_punctuator (a ∷ b ∷ c ∷ d ∷ ds) = false

-- one character that is no white space
unfoldable pub is_one : List ℕ → Bool
is_one [] = false
is_one (c ∷ []) = not (is_blank c || c == 10)
is_one (c ∷ d ∷ ds) = false

-- the first kind whose test holds
abbrev pub kind_by : Bool → Bool → Bool → Bool → Bool → Bool → Option PpKind
kind_by name number char string punctuator one =
    if name then Some kinds.Name else (if number then Some kinds.Number else (if char then Some kinds.Char else
    (if string then Some kinds.Str else (if punctuator then Some kinds.Punct else (if one then Some kinds.Other else None)))))

-- the kind of the preprocessing token that all of the text is, where it is one; any one character that is nothing else is one too
unfoldable pub kind_of : List ℕ → Option PpKind
kind_of text = kind_by (is_name text) (is_number text) (is_quoted 39 text) (is_quoted 34 text) (is_punctuator text) (is_one text)

-- the greatest number of characters, up to this one, that pass the test, or 0
abbrev pub longest : (List ℕ → Bool) → ℕ → List ℕ → ℕ
longest test zero text = 0
longest test (suc n) text = if test (take (suc n) text) then suc n else longest test n text

abbrev pub is_token : List ℕ → Bool
is_token text = is_some (kind_of text)

-- the longest token at the front of a text, no header name
unfoldable pub longest_token : List ℕ → Found
longest_token text =
    let n = longest is_token (length text) text in
    record { kind = unwrap_or (kind_of (take n text)) kinds.Other; length = n }

-- characters of one line with this delimiter at their end and nowhere before; one stands before it at least
abbrev pub is_delimited : ℕ → Bool → List ℕ → Bool
is_delimited close some [] = false
is_delimited close some (c ∷ cs) = if c == 10 then false else (if c == close then some && is_empty cs else is_delimited close true cs)

-- a header name (C90 6.1.7)
unfoldable pub is_header : List ℕ → Bool
is_header [] = false
is_header (c ∷ cs) = (c == 60 && is_delimited 62 false cs) || (c == 34 && is_delimited 34 false cs)

-- the longest header name at the front of a text
unfoldable pub longest_header : List ℕ → Option Found
longest_header text =
    let n = longest is_header (length text) text in
    if n == 0 then None else Some (record { kind = kinds.Header; length = n })
