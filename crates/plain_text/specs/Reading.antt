-- Reading from left to right.
use Rattle.std.specs.Prelude.{◌≡◌, ℕ, zero, suc, ◌-◌, ◌^◌, ◌<◌, ◌⊎◌, slice_index, Bool, ◌||◌, List, [], ◌∷◌, length, take, drop, Option, Some, None, Result, Ok, Err, unwrap_or, nat_lt, nat_le, ◌==◌, ◌&&◌, if◌then◌else◌, codes}
use Rattle.std.specs.List.{prefix_len}
use Rattle.std.specs.Char.{is_ascii_digit}
use Rattle.std.specs.Str.{bytes_eq}
use Rattle.std.specs.Str.Parse.{digits_value}
use Rattle.std.specs.Fmt.{decimal}
use Rattle.plain_text.specs.declared.program.Program.{Program}
use Rattle.plain_text.specs.declared.program.ReadNo.{ReadNo}
use Rattle.plain_text.specs.declared.program.ReadNo.TheVariants.{NotPlain, NoMemory}
use Rattle.plain_text.specs.Program.{Token, tight, spaced, opening}

infixl 10 ◌>>=◌
abbrev pub ◌>>=◌ : {A B : Type 0} → Option A → (A → Option B) → Option B
None >>= f = None
(Some x) >>= f = f x

-- what a function found, seen by view, is what reading gives
abbrev pub Finds : {X Y : Type 0} → (X → Y) → Option X → Option Y → Type 0
Finds view None read = read ≡ None
Finds view (Some x) read = read ≡ Some (view x)

-- what a function returned is what reading gives, unless memory ran out
abbrev pub Gives : Result Program ReadNo → Option Program → Type 0
Gives (Ok program) read = read ≡ Some program
Gives (Err NoMemory) read = Unit {0}
Gives (Err NotPlain) read = read ≡ None

-- a plus sign, or a zero with something behind it, is in front
abbrev pub IsPadded : List ℕ → Type 0
IsPadded digits = (slice_index digits 0 ≡ 43) ⊎ ((slice_index digits 0 ≡ 48) × (1 < length digits))

abbrev pub is_blank : ℕ → Bool
is_blank c = c == 32 || (c == 9 || c == 10)

-- the text behind the blanks at its front
unfoldable pub skipped : List ℕ → List ℕ
skipped text = drop (prefix_len is_blank text) text

-- the text behind the spelling at its front
abbrev pub behind : List ℕ → List ℕ → Option (List ℕ)
behind spelling text = if bytes_eq (take (length spelling) text) spelling then Some (drop (length spelling) text) else None

-- the text behind the token at its front, and the blanks there
unfoldable pub token_at : Token → List ℕ → Option (List ℕ)
token_at token text = do
  after ← behind token.spelling text
  if nat_lt (length after - length (skipped after)) token.gap then None else Some (skipped after)

-- the same for one token after the other
abbrev pub tokens_at : List Token → Option (List ℕ) → Option (List ℕ)
tokens_at [] found = found
tokens_at (token ∷ tokens) found = tokens_at tokens (found >>= token_at token)

-- the number up to 255 that all of the digits spell
unfoldable pub byte_of : List ℕ → Option ℕ
byte_of digits = let n = digits_value 10 digits in if nat_le n 255 && bytes_eq digits (decimal n) then Some n else None

-- a number, and the text behind it
unfoldable pub number_at : List ℕ → Option (ℕ × List ℕ)
number_at text = do
  n ← byte_of (take (prefix_len is_ascii_digit text) text)
  Some (n, skipped (drop (prefix_len is_ascii_digit text) text))

-- the number in a call, and the text behind it
unfoldable pub call_at : List ℕ → Option (ℕ × List ℕ)
call_at text = do
  inner ← tokens_at (tight (codes "putchar") ∷ tight (codes "(") ∷ []) (Some text)
  number ← number_at inner
  rest ← tokens_at (tight (codes ")") ∷ tight (codes ";") ∷ []) (Some number.1)
  Some (number.0, rest)

-- the numbers in the calls, at most so many, and the text behind them
unfoldable pub calls_at : ℕ → List ℕ → List ℕ × List ℕ
calls_at zero text = ([], text)
calls_at (suc most) text = unwrap_or (call_at text >>= λ call. Some (call.0 ∷ (calls_at most call.1).0, (calls_at most call.1).1)) ([], text)

-- the number that is returned, where nothing stands behind the closing
unfoldable pub closing_at : List ℕ → Option ℕ
closing_at text = do
  inner ← tokens_at (spaced (codes "return") ∷ []) (Some text)
  number ← number_at inner
  rest ← tokens_at (tight (codes ";") ∷ tight (codes "}") ∷ []) (Some number.1)
  if length rest == 0 then Some number.0 else None

-- all of the text
unfoldable pub program_at : List ℕ → Option Program
program_at text = if nat_lt (2 ^ 24) (length text) then None else do
  inner ← tokens_at opening (Some (skipped text))
  status ← closing_at (calls_at 1000 inner).1
  Some (record { bytes = (calls_at 1000 inner).0; status = status })
