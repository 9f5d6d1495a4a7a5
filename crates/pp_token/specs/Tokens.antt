-- Phase 3: from characters to preprocessing tokens (C90 5.1.1.2 and 6.1).
use Rattle.std.specs.Prelude.{◌≡◌, ℕ, zero, suc, ◌+◌, ◌-◌, ◌^◌, ◌==◌, ◌&&◌, Bool, true, false, List, [], ◌∷◌, length, take, drop, slice_index, codes, nat_lt, Option, Some, None, Result, Ok, Err, if◌then◌else◌}
use Rattle.std.specs.Str.{bytes_eq}
use Rattle.fsc_base.specs.declared.place.Place.{Place}
use Rattle.fsc_base.specs.declared.place.Broken.{Broken}
use Rattle.fsc_base.specs.declared.place.Refused.{Refused}
use Rattle.fsc_base.specs.declared.place.Refused.TheVariants as refusals
use Rattle.fsc_base.specs.declared.rule.Rule.TheVariants as rules
use Rattle.pp_token.specs.declared.token.PpKind.{PpKind}
use Rattle.pp_token.specs.declared.token.PpKind.TheVariants as kinds
use Rattle.pp_token.specs.declared.token.PpToken.{PpToken}
use Rattle.pp_token.specs.declared.spelling.Found.{Found}
use Rattle.pp_token.specs.declared.piece.Spot.{Spot}
use Rattle.pp_token.specs.declared.piece.Spot.TheVariants.{LineStart, AfterHash, AfterInclude, Within}
use Rattle.pp_token.specs.declared.piece.Piece.{Piece}
use Rattle.pp_token.specs.declared.piece.Piece.TheVariants.{Blank, OpenComment, LineEnd, Token}
use Rattle.pp_token.specs.declared.reading.Source.{Source}
use Rattle.pp_token.specs.Characters.{bytes_of, lines_of, characters_of, end_of}
use Rattle.pp_token.specs.Spelling.{is_blank, longest_token, longest_header}
use Rattle.pp_token.specs.Scanning.{comment_rest}

abbrev pub is_after_include : Spot → Bool
is_after_include LineStart = false
is_after_include AfterHash = false
is_after_include AfterInclude = true
is_after_include Within = false

abbrev pub or_token : Option Found → List ℕ → Found
or_token None text = longest_token text
or_token (Some found) text = found

-- the token at the front, the longest one; directly after include in a directive a header name, where one is there
unfoldable pub token_at : Spot → List ℕ → Found
token_at spot text = if is_after_include spot then or_token (longest_header text) text else longest_token text

-- whether /* stands at the front
abbrev pub begins_comment : List ℕ → Bool
begins_comment [] = false
begins_comment (c ∷ []) = false
begins_comment (c ∷ d ∷ _) = c == 47 && d == 42

abbrev pub comment_piece : Option ℕ → Piece
comment_piece None = OpenComment
comment_piece (Some n) = Blank (2 + n)

-- what stands at the front: a comment, the end of a line, a blank or a token
unfoldable pub piece_at : Spot → List ℕ → Piece
piece_at spot text =
    if begins_comment text then comment_piece (comment_rest false (drop 2 text)) else
    (if slice_index text 0 == 10 then LineEnd else
    (if is_blank (slice_index text 0) then Blank 1 else
    Token (token_at spot text)))

-- how many characters it has
abbrev pub length_of : Piece → ℕ
length_of (Blank n) = n
length_of OpenComment = 1
length_of LineEnd = 1
length_of (Token found) = found.length

-- whether white space is what stands just before the next piece
abbrev pub is_space : Piece → Bool
is_space (Blank _) = true
is_space OpenComment = true
is_space LineEnd = true
is_space (Token _) = false

-- where in its line a token stands that comes behind this one
unfoldable pub spot_after : Spot → PpKind → List ℕ → Spot
spot_after LineStart kinds.Punct text = if bytes_eq text (codes "#") then AfterHash else Within
spot_after AfterHash kinds.Name text = if bytes_eq text (codes "include") then AfterInclude else Within
spot_after _ _ text = Within

-- the same of a token that comes behind this piece of the text
abbrev pub spot_behind : Spot → Piece → List ℕ → Spot
spot_behind spot (Blank _) text = spot
spot_behind spot OpenComment text = spot
spot_behind spot LineEnd text = LineStart
spot_behind spot (Token found) text = spot_after spot found.kind (take found.length text)

-- a place on this line of the file
abbrev pub place_of : Source → ℕ → Place
place_of source line = record { unit = source.unit; file = source.file; line = line }

-- a token of phase 3
abbrev pub token_of : Source → ℕ → Bool → PpKind → List ℕ → PpToken
token_of source line spaced kind text = record { kind = kind; text = text; place = place_of source line; spaced = spaced; hide = [] }

-- a token before those that follow, unless a rule is broken there
abbrev pub put : PpToken → Result (List PpToken) Broken → Result (List PpToken) Broken
put token (Ok tokens) = Ok (token ∷ tokens)
put token (Err broken) = Err broken

-- what a piece gives, before what follows
abbrev pub given : Source → Bool → ℕ → List ℕ → Piece → Result (List PpToken) Broken → Result (List PpToken) Broken
given source spaced line text (Blank _) rest = rest
given source spaced line text OpenComment rest = Err (record { rule = rules.K32; place = place_of source line })
given source spaced line text LineEnd rest = put (token_of source line spaced kinds.LineEnd []) rest
given source spaced line text (Token found) rest = put (token_of source line spaced found.kind (take found.length text)) rest

-- the tokens of characters with these bytes and lines, and End behind them; so many characters, which belong to the piece before, are passed over first
abbrev pub phase_3 : Source → Spot → Bool → ℕ → List ℕ → List ℕ → Result (List PpToken) Broken
phase_3 source spot spaced skip [] lines = Ok (token_of source source.end spaced kinds.End [] ∷ [])
phase_3 source spot spaced (suc skip) (b ∷ bs) lines = phase_3 source spot spaced skip bs (drop 1 lines)
phase_3 source spot spaced zero (b ∷ bs) lines =
    given source spaced (slice_index lines 0) (b ∷ bs) (piece_at spot (b ∷ bs))
    (phase_3 source (spot_behind spot (piece_at spot (b ∷ bs)) (b ∷ bs)) (is_space (piece_at spot (b ∷ bs))) (length_of (piece_at spot (b ∷ bs)) - 1) bs (drop 1 lines))

-- the tokens of a file, or the rule that it breaks: L14 where it is too long, else K32 where a comment isn't closed
unfoldable pub tokens_of : ℕ → ℕ → List ℕ → Result (List PpToken) Broken
tokens_of unit file bytes =
    if nat_lt (2 ^ 24) (length bytes) then Err (record { rule = rules.L14; place = record { unit = unit; file = file; line = 1 } }) else
    phase_3 (record { unit = unit; file = file; end = end_of bytes }) LineStart false 0 (bytes_of (characters_of bytes)) (lines_of (characters_of bytes))

-- the list is what phases 1 to 3 make of the file
abbrev pub Tokens : ℕ → ℕ → List ℕ → List PpToken → Type 0
Tokens unit file bytes list = tokens_of unit file bytes ≡ Ok list

-- the file breaks this rule at this place
abbrev pub BrokenPre : ℕ → ℕ → List ℕ → Broken → Type 0
BrokenPre unit file bytes broken = tokens_of unit file bytes ≡ Err broken

-- what a call answered is this, unless memory ran out
abbrev pub Gives : Result (List PpToken) Refused → Result (List PpToken) Broken → Type 0
Gives (Ok tokens) read = read ≡ Ok tokens
Gives (Err (refusals.Broken broken)) read = read ≡ Err broken
Gives (Err refusals.NoMemory) read = Unit {0}
