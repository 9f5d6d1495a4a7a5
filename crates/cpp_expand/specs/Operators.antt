-- The operators # and ##, and the tokens of predefined macros.
use Rattle.std.specs.Prelude.{◌≡◌, ℕ, ℤ, pos, ◌+ℤ◌, Bool, ◌||◌, ◌==◌, if◌then◌else◌, List, [], ◌∷◌, ◌++◌, Some, None, unwrap_or}
use Rattle.std.specs.List.{flat_map}
use Rattle.std.specs.Fmt.{decimal}
use Rattle.fsc_base.specs.declared.place.Place.{Place}
use Rattle.pp_token.specs.declared.token.PpToken.{PpToken}
use Rattle.pp_token.specs.declared.token.PpKind.{PpKind}
use Rattle.pp_token.specs.declared.token.PpKind.TheVariants.{Header, Name, Number, Char, Str, Punct, Other, LineEnd, End}
use Rattle.pp_token.specs.HideSets.{common}
use Rattle.pp_token.specs.Spelling.{kind_of}
use Rattle.cpp_expand.specs.Table.{Table}

-- ---- # (C90 6.8.3.2)

-- a backslash in front of each backslash and each double quote
abbrev pub escaped : List ℕ → List ℕ
escaped text = flat_map (λ c. if c == 92 || c == 34 then 92 ∷ c ∷ [] else c ∷ []) text

-- how a token is spelled in a string: character constants and string literals are escaped
abbrev pub spelled_as : PpKind → List ℕ → List ℕ
spelled_as Header text = text
spelled_as Name text = text
spelled_as Number text = text
spelled_as Char text = escaped text
spelled_as Str text = escaped text
spelled_as Punct text = text
spelled_as Other text = text
spelled_as LineEnd text = text
spelled_as End text = text

-- a token behind another: with one space between where white space stands in front of it
abbrev pub spelled_behind : PpToken → List ℕ
spelled_behind token = (if token.spaced then 32 ∷ [] else []) ++ spelled_as token.kind token.text

-- the spelling of an argument; white space before its first token and behind its last is left out
abbrev pub spelling : List PpToken → List ℕ
spelling [] = []
spelling (first ∷ rest) = spelled_as first.kind first.text ++ flat_map spelled_behind rest

-- the spelling between double quotes
abbrev pub quoted : List ℕ → List ℕ
quoted text = 34 ∷ (text ++ 34 ∷ [])

-- the token that # makes of an argument; where its text is no string literal it is no token of C
abbrev pub string_token : Place → Bool → List PpToken → PpToken
string_token place spaced argument = record { kind = unwrap_or (kind_of (quoted (spelling argument))) Other; text = quoted (spelling argument); place = place; spaced = spaced; hide = [] }

-- ---- ## (C90 6.8.3.3)

-- the token that ## makes of two, where their joint text is one of this kind
abbrev pub joint_token : Place → PpKind → PpToken → PpToken → PpToken
joint_token place kind left right = record { kind = kind; text = left.text ++ right.text; place = place; spaced = left.spaced; hide = common left.hide right.hide }

-- What ## makes of two operands, each the tokens of one.
pub data Joins (place : Place) : List PpToken → List PpToken → List PpToken → Type 0 where
  -- the left operand is empty, and maybe the right one too
  without_left : {right : List PpToken} → Joins place [] right right
  -- the right operand is empty
  without_right : {left : List PpToken} → Joins place left [] left
  -- the last token of the left operand and the first of the right one are joined
  both : (left right : List PpToken) (last first : PpToken) (kind : PpKind) → kind_of (last.text ++ first.text) ≡ Some kind
      → Joins place (left ++ last ∷ []) (first ∷ right) (left ++ joint_token place kind last first ∷ right)

-- Two operands whose joint text is no preprocessing token.
pub data NotJoined : List PpToken → List PpToken → Type 0 where
  no_token : (left right : List PpToken) (last first : PpToken) → kind_of (last.text ++ first.text) ≡ None
      → NotJoined (left ++ last ∷ []) (first ∷ right)

-- ---- predefined macros (C90 6.8.8)

-- 0 for a negative number
abbrev pub not_below_zero : ℤ → ℕ
not_below_zero (pos n) = n
not_below_zero _ = 0

-- the decimal of the line that __LINE__ gives
abbrev pub line_text : Table → PpToken → List ℕ
line_text table name = decimal (not_below_zero (pos name.place.line +ℤ table.shift))

-- a token that stands for a predefined macro
abbrev pub made_token : PpKind → List ℕ → PpToken → PpToken
made_token kind text name = record name { kind = kind; text = text }
