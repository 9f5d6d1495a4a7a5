-- What the functions that make tokens answer.
use Rattle.std.specs.Prelude.{◌≡◌, ◌⊎◌, ℕ, List, [], ◌∷◌, ◌++◌, map, Option, Some, None, Result, Ok, Err}
use Rattle.fsc_base.specs.declared.place.Place.{Place}
use Rattle.fsc_base.specs.declared.place.Broken.{Broken}
use Rattle.fsc_base.specs.declared.place.Refused.{Refused}
use Rattle.fsc_base.specs.declared.place.Refused.TheVariants as refusals
use Rattle.fsc_base.specs.declared.rule.Rule.{Rule}
use Rattle.fsc_base.specs.declared.rule.Rule.TheVariants.{K45}
use Rattle.pp_token.specs.declared.token.PpKind.{PpKind}
use Rattle.pp_token.specs.declared.token.PpKind.TheVariants as pp
use Rattle.pp_token.specs.declared.token.PpToken.{PpToken}
use Rattle.c_lexer.specs.declared.token.TokenKind.{TokenKind}
use Rattle.c_lexer.specs.declared.token.Token.{Token}
use Rattle.c_lexer.specs.Characters.{values_of, IsBad, byte_of}
use Rattle.c_lexer.specs.declared.lexing.Lexer.{Lexer}
use Rattle.c_lexer.specs.declared.lexing.OpenString.{OpenString}
use Rattle.c_lexer.specs.Lexing.{kind_of, string_of, string_at, joined, with_token, Has, Breaks, HasLong, IsBroken}

abbrev pub IsUnbroken : PpKind → List ℕ → Type 0
IsUnbroken kind text = (rule : Rule) → Breaks rule kind text → ⊥

-- the kind of the token, or a rule that it breaks
abbrev pub IsKind : PpKind → List ℕ → Result TokenKind Rule → Type 0
IsKind kind text (Ok found) = (found ≡ kind_of kind text) × IsUnbroken kind text
IsKind kind text (Err rule) = Breaks rule kind text

-- the same, with the broken rule at its place
abbrev pub located : Place → Result TokenKind Rule → Result TokenKind Refused
located place (Ok kind) = Ok kind
located place (Err rule) = Err (refusals.Broken (record { rule = rule; place = place }))

-- a rule that the preprocessing token breaks, at its place, or want of memory
abbrev pub IsBreak : PpKind → List ℕ → Place → Refused → Type 0
IsBreak kind text place (refusals.Broken broken) = (broken.place ≡ place) × Breaks broken.rule kind text
IsBreak kind text place refusals.NoMemory = Unit {0}

-- the kind of the token, or why there is none
abbrev pub Becomes : PpKind → List ℕ → Place → Result TokenKind Refused → Type 0
Becomes kind text place (Ok found) = (found ≡ kind_of kind text) × IsUnbroken kind text
Becomes kind text place (Err refused) = IsBreak kind text place refused

-- a bad escape at the place, or want of memory
abbrev pub IsBadEscape : List ℕ → Place → Refused → Type 0
IsBadEscape text place (refusals.Broken broken) = (broken.place ≡ place) × (broken.rule ≡ K45) × Has IsBad (values_of text)
IsBadEscape text place refusals.NoMemory = Unit {0}

-- the bytes of these characters are added, or an escape is bad
abbrev pub AddsCharacters : {X : Type 0} → List ℕ → List ℕ → List ℕ → Place → Result X Refused → Type 0
AddsCharacters old new text place (Ok done) = (new ≡ old ++ map byte_of (values_of text)) × (Has IsBad (values_of text) → ⊥)
AddsCharacters old new text place (Err refused) = IsBadEscape text place refused

-- the bytes of a string literal are added, or it breaks a rule
abbrev pub AddsString : {X : Type 0} → List ℕ → List ℕ → List ℕ → Place → Result X Refused → Type 0
AddsString old new text place (Ok done) = (new ≡ old ++ string_of text) × IsUnbroken pp.Str text
AddsString old new text place (Err refused) = IsBreak pp.Str text place refused

-- a broken rule of the list, or want of memory
abbrev pub IsRefusal : List PpToken → Refused → Type 0
IsRefusal list (refusals.Broken broken) = IsBroken list broken
IsRefusal list refusals.NoMemory = Unit {0}

-- a kind that becomes a token of its own
abbrev pub IsSingle : PpKind → Type 0
IsSingle pp.LineEnd = ⊥
IsSingle pp.Str = ⊥
IsSingle _ = Unit {0}

-- ---- the state of lexing

abbrev pub string_of_open : OpenString → Token
string_of_open begun = string_at begun.bytes.items begun.place

-- tokens behind a string to which more may be joined
abbrev pub behind : Option OpenString → List Token → List Token
behind None rest = rest
behind (Some begun) rest = joined begun.bytes.items begun.place rest

-- the string that is not finished, or an empty one at the place
abbrev pub IsBegun : Option OpenString → Place → OpenString → Type 0
IsBegun None place string = (string.bytes.items ≡ []) × (string.place ≡ place)
IsBegun (Some begun) place string = string ≡ begun

-- all tokens, where these are still to come
abbrev pub whole : Lexer → List Token → List Token
whole lexer rest = lexer.done.items ++ behind lexer.unfinished rest

-- no string is too long
abbrev pub AreShort : List Token → Type 0
AreShort tokens = (broken : Broken) → HasLong broken tokens → ⊥

-- a token of these is a string that is too long
abbrev pub IsLongAt : Refused → List Token → Type 0
IsLongAt (refusals.Broken broken) tokens = HasLong broken tokens
IsLongAt refusals.NoMemory tokens = Unit {0}

-- the token was taken: what was to come before it is what is to come after it
pub record Took (old new : Lexer) (token : PpToken) : Type 0 where
  pub moves : (rest : List Token) → whole new rest ≡ whole old (with_token token.kind token rest)
  pub short : AreShort old.done.items → AreShort new.done.items
  pub unbroken : IsUnbroken token.kind token.text

-- the token breaks a rule, or the string before it is too long
abbrev pub Stops : Lexer → PpToken → Refused → Type 0
Stops old token refused = IsBreak token.kind token.text token.place refused ⊎ ((rest : List Token) → IsLongAt refused (whole old (with_token token.kind token rest)))

abbrev pub Takes : {X : Type 0} → Lexer → Lexer → PpToken → Result X Refused → Type 0
Takes old new token (Ok done) = Took old new token
Takes old new token (Err refused) = Stops old token refused

-- the string that is not finished is finished, or too long
abbrev pub finished : Option OpenString → List Token
finished None = []
finished (Some begun) = string_of_open begun ∷ []

abbrev pub Finishes : {X : Type 0} → Lexer → Lexer → Result X Refused → Type 0
Finishes old new (Ok done) = (new.unfinished ≡ None) × (new.done.items ≡ old.done.items ++ finished old.unfinished) × AreShort (finished old.unfinished)
Finishes old new (Err refused) = IsLongAt refused (finished old.unfinished)
