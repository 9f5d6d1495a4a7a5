-- Tokens of a list of preprocessing tokens, and the rules that it breaks: phases 5 to 7 (C90 5.1.1.2).
use Rattle.std.specs.Prelude.{◌≡◌, ℕ, ◌-◌, ◌^◌, ◌<◌, ◌≤◌, ◌⊎◌, List, [], ◌∷◌, ◌++◌, length, map, take, drop, slice_index, Bool, true, false, ◌==◌, Option, Some, None, MatchOption, unwrap_or}
use Rattle.fsc_base.specs.declared.place.Place.{Place}
use Rattle.fsc_base.specs.declared.place.Broken.{Broken}
use Rattle.fsc_base.specs.declared.rule.Rule.{Rule}
use Rattle.fsc_base.specs.declared.rule.Rule.TheVariants.{K44, K45, L01, L04, L06}
use Rattle.pp_token.specs.declared.token.PpKind.{PpKind}
use Rattle.pp_token.specs.declared.token.PpKind.TheVariants as pp
use Rattle.pp_token.specs.declared.token.PpToken.{PpToken}
use Rattle.c_lexer.specs.declared.keyword.Keyword.{Keyword as Word}
use Rattle.c_lexer.specs.declared.punctuator.Punctuator.{Punctuator}
use Rattle.c_lexer.specs.declared.token.BasicType.TheVariants.{UnsignedLong}
use Rattle.c_lexer.specs.declared.token.TokenKind.{TokenKind}
use Rattle.c_lexer.specs.declared.token.TokenKind.TheVariants.{Name, Keyword, Int, Char, Str, Punct, End}
use Rattle.c_lexer.specs.declared.token.Token.{Token}
use Rattle.c_lexer.specs.Keywords.{keyword_of}
use Rattle.c_lexer.specs.Punctuators.{punctuator_of}
use Rattle.c_lexer.specs.Numbers.{Integer, integer_of, value_of, type_of, is_floating}
use Rattle.c_lexer.specs.Characters.{values_of, IsBad, byte_of}

-- ---- what a preprocessing token becomes; where it breaks a rule, this says nothing

-- a literal begins with L
abbrev pub is_wide : List ℕ → Bool
is_wide text = slice_index text 0 == 76

-- what stands between the quotes
abbrev pub quoted : List ℕ → List ℕ
quoted text = drop 1 (take (length text - 1) text)

-- the values of the characters between the quotes
unfoldable pub characters_of : List ℕ → List (Option ℕ)
characters_of text = values_of (quoted text)

-- the bytes of a string literal
abbrev pub string_of : List ℕ → List ℕ
string_of text = map byte_of (characters_of text)

abbrev pub first_byte : List (Option ℕ) → ℕ
first_byte [] = 0
first_byte (value ∷ values) = byte_of value

abbrev pub named : List ℕ → Option Word → TokenKind
named text None = Name text
named text (Some keyword) = Keyword keyword

abbrev pub numbered : Option Integer → TokenKind
numbered None = End
numbered (Some constant) = Int (value_of constant) (unwrap_or (type_of constant) UnsignedLong)

abbrev pub punctuated : Option Punctuator → TokenKind
punctuated None = End
punctuated (Some punctuator) = Punct punctuator

abbrev pub kind_of : PpKind → List ℕ → TokenKind
kind_of pp.Name text = named text (keyword_of text)
kind_of pp.Number text = numbered (integer_of text)
kind_of pp.Char text = Char (first_byte (characters_of text))
kind_of pp.Str text = Str (string_of text)
kind_of pp.Punct text = punctuated (punctuator_of text)
kind_of _ text = End

-- ---- the tokens

abbrev pub string_at : List ℕ → Place → Token
string_at bytes place = record { kind = Str bytes; place = place }

-- a string before tokens, of which the first is joined to it if it is a string
abbrev pub joined_with : List ℕ → Place → TokenKind → Token → List Token → List Token
joined_with bytes place (Str more) next rest = string_at (bytes ++ more) place ∷ rest
joined_with bytes place _ next rest = string_at bytes place ∷ next ∷ rest

abbrev pub joined : List ℕ → Place → List Token → List Token
joined bytes place [] = string_at bytes place ∷ []
joined bytes place (next ∷ rest) = joined_with bytes place next.kind next rest

-- a preprocessing token before tokens
abbrev pub with_token : PpKind → PpToken → List Token → List Token
with_token pp.LineEnd token rest = rest
with_token pp.Str token rest = joined (string_of token.text) token.place rest
with_token kind token rest = record { kind = kind_of kind token.text; place = token.place } ∷ rest

abbrev pub tokens_of : List PpToken → List Token
tokens_of [] = []
tokens_of (token ∷ rest) = with_token token.kind token (tokens_of rest)

-- ---- the rules

-- some element is so
abbrev pub Has : {X : Type 0} → (X → Type 0) → List X → Type 0
Has P [] = ⊥
Has P (x ∷ xs) = P x ⊎ Has P xs

-- no token: any other character, a header name, a number that is no constant, '' , # and ##
abbrev pub IsNoToken : PpKind → List ℕ → Type 0
IsNoToken pp.Header text = Unit {0}
IsNoToken pp.Other text = Unit {0}
IsNoToken pp.Number text = (integer_of text ≡ None) × (is_floating text ≡ false)
IsNoToken pp.Char text = quoted text ≡ []
IsNoToken pp.Punct text = punctuator_of text ≡ None
IsNoToken _ text = ⊥

-- an escape without digits or above 255
abbrev pub HasBadEscape : PpKind → List ℕ → Type 0
HasBadEscape pp.Char text = Has IsBad (characters_of text)
HasBadEscape pp.Str text = Has IsBad (characters_of text)
HasBadEscape _ text = ⊥

abbrev pub IsFloating : PpKind → List ℕ → Type 0
IsFloating pp.Number text = is_floating text ≡ true
IsFloating _ text = ⊥

-- an integer constant above 2^32 - 1
abbrev pub IsTooLarge : PpKind → List ℕ → Type 0
IsTooLarge pp.Number text = MatchOption (integer_of text) ⊥ (λ constant. 2 ^ 32 ≤ value_of constant)
IsTooLarge _ text = ⊥

-- a wide literal, or a character constant of several characters
abbrev pub IsWideOrSeveral : PpKind → List ℕ → Type 0
IsWideOrSeveral pp.Char text = (is_wide text ≡ true) ⊎ (1 < length (characters_of text))
IsWideOrSeveral pp.Str text = is_wide text ≡ true
IsWideOrSeveral _ text = ⊥

-- a preprocessing token breaks a rule
abbrev pub Breaks : Rule → PpKind → List ℕ → Type 0
Breaks rule kind text =
    ((rule ≡ K44) × IsNoToken kind text)
    ⊎ (((rule ≡ K45) × HasBadEscape kind text)
    ⊎ (((rule ≡ L01) × IsFloating kind text)
    ⊎ (((rule ≡ L04) × IsTooLarge kind text)
    ⊎ ((rule ≡ L06) × IsWideOrSeveral kind text))))

-- a string above 65,535 bytes after joining
abbrev pub IsLong : TokenKind → Type 0
IsLong (Str bytes) = 65535 < length bytes
IsLong _ = ⊥

-- a preprocessing token of the list breaks the rule there
abbrev pub HasBreak : Broken → List PpToken → Type 0
HasBreak broken list = Has (λ (token : PpToken). (token.place ≡ broken.place) × Breaks broken.rule token.kind token.text) list

-- a joined string is too long there
abbrev pub HasLong : Broken → List Token → Type 0
HasLong broken tokens = (broken.rule ≡ L04) × Has (λ (token : Token). (token.place ≡ broken.place) × IsLong token.kind) tokens

-- the list breaks the rule at the place
abbrev pub IsBroken : List PpToken → Broken → Type 0
IsBroken list broken = HasBreak broken list ⊎ HasLong broken (tokens_of list)

-- the list breaks no rule, and these are its tokens
pub record Lexed (list : List PpToken) (tokens : List Token) : Type 0 where
  pub are : tokens ≡ tokens_of list
  pub unbroken : (broken : Broken) → IsBroken list broken → ⊥

-- there is a last element, and it is so
abbrev pub EndsWith : {X : Type 0} → (X → Type 0) → List X → Type 0
EndsWith {X} P xs = (front : List X) × (last : X) × (xs ≡ front ++ last ∷ []) × P last

-- the end of a unit, before and after
abbrev pub IsPpEnd : PpToken → Type 0
IsPpEnd token = token.kind ≡ pp.End

abbrev pub IsEnd : Token → Type 0
IsEnd token = token.kind ≡ End
