-- #define and #undef lines (C90 6.8.3 and 6.8.3.5).
use Rattle.std.specs.Prelude.{◌≡◌, ◌≢◌, ℕ, Bool, true, false, List, [], ◌∷◌, ◌++◌, map, filter, codes, Option, IsTrue}
use Rattle.pp_token.specs.declared.token.PpToken.{PpToken}
use Rattle.pp_token.specs.declared.token.PpKind.{PpKind}
use Rattle.pp_token.specs.declared.token.PpKind.TheVariants.{Header, Name, Number, Char, Str, Punct, Other, LineEnd, End}
use Rattle.pp_token.specs.HideSets.{has}
use Rattle.cpp_expand.specs.Tokens.{IsPunct}
use Rattle.cpp_expand.specs.Table.{Table, Macro, ObjectLike, FunctionLike}

-- whether a token of this kind belongs to the line, and does not end it
abbrev pub is_content : PpKind → Bool
is_content Header = true
is_content Name = true
is_content Number = true
is_content Char = true
is_content Str = true
is_content Punct = true
is_content Other = true
is_content LineEnd = false
is_content End = false

-- the tokens of a line without its end
abbrev pub content_of : List PpToken → List PpToken
content_of line = filter (λ token. is_content token.kind) line

-- an identifier of this spelling
abbrev pub IsWord : List ℕ → PpToken → Type 0
IsWord word token = (token.kind ≡ Name) × (token.text ≡ word)

-- the names that no line may define or undefine
abbrev pub reserved : List (List ℕ)
reserved = codes "defined" ∷ codes "__FILE__" ∷ codes "__LINE__" ∷ codes "__STDC__" ∷ codes "__DATE__" ∷ codes "__TIME__" ∷ []

-- The line is # and this word, then a name that may be defined, then these tokens.
pub record IsAbout (word : List ℕ) (line : List PpToken) (name : List ℕ) (rest : List PpToken) : Type 0 where
  pub hash : PpToken
  pub directive : PpToken
  pub subject : PpToken
  pub content : content_of line ≡ hash ∷ directive ∷ subject ∷ rest
  pub is_hash : IsPunct (codes "#") hash
  pub is_directive : IsWord word directive
  pub is_subject : IsWord name subject
  pub free : has reserved name ≡ false

-- ---- replacement lists

-- the replacement list: white space in front of it is no part of it
abbrev pub trimmed : List PpToken → List PpToken
trimmed [] = []
trimmed (first ∷ rest) = record first { spaced = false } ∷ rest

-- ## stands at neither end
pub record HasInnerPastes (body : List PpToken) : Type 0 where
  pub first : (token : PpToken) (rest : List PpToken) → body ≡ token ∷ rest → IsPunct (codes "##") token → ⊥
  pub last : (token : PpToken) (rest : List PpToken) → body ≡ rest ++ token ∷ [] → IsPunct (codes "##") token → ⊥

-- behind each # stands a parameter
pub record HasQuotedParameters (parameters : List (List ℕ)) (body : List PpToken) : Type 0 where
  pub followed : (before after : List PpToken) (hash : PpToken) → body ≡ before ++ hash ∷ after → IsPunct (codes "#") hash
      → (parameter : PpToken) × (rest : List PpToken) × (after ≡ parameter ∷ rest) × IsTrue (has parameters parameter.text)

-- ---- parameters

-- The list begins with identifiers, with commas between them, and a right parenthesis; then come these tokens.
pub data Lists : List PpToken → List (List ℕ) → List PpToken → Type 0 where
  last : {name close : PpToken} {behind : List PpToken} → name.kind ≡ Name → IsPunct (codes ")") close → Lists (name ∷ close ∷ behind) (name.text ∷ []) behind
  more : {name comma : PpToken} {rest behind : List PpToken} {names : List (List ℕ)} → name.kind ≡ Name → IsPunct (codes ",") comma
      → Lists rest names behind → Lists (name ∷ comma ∷ rest) (name.text ∷ names) behind

-- The list begins with parameters, maybe none, and a right parenthesis; then comes the replacement list.
pub data Parameters : List PpToken → List (List ℕ) → List PpToken → Type 0 where
  none : {close : PpToken} {body : List PpToken} → IsPunct (codes ")") close → Parameters (close ∷ body) [] body
  some : {inside body : List PpToken} {names : List (List ℕ)} → Lists inside names body → Parameters inside names body

-- each name once
abbrev pub IsOnce : List (List ℕ) → Type 0
IsOnce [] = Unit {0}
IsOnce (name ∷ names) = (has names name ≡ false) × IsOnce names

-- ---- macros

-- a left parenthesis without white space in front
pub record IsCallMark (token : PpToken) : Type 0 where
  pub left : IsPunct (codes "(") token
  pub close_by : token.spaced ≡ false

-- What stands behind the name in a #define line, and the macro that it describes.
pub data Describes : List PpToken → Macro → Type 0 where
  object : {body : List PpToken} → ((first : PpToken) (rest : List PpToken) → body ≡ first ∷ rest → IsCallMark first → ⊥)
      → HasInnerPastes body → Describes body (ObjectLike (trimmed body))
  function : {mark : PpToken} {inside body : List PpToken} {parameters : List (List ℕ)} → IsCallMark mark → Parameters inside parameters body
      → IsOnce parameters → HasInnerPastes body → HasQuotedParameters parameters body
      → Describes (mark ∷ inside) (FunctionLike parameters (trimmed body))

-- The line defines the name as the macro.
pub data Defines : List PpToken → List ℕ → Macro → Type 0 where
  by_line : {line rest : List PpToken} {name : List ℕ} {macro : Macro} → IsAbout (codes "define") line name rest → Describes rest macro → Defines line name macro

-- the line takes away the macro of the name, if it is one
abbrev pub Undefines : List PpToken → List ℕ → Type 0
Undefines line name = IsAbout (codes "undef") line name []

-- ---- the same macro again

-- what is compared of a token: its spelling, and whether white space stands in front of it
abbrev pub compared : PpToken → List ℕ × Bool
compared token = (token.text, token.spaced)

abbrev pub SameBody : List PpToken → List PpToken → Type 0
SameBody a b = map compared a ≡ map compared b

-- Both are macros of one kind, with the same parameters and the same replacement list.
pub data SameMacro : Macro → Macro → Type 0 where
  object : {a b : List PpToken} → SameBody a b → SameMacro (ObjectLike a) (ObjectLike b)
  function : {parameters : List (List ℕ)} {a b : List PpToken} → SameBody a b → SameMacro (FunctionLike parameters a) (FunctionLike parameters b)

-- what a name is after it was defined or taken away: all other names stay
pub record Changes (name : List ℕ) (macro : Option Macro) (before after : Table) : Type 0 where
  pub changed : after.macro_of name ≡ macro
  pub others : (other : List ℕ) → other ≢ name → after.macro_of other ≡ before.macro_of other
  pub same_file : after.file ≡ before.file
  pub same_shift : after.shift ≡ before.shift
