-- Expansion (C90 6.8.3): what a list of tokens with hide sets turns into.
use Rattle.std.specs.Prelude.{◌≡◌, ◌≢◌, ℕ, Bool, true, false, List, [], ◌∷◌, ◌++◌, map, codes, Option, Some, None}
use Rattle.fsc_base.specs.declared.place.Place.{Place}
use Rattle.pp_token.specs.declared.token.PpToken.{PpToken}
use Rattle.pp_token.specs.declared.token.PpKind.TheVariants.{Name, Number, Str}
use Rattle.pp_token.specs.HideSets.{with_name, common}
use Rattle.cpp_expand.specs.Tokens.{IsPunct, IsHidden, hidden_from, put_in, unhidden}
use Rattle.cpp_expand.specs.Table.{Table, ObjectLike, FunctionLike, FileName, LineNumber, Standard}
use Rattle.cpp_expand.specs.Operators.{Joins, string_token, made_token, quoted, escaped, line_text}
use Rattle.cpp_expand.specs.Calls.{Opens, Holds, Fits, argument_of}

-- A macro name that is being replaced.
pub record Call : Type 0 where
  -- where the name stands
  pub place : Place
  -- whether the macro is function-like: # is an operator there alone
  pub has_arguments : Bool
  pub parameters : List (List ℕ)
  pub arguments : List (List PpToken)

abbrev pub object_call : PpToken → Call
object_call name = record { place = name.place; has_arguments = false; parameters = []; arguments = [] }

abbrev pub function_call : PpToken → List (List ℕ) → List (List PpToken) → Call
function_call name parameters arguments = record { place = name.place; has_arguments = true; parameters = parameters; arguments = arguments }

-- the argument that the token of a replacement list stands for
abbrev pub argument_at : Call → PpToken → Option (List PpToken)
argument_at call token = argument_of call.parameters call.arguments token.text

-- the token is the operator #
abbrev pub IsHash : Call → PpToken → Type 0
IsHash call token = (call.has_arguments ≡ true) × IsPunct (codes "#") token

-- the list begins with the operator ##
abbrev pub BeginsPaste : List PpToken → Type 0
BeginsPaste [] = ⊥
BeginsPaste (first ∷ rest) = IsPunct (codes "##") first

-- whether white space stands in front of the first token
abbrev pub is_spaced : List PpToken → Bool
is_spaced [] = false
is_spaced (first ∷ rest) = first.spaced

-- a token of a replacement list has the place of the name that is replaced
abbrev pub placed : Call → PpToken → PpToken
placed call token = record token { place = call.place; hide = [] }

-- ---- operands of ##

-- The replacement list begins with an operand: its tokens, and what stands behind it.
pub data Operand (call : Call) : List PpToken → List PpToken → List PpToken → Type 0 where
  -- # and a parameter
  string : {hash parameter : PpToken} {argument behind : List PpToken} → IsHash call hash → argument_at call parameter ≡ Some argument
      → Operand call (hash ∷ parameter ∷ behind) (string_token call.place hash.spaced argument ∷ []) behind
  -- a parameter: its argument as it is
  argument : {parameter : PpToken} {argument behind : List PpToken} → argument_at call parameter ≡ Some argument
      → Operand call (parameter ∷ behind) argument behind
  -- another token
  token : {token : PpToken} {behind : List PpToken} → (IsHash call token → ⊥) → argument_at call token ≡ None
      → Operand call (token ∷ behind) (placed call token ∷ []) behind

-- Tokens, and a list that may begin with ## and a further operand, and so on: what they are joined to, and what stands
-- behind. The operators are taken from left to right.
pub data Pastes (call : Call) : List PpToken → List PpToken → List PpToken → List PpToken → Type 0 where
  ends : {left behind : List PpToken} → (BeginsPaste behind → ⊥) → Pastes call left behind left behind
  more : {paste : PpToken} {left right joint all rest after behind : List PpToken} → IsPunct (codes "##") paste → Operand call rest right after
      → Joins call.place left right joint → Pastes call joint after all behind → Pastes call left (paste ∷ rest) all behind

-- ---- expansion

mutual
  -- What the first token of a list turns into: tokens that are given out, and the list that is left to expand.
  pub data Turns (table : Table) : List PpToken → List PpToken → List PpToken → Type 0 where
    -- no identifier
    no_name : {token : PpToken} {rest : List PpToken} → token.kind ≢ Name → Turns table (token ∷ rest) (token ∷ []) rest
    -- no macro
    no_macro : {name : PpToken} {rest : List PpToken} → name.kind ≡ Name → table.macro_of name.text ≡ None → Turns table (name ∷ rest) (name ∷ []) rest
    -- a name in its own hide set
    hidden : {name : PpToken} {rest : List PpToken} → name.kind ≡ Name → IsHidden name → Turns table (name ∷ rest) (name ∷ []) rest
    -- an object-like macro: what its replacement list gives is expanded with the tokens behind it
    object : {name : PpToken} {rest body tokens : List PpToken} → name.kind ≡ Name → (IsHidden name → ⊥) → table.macro_of name.text ≡ Some (ObjectLike body)
        → Substitutes table (object_call name) body tokens
        → Turns table (name ∷ rest) [] (put_in name.spaced (map (hidden_from (with_name name.hide name.text)) tokens) rest)
    -- a function-like macro without a left parenthesis behind it
    uncalled : {name : PpToken} {rest body : List PpToken} {parameters : List (List ℕ)} → name.kind ≡ Name → (IsHidden name → ⊥)
        → table.macro_of name.text ≡ Some (FunctionLike parameters body) → ((inside : List PpToken) → Opens rest inside → ⊥) → Turns table (name ∷ rest) (name ∷ []) rest
    -- a function-like macro with its call
    called : {name close : PpToken} {rest inside first behind body tokens : List PpToken} {parameters : List (List ℕ)} {others arguments : List (List PpToken)}
        → name.kind ≡ Name → (IsHidden name → ⊥) → table.macro_of name.text ≡ Some (FunctionLike parameters body)
        → Opens rest inside → Holds 0 inside first others close behind → Fits parameters (first ∷ others) arguments
        → Substitutes table (function_call name parameters arguments) body tokens
        → Turns table (name ∷ rest) [] (put_in name.spaced (map (hidden_from (with_name (common name.hide close.hide) name.text)) tokens) behind)
    -- __FILE__
    file_name : {name : PpToken} {rest : List PpToken} → name.kind ≡ Name → (IsHidden name → ⊥) → table.macro_of name.text ≡ Some FileName
        → Turns table (name ∷ rest) (made_token Str (quoted (escaped table.file)) name ∷ []) rest
    -- __LINE__
    line_number : {name : PpToken} {rest : List PpToken} → name.kind ≡ Name → (IsHidden name → ⊥) → table.macro_of name.text ≡ Some LineNumber
        → Turns table (name ∷ rest) (made_token Number (line_text table name) name ∷ []) rest
    -- __STDC__
    standard : {name : PpToken} {rest : List PpToken} → name.kind ≡ Name → (IsHidden name → ⊥) → table.macro_of name.text ≡ Some Standard
        → Turns table (name ∷ rest) (made_token Number (codes "1") name ∷ []) rest

  -- What a list gives out, one first token after the other, and the list that is then left.
  pub data Gives (table : Table) : List PpToken → List PpToken → List PpToken → Type 0 where
    nothing : {tokens : List PpToken} → Gives table tokens [] tokens
    turn : {tokens given left more rest : List PpToken} → Turns table tokens given left → Gives table left more rest → Gives table tokens (given ++ more) rest

  -- What the front of a replacement list stands for, and what stands behind it.
  pub data Stands (table : Table) : Call → List PpToken → List PpToken → List PpToken → Type 0 where
    -- operands of ##
    pasted : {call : Call} {body left rest all behind : List PpToken} → Operand call body left rest → BeginsPaste rest → Pastes call left rest all behind
        → Stands table call body all behind
    -- # and a parameter
    string : {call : Call} {hash parameter : PpToken} {argument behind : List PpToken} → IsHash call hash → argument_at call parameter ≡ Some argument → (BeginsPaste behind → ⊥)
        → Stands table call (hash ∷ parameter ∷ behind) (string_token call.place hash.spaced argument ∷ []) behind
    -- a parameter, whose argument is expanded first, as if nothing stood behind it
    argument : {call : Call} {parameter : PpToken} {argument tokens behind : List PpToken} → argument_at call parameter ≡ Some argument → (BeginsPaste behind → ⊥)
        → Gives table argument tokens [] → Stands table call (parameter ∷ behind) tokens behind
    -- another token
    token : {call : Call} {token : PpToken} {behind : List PpToken} → (IsHash call token → ⊥) → argument_at call token ≡ None → (BeginsPaste behind → ⊥)
        → Stands table call (token ∷ behind) (placed call token ∷ []) behind

  -- What a whole replacement list gives, with the arguments put in.
  pub data Substitutes (table : Table) : Call → List PpToken → List PpToken → Type 0 where
    empty : {call : Call} → Substitutes table call [] []
    front : {call : Call} {body tokens behind rest : List PpToken} → Stands table call body tokens behind → Substitutes table call behind rest
        → Substitutes table call body (put_in (is_spaced body) tokens rest)

-- The whole list is expanded to these tokens. Their hide sets have served, and are left out.
pub record Expands (table : Table) (tokens answer : List PpToken) : Type 0 where
  pub given : List PpToken
  pub all : Gives table tokens given []
  pub bare : answer ≡ map unhidden given
