-- Which groups of a conditional inclusion are read, and what a line of a condition breaks (C90 6.8.1).
use Rattle.std.specs.Prelude.{◌≡◌, ◌≢◌, ◌⊎◌, not, Bool, List, [], ◌∷◌, ◌++◌, ℕ, codes, is_some, if◌then◌else◌}
use Rattle.fsc_base.specs.declared.place.Place.{Place}
use Rattle.fsc_base.specs.declared.rule.Rule.{Rule}
use Rattle.fsc_base.specs.declared.rule.Rule.TheVariants.{K35}
use Rattle.pp_token.specs.declared.token.PpToken.{PpToken}
use Rattle.pp_token.specs.declared.token.PpKind.TheVariants.{Name, Number}
use Rattle.cpp_expand.specs.Defining.{IsWord, content_of}
use Rattle.cpp_expand.specs.Expanding.{Expands}
use Rattle.cpp_expand.specs.Refusing.{BrokenExpand}
use Rattle.cpp_expand.specs.Table.{Table}
use Rattle.cpp_expand.specs.Tokens.{IsPunct}
use Rattle.cpp_cond.specs.declared.value.Value.{Value}
use Rattle.cpp_cond.specs.Constants.{BreaksAlone}
use Rattle.cpp_cond.specs.Values.{is_true}
use Rattle.cpp_cond.specs.Terms.{HasValue}

abbrev pub is_defined : Table → List ℕ → Bool
is_defined table name = is_some (table.macro_of name)

abbrev pub IsDefined : PpToken → Type 0
IsDefined token = IsWord (codes "defined") token

-- 1 or 0 in the place of a token
abbrev pub flag : PpToken → Bool → PpToken
flag token b = record token { kind = Number; text = (if b then codes "1" else codes "0"); hide = [] }

-- Each `defined X` and `defined(X)` is replaced, before anything is expanded.
pub data Resolves (table : Table) : List PpToken → List PpToken → Type 0 where
  nothing : Resolves table [] []
  other : (token : PpToken) (tokens rest : List PpToken) → (IsDefined token → ⊥) → Resolves table tokens rest → Resolves table (token ∷ tokens) (token ∷ rest)
  alone : (token name : PpToken) (tokens rest : List PpToken) → IsDefined token → name.kind ≡ Name → Resolves table tokens rest
      → Resolves table (token ∷ name ∷ tokens) (flag token (is_defined table name.text) ∷ rest)
  enclosed : (token : PpToken) (opening name closing : PpToken) (tokens rest : List PpToken) → IsDefined token → IsPunct (codes "(") opening → name.kind ≡ Name → IsPunct (codes ")") closing
      → Resolves table tokens rest → Resolves table (token ∷ opening ∷ name ∷ closing ∷ tokens) (flag token (is_defined table name.text) ∷ rest)

-- no `defined` is among the tokens
pub data HasNoDefined : List PpToken → Type 0 where
  nothing : HasNoDefined []
  other : (token : PpToken) (tokens : List PpToken) → (IsDefined token → ⊥) → HasNoDefined tokens → HasNoDefined (token ∷ tokens)

-- The expression of an `#if` or `#elif` line, of which the tokens behind its name are given, has that value.
pub record Evaluates (table : Table) (tokens : List PpToken) (value : Value) : Type 0 where
  pub resolved : List PpToken
  pub expanded : List PpToken
  pub resolves : Resolves table tokens resolved
  pub expands : Expands table resolved expanded
  pub has_no_defined : HasNoDefined expanded
  pub has_value : HasValue expanded value

-- The group behind the line is read, where that is true, or skipped.
pub data Chooses (table : Table) : List PpToken → Bool → Type 0 where
  ifdef : (hash word name : PpToken) (rest : List PpToken) → IsWord (codes "ifdef") word → name.kind ≡ Name → Chooses table (hash ∷ word ∷ name ∷ rest) (is_defined table name.text)
  ifndef : (hash word name : PpToken) (rest : List PpToken) → IsWord (codes "ifndef") word → name.kind ≡ Name → Chooses table (hash ∷ word ∷ name ∷ rest) (not (is_defined table name.text))
  expression : (hash word : PpToken) (rest : List PpToken) (value : Value) → IsWord (codes "if") word ⊎ IsWord (codes "elif") word → Evaluates table (content_of rest) value
      → Chooses table (hash ∷ word ∷ rest) (is_true value)

-- the name of `#ifdef` or `#ifndef` is missing
abbrev pub HasNoName : List PpToken → Type 0
HasNoName [] = Unit {0}
HasNoName (name ∷ rest) = name.kind ≢ Name

-- What a line of a condition breaks, and where.
pub data BrokenCondition (table : Table) : List PpToken → Rule → Place → Type 0 where
  no_name : (hash word : PpToken) (rest : List PpToken) → IsWord (codes "ifdef") word ⊎ IsWord (codes "ifndef") word → HasNoName (content_of rest)
      → BrokenCondition table (hash ∷ word ∷ rest) K35 hash.place
  -- no integral constant expression, or a `defined` that has no name or came from a macro
  no_value : (hash word : PpToken) (rest : List PpToken) → IsWord (codes "if") word ⊎ IsWord (codes "elif") word
      → ((value : Value) → Evaluates table (content_of rest) value → ⊥) → BrokenCondition table (hash ∷ word ∷ rest) K35 hash.place
  -- a rule of expansion
  expansion : (hash word : PpToken) (rest resolved : List PpToken) (rule : Rule) (place : Place) → IsWord (codes "if") word ⊎ IsWord (codes "elif") word
      → Resolves table (content_of rest) resolved → BrokenExpand table resolved 0 rule place → BrokenCondition table (hash ∷ word ∷ rest) rule place
  -- K44, K45, L04 or L06 of one token
  token : (hash word : PpToken) (rest resolved : List PpToken) (rule : Rule) (before behind : List PpToken) (token : PpToken) → IsWord (codes "if") word ⊎ IsWord (codes "elif") word
      → Resolves table (content_of rest) resolved → Expands table resolved (before ++ token ∷ behind) → BreaksAlone rule token
      → BrokenCondition table (hash ∷ word ∷ rest) rule token.place
