-- Lines, directives and conditional groups (C90 6.8 and 6.8.1).
use Rattle.std.specs.Prelude.{◌≡◌, ◌⊎◌, Bool, true, false, List, [], ◌∷◌, ◌++◌, ℕ, codes}
use Rattle.pp_token.specs.declared.token.PpToken.{PpToken}
use Rattle.pp_token.specs.declared.token.PpKind.TheVariants.{Other}
use Rattle.cpp_expand.specs.Tokens.{IsPunct, IsLineEnd}
use Rattle.cpp_expand.specs.Defining.{IsWord}

-- no end of a line is among the tokens
pub data IsWithin : List PpToken → Type 0 where
  nothing : IsWithin []
  token : (token : PpToken) (tokens : List PpToken) → (IsLineEnd token → ⊥) → IsWithin tokens → IsWithin (token ∷ tokens)

-- a line with its end, where it has one
pub data IsLine : List PpToken → Type 0 where
  ended : (inner : List PpToken) (end : PpToken) → IsWithin inner → IsLineEnd end → IsLine (inner ++ end ∷ [])
  last : (first : PpToken) (inner : List PpToken) → IsWithin (first ∷ inner) → IsLine (first ∷ inner)

-- a directive's line begins with #
pub data IsDirective : List PpToken → Type 0 where
  by_hash : (hash : PpToken) (rest : List PpToken) → IsPunct (codes "#") hash → IsLine (hash ∷ rest) → IsDirective (hash ∷ rest)

-- lines without a directive among them
pub data IsText : List PpToken → Type 0 where
  nothing : IsText []
  line : (line rest : List PpToken) → IsLine line → (IsDirective line → ⊥) → IsText rest → IsText (line ++ rest)

-- the directive of that name, with what stands behind the name
pub data Directs (name : List ℕ) : List PpToken → List PpToken → Type 0 where
  named : (hash word : PpToken) (rest : List PpToken) → IsDirective (hash ∷ word ∷ rest) → IsWord name word → Directs name (hash ∷ word ∷ rest) rest

-- a quote that is not closed on its line
abbrev pub IsOpenQuote : PpToken → Type 0
IsOpenQuote quote = (quote.kind ≡ Other) × ((quote.text ≡ codes "'") ⊎ (quote.text ≡ 34 ∷ []))

-- ---- conditional inclusion

-- Of an `#if` without its `#endif` so far: no group of it was read yet, the group here is read, or no further one is.
pub data Choice : Type 0 where
  Open : Choice
  Reads : Choice
  Closed : Choice

pub record Group : Type 0 where
  pub choice : Choice
  pub has_else : Bool

-- the group here is read: no `#if` is without its `#endif`, or the innermost one reads it
pub data IsRead : List Group → Type 0 where
  whole : IsRead []
  inner : (group : Group) (groups : List Group) → group.choice ≡ Reads → IsRead (group ∷ groups)

abbrev pub begun : Bool → Group
begun true = record { choice = Reads; has_else = false }
begun false = record { choice = Open; has_else = false }

-- in a group that is skipped
abbrev pub unread : Group
unread = record { choice = Closed; has_else = false }

-- at `#elif`, whose condition counts only where no group was read yet
abbrev pub after_elif : Choice → Bool → Choice
after_elif Open true = Reads
after_elif Open false = Open
after_elif Reads b = Closed
after_elif Closed b = Closed

-- at `#else`
abbrev pub after_else : Choice → Choice
after_else Open = Reads
after_else Reads = Closed
after_else Closed = Closed
