-- The parts of declarations that hold no expression, and the ways in which a declarator may stand.
use Rattle.std.specs.Prelude.{◌≡◌, ℕ, Bool, true, false, not, ◌||◌, List, [], ◌∷◌, ◌++◌, Option, Some, None}
use Rattle.fsc_base.specs.declared.place.Place.{Place}
use Rattle.c_lexer.specs.declared.token.Token.{Token}
use Rattle.c_lexer.specs.declared.token.TokenKind.{TokenKind}
use Rattle.c_lexer.specs.declared.token.TokenKind.TheVariants as kind
use Rattle.c_lexer.specs.declared.keyword.Keyword.{Keyword}
use Rattle.c_lexer.specs.declared.punctuator.Punctuator.TheVariants.{Comma, Ellipsis, Star}
use Rattle.c_syntax.specs.declared.operator.Qualifier.{Qualifier}
use Rattle.c_syntax.specs.declared.expression.SpecifierForm.{SpecifierForm}
use Rattle.c_syntax.specs.declared.expression.SpecifierForm.TheVariants as specifier
use Rattle.c_syntax.specs.declared.expression.Pointer.{Pointer}
use Rattle.c_syntax.specs.declared.expression.ListedName.{ListedName}
use Rattle.c_grammar.specs.Names.{Scope, Scopes, is_type}
use Rattle.c_grammar.specs.Tokens.{sign, word, named, qualifier_of}

-- ---- specifiers

-- Whether a specifier may stand in a list, behind those of which one may be a type specifier. Storage classes stand in lists of
-- declarations and parameters alone. A typedef name is a type specifier only where no other one stands before it (C90 6.5.6).
abbrev pub may_follow : (allows_storage has_type : Bool) → SpecifierForm → Bool
may_follow allows_storage has_type (specifier.Storage class) = allows_storage
may_follow allows_storage has_type (specifier.Alias name) = not has_type
may_follow allows_storage has_type _ = true

-- a tag, which may be absent before a body
pub data DerivesTag : List Token → Option (List ℕ) → Type 0 where
  absent : DerivesTag [] None
  present : {p : Place} {tag : List ℕ} → DerivesTag (named tag p ∷ []) (Some tag)

-- ---- declarators

-- How a declarator may stand.
pub data Manner : Type 0 where
  -- with a name; the name may be one that stands for a type only behind a type specifier
  Named : (renames : Bool) → Manner
  -- the same, as the declarator of a parameter
  OfParameter : (renames : Bool) → Manner
  -- without a name
  Abstract : Manner

abbrev pub has_name : Manner → Bool
has_name Abstract = false
has_name _ = true

-- whether a declarator may declare a name, which may stand for a type so far
abbrev pub may_declare : Manner → (is_type : Bool) → Bool
may_declare (Named renames) is_type = not is_type || renames
may_declare (OfParameter renames) is_type = not is_type || renames
may_declare Abstract is_type = false

-- whether the first token is a name that stands for a type
abbrev pub begins_with_type : Scopes → List Token → Bool
begins_with_type names [] = false
begins_with_type names (first ∷ rest) = elim first.kind as (λ (x : TokenKind). Bool) [ kind.Name name ↦ is_type names name | _ ↦ false ]

-- Whether tokens in parentheses may be a declarator. In a parameter a type name in parentheses is the type of a parameter (C90 6.5.4.3).
abbrev pub may_group : Manner → Scopes → List Token → Bool
may_group (OfParameter renames) names inside = not (begins_with_type names inside)
may_group _ names inside = true

-- What stands next around the name of a declarator, parentheses put aside: nothing, or what that declares, which is something
-- only of a list of parameters.
abbrev pub next_around : (nearer : Option Scope) → Scope → Option Scope
next_around None scope = Some scope
next_around (Some nearer) scope = Some nearer

-- what the list of parameters next around the name declares
abbrev pub scope_of : Option Scope → Scope
scope_of None = []
scope_of (Some scope) = scope

-- qualifiers, of which there may be none
pub data DerivesQualifiers : List Token → List (Qualifier × Place) → Type 0 where
  none : DerivesQualifiers [] []
  more : {p : Place} {keyword : Keyword} {qualifier : Qualifier} {tokens : List Token} {qualifiers : List (Qualifier × Place)}
      → qualifier_of keyword ≡ Some qualifier → DerivesQualifiers tokens qualifiers
      → DerivesQualifiers (word keyword p ∷ tokens) ((qualifier, p) ∷ qualifiers)

-- stars with the qualifiers behind each, one at least (6.5.4.1)
pub data DerivesPointers : List Token → List Pointer → Type 0 where
  one : {p : Place} {tokens : List Token} {qualifiers : List (Qualifier × Place)} → DerivesQualifiers tokens qualifiers
      → DerivesPointers (sign Star p ∷ tokens) (record { qualifiers = qualifiers } ∷ [])
  more : {p : Place} {tokens rest : List Token} {qualifiers : List (Qualifier × Place)} {pointers : List Pointer}
      → DerivesQualifiers tokens qualifiers → DerivesPointers rest pointers
      → DerivesPointers (sign Star p ∷ (tokens ++ rest)) (record { qualifiers = qualifiers } ∷ pointers)

-- the names of an old-style definition, none of which stands for a type (6.5.4.3)
pub data DerivesNames (names : Scopes) : List Token → List ListedName → Type 0 where
  one : {p : Place} {name : List ℕ} → is_type names name ≡ false
      → DerivesNames names (named name p ∷ []) (record { place = p; name = name } ∷ [])
  more : {p q : Place} {name : List ℕ} {rest : List Token} {others : List ListedName}
      → is_type names name ≡ false → DerivesNames names rest others
      → DerivesNames names (named name p ∷ sign Comma q ∷ rest) (record { place = p; name = name } ∷ others)

-- the end of a list of parameters, and whether it takes more arguments
pub data DerivesEllipsis : List Token → (is_variadic : Bool) → Type 0 where
  absent : DerivesEllipsis [] false
  present : {p q : Place} → DerivesEllipsis (sign Comma p ∷ sign Ellipsis q ∷ []) true
