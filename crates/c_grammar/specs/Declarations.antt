-- Which initialisers and declarations derive from which tokens (C90 6.5, 6.5.7).
use Rattle.std.specs.Prelude.{true, false, List, [], ◌∷◌, ◌++◌, Option, Some, None}
use Rattle.fsc_base.specs.declared.place.Place.{Place}
use Rattle.c_lexer.specs.declared.token.Token.{Token}
use Rattle.c_lexer.specs.declared.punctuator.Punctuator.TheVariants.{LeftBrace, RightBrace, Comma, Semicolon, Assign}
use Rattle.c_syntax.specs.declared.expression.Expr.{Expr}
use Rattle.c_syntax.specs.declared.expression.Specifier.{Specifier}
use Rattle.c_syntax.specs.declared.expression.Declarator.{Declarator}
use Rattle.c_syntax.specs.declared.declaration.Declaration.{Declaration}
use Rattle.c_syntax.specs.declared.declaration.InitDeclarator.{InitDeclarator}
use Rattle.c_syntax.specs.declared.declaration.Initializer.{Initializer, roll-Initializer}
use Rattle.c_syntax.specs.declared.declaration.InitializerForm.TheVariants as initial
use Rattle.c_grammar.specs.Names.{Scope, Scopes, declaring_by}
use Rattle.c_grammar.specs.Tokens.{sign, Starts}
use Rattle.c_grammar.specs.Trees.{place_of, start_of, has_type, is_typedef}
use Rattle.c_grammar.specs.Levels.{assignment}
use Rattle.c_grammar.specs.Parts.{Named}
use Rattle.c_grammar.specs.Repeating.{Separated}
use Rattle.c_grammar.specs.Expressions.{DerivesExpr, DerivesSpecifiers, DerivesDeclarator}

-- a comma that may stand behind the last initialiser
pub data DerivesLastComma : List Token → Type 0 where
  absent : DerivesLastComma []
  present : {p : Place} → DerivesLastComma (sign Comma p ∷ [])

mutual
  -- An initialiser: an assignment expression, or initialisers in braces.
  pub data DerivesInitializer : Scopes → List Token → Initializer → Scopes → Type 0 where
    single : {names after : Scopes} {tokens : List Token} {e : Expr}
        → DerivesExpr names assignment tokens e after
        → DerivesInitializer names tokens (roll-Initializer (record { place = place_of e; form = initial.One e })) after
    in_braces : {names after : Scopes} {p : Place} {tokens end : List Token} {items : List Initializer} (q : Place)
        → DerivesInitializers names tokens items after → DerivesLastComma end
        → DerivesInitializer names (sign LeftBrace p ∷ (tokens ++ (end ++ (sign RightBrace q ∷ [])))) (roll-Initializer (record { place = p; form = initial.Many items })) after

  -- Initialisers with commas between them, one at least.
  pub data DerivesInitializers : Scopes → List Token → List Initializer → Scopes → Type 0 where
    one : {names after : Scopes} {tokens : List Token} {item : Initializer}
        → DerivesInitializer names tokens item after → DerivesInitializers names tokens (item ∷ []) after
    more : {names between after : Scopes} {tokens rest : List Token} {item : Initializer} {others : List Initializer} (p : Place)
        → DerivesInitializer names tokens item between → DerivesInitializers between rest others after
        → DerivesInitializers names (tokens ++ (sign Comma p ∷ rest)) (item ∷ others) after

-- A declarator behind specifiers, and its initialiser where one stands. Its name is declared behind the declarator (6.1.2.1), as a
-- type where the specifiers have typedef.
pub data DerivesInit (specifiers : List Specifier) : Scopes → List Token → InitDeclarator → Scopes → Type 0 where
  plain : {names after : Scopes} {tokens : List Token} {declarator : Declarator} {around : Option Scope}
      → DerivesDeclarator (Named (has_type specifiers)) names tokens declarator around after
      → DerivesInit specifiers names tokens (record { place = start_of declarator; declarator = declarator; initial = None })
      (declaring_by declarator (is_typedef specifiers) after)
  initialised : {names between after : Scopes} {tokens behind : List Token} {declarator : Declarator} {around : Option Scope} {given : Initializer} (p : Place)
      → DerivesDeclarator (Named (has_type specifiers)) names tokens declarator around between
      → DerivesInitializer (declaring_by declarator (is_typedef specifiers) between) behind given after
      → DerivesInit specifiers names (tokens ++ (sign Assign p ∷ behind)) (record { place = start_of declarator; declarator = declarator; initial = Some given }) after

-- A declaration: specifiers, one at least, and what they declare, which may be nothing.
pub data DerivesDeclaration : Scopes → List Token → Declaration → Scopes → Type 0 where
  bare : {names after : Scopes} {list : List Token} {specifiers : List Specifier} {place : Place} (p : Place)
      → DerivesSpecifiers true false names list specifiers after → Starts list place
      → DerivesDeclaration names (list ++ (sign Semicolon p ∷ [])) (record { place = place; specifiers = specifiers; inits = [] }) after
  declares : {names between after : Scopes} {list behind : List Token} {specifiers : List Specifier} {inits : List InitDeclarator} {place : Place} (p : Place)
      → DerivesSpecifiers true false names list specifiers between → Separated (DerivesInit specifiers) between behind inits after → Starts list place
      → DerivesDeclaration names (list ++ (behind ++ (sign Semicolon p ∷ []))) (record { place = place; specifiers = specifiers; inits = inits }) after
