-- Which tree derives from which tokens (C90 6.7).
use Rattle.std.specs.Prelude.{true, false, List, [], ◌∷◌, ◌++◌, Option}
use Rattle.fsc_base.specs.declared.place.Place.{Place}
use Rattle.c_lexer.specs.declared.token.Token.{Token}
use Rattle.c_lexer.specs.declared.token.TokenKind.TheVariants.{End}
use Rattle.c_syntax.specs.declared.expression.Specifier.{Specifier}
use Rattle.c_syntax.specs.declared.expression.Declarator.{Declarator}
use Rattle.c_syntax.specs.declared.declaration.Declaration.{Declaration}
use Rattle.c_syntax.specs.declared.statement.Compound.{Compound}
use Rattle.c_syntax.specs.declared.statement.Statement.{Statement}
use Rattle.c_syntax.specs.declared.unit.Function.{Function}
use Rattle.c_syntax.specs.declared.unit.External.{External}
use Rattle.c_syntax.specs.declared.unit.External.TheVariants as external
use Rattle.c_syntax.specs.declared.unit.Tree.{Tree}
use Rattle.c_grammar.specs.Names.{Scope, Scopes, declaring_by}
use Rattle.c_grammar.specs.Tokens.{token, Starts}
use Rattle.c_grammar.specs.Trees.{has_type, is_typedef}
use Rattle.c_grammar.specs.Parts.{Named, scope_of}
use Rattle.c_grammar.specs.Repeating.{Several}
use Rattle.c_grammar.specs.Expressions.{DerivesSpecifiers, DerivesDeclarator}
use Rattle.c_grammar.specs.Declarations.{DerivesDeclaration}
use Rattle.c_grammar.specs.Statements.{DerivesCompound}

-- A definition of a function (6.7.1): specifiers, which may be absent, a declarator, the declarations of an old-style definition's
-- parameters, and the body. The function's name is declared behind its declarator. What the list of parameters next around that name
-- declares is visible again in the declarations and the body, which have that one scope.
pub data DerivesFunction : Scopes → List Token → Function → Scopes → Type 0 where
  function : {names first second third after : Scopes} {list tokens old block : List Token} {specifiers : List Specifier} {declarator : Declarator}
      {around : Option Scope} {declarations : List Declaration} {body : Compound Statement} {scope : Scope} {place : Place}
      → DerivesSpecifiers true false names list specifiers first
      → DerivesDeclarator (Named (has_type specifiers)) first tokens declarator around second
      → Several DerivesDeclaration (scope_of around ∷ declaring_by declarator (is_typedef specifiers) second) old declarations third
      → DerivesCompound third block body (scope ∷ after)
      → Starts (list ++ tokens) place
      → DerivesFunction names (list ++ (tokens ++ (old ++ block)))
      (record { place = place; specifiers = specifiers; declarator = declarator; declarations = declarations; body = body }) after

pub data DerivesExternal : Scopes → List Token → External → Scopes → Type 0 where
  definition : {names after : Scopes} {tokens : List Token} {f : Function}
      → DerivesFunction names tokens f after → DerivesExternal names tokens (external.Function f) after
  declaration : {names after : Scopes} {tokens : List Token} {d : Declaration}
      → DerivesDeclaration names tokens d after → DerivesExternal names tokens (external.Declaration d) after

-- A unit: external declarations, one at least, up to the end. At its start no name stands for a type.
pub data Derives : List Token → Tree → Type 0 where
  unit : {tokens : List Token} {first : External} {others : List External} {after : Scopes} (p : Place)
      → Several DerivesExternal ([] ∷ []) tokens (first ∷ others) after
      → Derives (tokens ++ (token End p ∷ [])) (record { externals = first ∷ others })
