-- What a built node shows.
use Rattle.std.proofs.Common.{◌≡◌, ℕ, List, ◌∷◌, ◌++◌, true, false, Option, Some, None, ap, subst}
use Rattle.fsc_base.specs.declared.place.Place.{Place}
use Rattle.c_lexer.specs.declared.token.Token.{Token}
use Rattle.c_grammar.specs.Tokens.{Starts}
use Rattle.c_syntax.specs.declared.expression.Part.{Part}
use Rattle.c_syntax.specs.declared.expression.PartForm.TheVariants as part
use Rattle.c_syntax.specs.declared.expression.Specifier.{Specifier}
use Rattle.c_syntax.specs.declared.expression.ExprForm.TheViews.{out-roll-Declarator}
use Rattle.c_syntax.specs.declared.statement.Statement.{Statement, out-Statement}
use Rattle.c_syntax.specs.declared.statement.Statement.TheViews as statements
use Rattle.c_syntax.specs.declared.statement.StatementForm.{StatementForm}
use Rattle.c_syntax.specs.Declarators.{name_of, innermost_name}
use Rattle.c_grammar.specs.Names.{Scope, Scopes, declaring, declaring_one}
use Rattle.c_grammar.specs.Trees.{declarator_at, part_at, parameter_at, start_of, parts_of, has_type, is_typedef}
use Rattle.c_grammar.specs.Parts.{Named, OfParameter}
use Rattle.c_grammar.specs.Expressions.{DerivesSpecifiers, DerivesDeclarator, DerivesParameter, with_name}
use Rattle.c_grammar.specs.Declarations.{DerivesInit, plain}
use Rattle.c_grammar.specs.Statements.{statement_at}

pub form_of_statement : (place : Place) (form : StatementForm Statement) → (out-Statement (statement_at place form)).form ≡ form
form_of_statement place form = search statements.the_lemmas

pub start_of_declarator : (place : Place) (parts : List Part) → start_of (declarator_at place parts) ≡ place
start_of_declarator place parts = ap (λ shown. shown.place) (out-roll-Declarator (record { place = place; parts = parts }))

pub parts_of_declarator : (place : Place) (parts : List Part) → parts_of (declarator_at place parts) ≡ parts
parts_of_declarator place parts = ap (λ shown. shown.parts) (out-roll-Declarator (record { place = place; parts = parts }))

pub name_of_plain : (place at : Place) (name : List ℕ) (parts : List Part) → name_of (declarator_at place (part_at at (part.Plain name) ∷ parts)) ≡ Some name
name_of_plain place at name parts = ap innermost_name (parts_of_declarator place (part_at at (part.Plain name) ∷ parts))

-- a declarator of a name without an initialiser
pub declares_plain : {specifiers : List Specifier} {names after : Scopes} {tokens : List Token} {around : Option Scope} (place at : Place) (name : List ℕ) (parts : List Part)
    → DerivesDeclarator (Named (has_type specifiers)) names tokens (declarator_at place (part_at at (part.Plain name) ∷ parts)) around after
    → DerivesInit specifiers names tokens (record { place = place; declarator = declarator_at place (part_at at (part.Plain name) ∷ parts); initial = None })
    (declaring name (is_typedef specifiers) after)
declares_plain {specifiers} {names} {after} {tokens} {around} place at name parts d =
    let all = part_at at (part.Plain name) ∷ parts
    in subst (λ start. DerivesInit specifiers names tokens (record { place = start; declarator = declarator_at place all; initial = None }) (declaring name (is_typedef specifiers) after))
    (start_of_declarator place all)
    (subst (λ found. DerivesInit specifiers names tokens (record { place = start_of (declarator_at place all); declarator = declarator_at place all; initial = None })
    (declaring_one found (is_typedef specifiers) after)) (name_of_plain place at name parts) (plain d))

-- a parameter with a name
pub parameter_named : {specifiers : List Specifier} {names between after : Scopes} {list behind : List Token} {around : Option Scope} (start place at : Place) (name : List ℕ) (parts : List Part)
    → DerivesSpecifiers true false names list specifiers between
    → DerivesDeclarator (OfParameter (has_type specifiers)) between behind (declarator_at place (part_at at (part.Plain name) ∷ parts)) around after → Starts list start
    → DerivesParameter names (list ++ behind) (parameter_at start specifiers (Some (declarator_at place (part_at at (part.Plain name) ∷ parts))))
    (declaring name (is_typedef specifiers) after)
parameter_named {specifiers} {names} {between} {after} {list} {behind} {around} start place at name parts s d i =
    let all = part_at at (part.Plain name) ∷ parts
    in subst (λ found. DerivesParameter names (list ++ behind) (parameter_at start specifiers (Some (declarator_at place all))) (declaring_one found (is_typedef specifiers) after))
    (name_of_plain place at name parts) (with_name start s d i)
