-- Tokens and trees of small texts, each token on a line of its own.
use Rattle.std.specs.Prelude.{ℕ, Bool, List, [], ◌∷◌, None}
use Rattle.fsc_base.specs.declared.place.Place.{Place}
use Rattle.c_syntax.specs.declared.operator.TypeKeyword.TheVariants.{Int}
use Rattle.c_syntax.specs.declared.expression.Expr.{Expr}
use Rattle.c_syntax.specs.declared.expression.ExprForm.TheVariants as form
use Rattle.c_syntax.specs.declared.expression.Specifier.{Specifier}
use Rattle.c_syntax.specs.declared.expression.SpecifierForm.TheVariants as specifier
use Rattle.c_syntax.specs.declared.expression.Part.{Part}
use Rattle.c_syntax.specs.declared.expression.PartForm.TheVariants as part
use Rattle.c_syntax.specs.declared.declaration.Declaration.{Declaration}
use Rattle.c_grammar.specs.Names.{Scope, Scopes}
use Rattle.c_grammar.specs.Trees.{expr_at, specifier_at, declarator_at, part_at}

abbrev pub on : (line : ℕ) → Place
on line = record { unit = 0; file = 0; line = line }

abbrev pub name_on : (line : ℕ) → List ℕ → Expr
name_on line name = expr_at (on line) (form.Name name)

abbrev pub int_on : (line : ℕ) → Specifier
int_on line = specifier_at (on line) (specifier.Keyword Int)

abbrev pub alias_on : (line : ℕ) → List ℕ → Specifier
alias_on line name = specifier_at (on line) (specifier.Alias name)

abbrev pub plain_on : (line : ℕ) → List ℕ → Part
plain_on line name = part_at (on line) (part.Plain name)

-- a declaration of one declarator without an initialiser
abbrev pub declaration_of : (line : ℕ) → List Specifier → (at : ℕ) → List Part → Declaration
declaration_of line specifiers at parts =
    record { place = on line; specifiers = specifiers; inits = record { place = on at; declarator = declarator_at (on at) parts; initial = None } ∷ [] }

-- one scope, which declares nothing
abbrev pub nothing : Scopes
nothing = [] ∷ []

abbrev pub as_type : List ℕ → (is_type : Bool) → Scope → Scope
as_type name is_type scope = record { name = name; is_type = is_type } ∷ scope
