-- Nodes of the tree as productions write them, and what a list of specifiers has.
use Rattle.std.specs.Prelude.{ℕ, Bool, true, false, List, Option}
use Rattle.std.specs.List.{list_any}
use Rattle.fsc_base.specs.declared.place.Place.{Place}
use Rattle.c_syntax.specs.declared.operator.Storage.TheVariants.{Typedef}
use Rattle.c_syntax.specs.declared.expression.Expr.{Expr, out-Expr, roll-Expr}
use Rattle.c_syntax.specs.declared.expression.ExprForm.{ExprForm}
use Rattle.c_syntax.specs.declared.expression.TypeName.{TypeName, roll-TypeName}
use Rattle.c_syntax.specs.declared.expression.Specifier.{Specifier, out-Specifier, roll-Specifier}
use Rattle.c_syntax.specs.declared.expression.SpecifierForm.{SpecifierForm}
use Rattle.c_syntax.specs.declared.expression.SpecifierForm.TheVariants as specifier
use Rattle.c_syntax.specs.declared.expression.Field.{Field, roll-Field}
use Rattle.c_syntax.specs.declared.expression.FieldDeclarator.{FieldDeclarator, roll-FieldDeclarator}
use Rattle.c_syntax.specs.declared.expression.Enumerator.{Enumerator, roll-Enumerator}
use Rattle.c_syntax.specs.declared.expression.Declarator.{Declarator, out-Declarator, roll-Declarator}
use Rattle.c_syntax.specs.declared.expression.Part.{Part, roll-Part}
use Rattle.c_syntax.specs.declared.expression.PartForm.{PartForm}
use Rattle.c_syntax.specs.declared.expression.Parameter.{Parameter, roll-Parameter}

abbrev pub expr_at : Place → ExprForm → Expr
expr_at place form = roll-Expr (record { place = place; form = form })

abbrev pub place_of : Expr → Place
place_of e = (out-Expr e).place

abbrev pub type_name_at : Place → List Specifier → Option Declarator → TypeName
type_name_at place specifiers declarator = roll-TypeName (record { place = place; specifiers = specifiers; declarator = declarator })

abbrev pub specifier_at : Place → SpecifierForm → Specifier
specifier_at place form = roll-Specifier (record { place = place; form = form })

abbrev pub field_at : Place → List Specifier → List FieldDeclarator → Field
field_at place specifiers declarators = roll-Field (record { place = place; specifiers = specifiers; declarators = declarators })

abbrev pub member_at : Place → Option Declarator → (width : Option Expr) → FieldDeclarator
member_at place declarator width = roll-FieldDeclarator (record { place = place; declarator = declarator; width = width })

abbrev pub enumerator_at : Place → (name : List ℕ) → (value : Option Expr) → Enumerator
enumerator_at place name value = roll-Enumerator (record { place = place; name = name; value = value })

abbrev pub declarator_at : Place → List Part → Declarator
declarator_at place parts = roll-Declarator (record { place = place; parts = parts })

abbrev pub parts_of : Declarator → List Part
parts_of declarator = (out-Declarator declarator).parts

abbrev pub start_of : Declarator → Place
start_of declarator = (out-Declarator declarator).place

abbrev pub part_at : Place → PartForm → Part
part_at place form = roll-Part (record { place = place; form = form })

abbrev pub parameter_at : Place → List Specifier → Option Declarator → Parameter
parameter_at place specifiers declarator = roll-Parameter (record { place = place; specifiers = specifiers; declarator = declarator })

-- ---- specifiers

-- a type specifier (C90 6.5.2): no storage class and no qualifier
abbrev pub is_type_form : SpecifierForm → Bool
is_type_form (specifier.Storage class) = false
is_type_form (specifier.Qualifier qualifier) = false
is_type_form _ = true

abbrev pub is_typedef_form : SpecifierForm → Bool
is_typedef_form (specifier.Storage Typedef) = true
is_typedef_form _ = false

abbrev pub is_type_specifier : Specifier → Bool
is_type_specifier s = is_type_form (out-Specifier s).form

-- whether a list has a type specifier
abbrev pub has_type : List Specifier → Bool
has_type specifiers = list_any is_type_specifier specifiers

-- whether what stands behind a list is declared as a type: it has typedef (C90 6.5.6)
abbrev pub is_typedef : List Specifier → Bool
is_typedef specifiers = list_any (λ (s : Specifier). is_typedef_form (out-Specifier s).form) specifiers
