-- How deep a tree is. Its nodes are the unit, functions and their bodies, declarations, specifiers, members, enumerators, the parts of
-- declarators, parameters, type names, statements and expressions; an initialiser behind = and one in braces; a width behind a
-- colon. Depth is the most nodes on a way down: what the grammar repeats is no depth, but each part of a declarator lies in the
-- parts outside of it.
use Rattle.std.specs.Prelude.{◌≡◌, ℕ, zero, suc, ◌&&◌, Bool, true, false, List, [], ◌∷◌, reverse, Option, Some, None}
use Rattle.std.specs.List.{list_all}
use Rattle.c_syntax.specs.declared.expression.Expr.{Expr, out-Expr}
use Rattle.c_syntax.specs.declared.expression.ExprForm.{ExprForm, out-ExprForm}
use Rattle.c_syntax.specs.declared.expression.ExprForm.TheOpen.ExprForm-F.{Name, Integer, Character, Text, Parenthesis, Subscript, Call, Member, PointerMember, Postfix, Prefix, Unary, SizeOfExpr, SizeOfType, Cast, Binary, Conditional, Assign, Comma}
use Rattle.c_syntax.specs.declared.expression.TypeName.{TypeName, out-TypeName}
use Rattle.c_syntax.specs.declared.expression.Specifier.{Specifier, out-Specifier}
use Rattle.c_syntax.specs.declared.expression.SpecifierForm.{SpecifierForm, out-SpecifierForm}
use Rattle.c_syntax.specs.declared.expression.ExprForm.TheOpen.SpecifierForm-F.{Storage, Keyword, Qualifier, Alias, RecordTag, RecordBody, EnumTag, EnumBody}
use Rattle.c_syntax.specs.declared.expression.Field.{Field, out-Field}
use Rattle.c_syntax.specs.declared.expression.FieldDeclarator.{FieldDeclarator, out-FieldDeclarator}
use Rattle.c_syntax.specs.declared.expression.Enumerator.{Enumerator, out-Enumerator}
use Rattle.c_syntax.specs.declared.expression.Declarator.{Declarator, out-Declarator}
use Rattle.c_syntax.specs.declared.expression.Part.{Part, out-Part}
use Rattle.c_syntax.specs.declared.expression.PartForm.{PartForm, out-PartForm}
use Rattle.c_syntax.specs.declared.expression.ExprForm.TheOpen.PartForm-F.{Plain, Group, Pointers, Array, Parameters, Names}
use Rattle.c_syntax.specs.declared.expression.Parameter.{Parameter, out-Parameter}
use Rattle.c_syntax.specs.declared.declaration.Declaration.{Declaration}
use Rattle.c_syntax.specs.declared.declaration.InitDeclarator.{InitDeclarator}
use Rattle.c_syntax.specs.declared.declaration.Initializer.{Initializer, out-Initializer}
use Rattle.c_syntax.specs.declared.declaration.InitializerForm.{InitializerForm}
use Rattle.c_syntax.specs.declared.declaration.InitializerForm.TheVariants as initial
use Rattle.c_syntax.specs.declared.statement.Compound.{Compound}
use Rattle.c_syntax.specs.declared.statement.Statement.{Statement, out-Statement}
use Rattle.c_syntax.specs.declared.statement.StatementForm.{StatementForm}
use Rattle.c_syntax.specs.declared.statement.StatementForm.TheVariants as statement
use Rattle.c_syntax.specs.declared.unit.Function.{Function}
use Rattle.c_syntax.specs.declared.unit.External.{External}
use Rattle.c_syntax.specs.declared.unit.External.TheVariants as external
use Rattle.c_syntax.specs.declared.unit.Tree.{Tree}

-- What is at most so deep, for each kind of thing.
pub record Fits : Type 0 where
  pub fit_expr : Expr → Bool
  pub fit_type_name : TypeName → Bool
  pub fit_specifier : Specifier → Bool
  pub fit_field : Field → Bool
  pub fit_member : FieldDeclarator → Bool
  pub fit_enumerator : Enumerator → Bool
  pub fit_parts : List Part → Bool
  pub fit_parameter : Parameter → Bool
  pub fit_initial : Initializer → Bool
  pub fit_init : InitDeclarator → Bool
  pub fit_declaration : Declaration → Bool
  pub fit_statement : Statement → Bool
  pub fit_body : Compound Statement → Bool
  pub fit_external : External → Bool

-- what may be absent
abbrev pub if_there : {T : Type 0} → (T → Bool) → Option T → Bool
if_there fits None = true
if_there fits (Some x) = fits x

-- ---- what lies in a node, where it may have that depth below the node

abbrev pub expr_in : Fits → ExprForm → Bool
expr_in below form = elim (out-ExprForm form) as (λ x. Bool) [
  | Name name ↦ true
  | Integer value kind ↦ true
  | Character value ↦ true
  | Text bytes ↦ true
  | Parenthesis e ↦ below.fit_expr e
  | Subscript a b ↦ below.fit_expr a && below.fit_expr b
  | Call f arguments ↦ below.fit_expr f && list_all below.fit_expr arguments
  | Member e name ↦ below.fit_expr e
  | PointerMember e name ↦ below.fit_expr e
  | Postfix step e ↦ below.fit_expr e
  | Prefix step e ↦ below.fit_expr e
  | Unary op e ↦ below.fit_expr e
  | SizeOfExpr e ↦ below.fit_expr e
  | SizeOfType t ↦ below.fit_type_name t
  | Cast t e ↦ below.fit_type_name t && below.fit_expr e
  | Binary op a b ↦ below.fit_expr a && below.fit_expr b
  | Conditional c a b ↦ below.fit_expr c && (below.fit_expr a && below.fit_expr b)
  | Assign op a b ↦ below.fit_expr a && below.fit_expr b
  | Comma parts ↦ list_all below.fit_expr parts
]

-- the outermost part lies in the node, and each other one in the part outside of it
abbrev pub declarator_in : Fits → Declarator → Bool
declarator_in below declarator = below.fit_parts (reverse (out-Declarator declarator).parts)

abbrev pub specifier_in : Fits → SpecifierForm → Bool
specifier_in below form = elim (out-SpecifierForm form) as (λ x. Bool) [
  | RecordBody kind tag fields ↦ list_all below.fit_field fields
  | EnumBody tag enumerators ↦ list_all below.fit_enumerator enumerators
  | Storage class ↦ true
  | Keyword keyword ↦ true
  | Qualifier qualifier ↦ true
  | Alias name ↦ true
  | RecordTag kind tag ↦ true
  | EnumTag tag ↦ true
]

abbrev pub part_in : Fits → PartForm → Bool
part_in below form = elim (out-PartForm form) as (λ x. Bool) [
  | Plain name ↦ true
  | Group ↦ true
  | Pointers pointers ↦ true
  | Array size ↦ if_there below.fit_expr size
  | Parameters parameters is_variadic ↦ list_all below.fit_parameter parameters
  | Names names ↦ true
]

abbrev pub compound_in : Fits → Compound Statement → Bool
compound_in below block = list_all below.fit_declaration block.declarations && list_all below.fit_statement block.statements

abbrev pub statement_in : Fits → StatementForm Statement → Bool
statement_in below (statement.Label name s) = below.fit_statement s
statement_in below (statement.Case e s) = below.fit_expr e && below.fit_statement s
statement_in below (statement.Default s) = below.fit_statement s
statement_in below (statement.Compound block) = compound_in below block
statement_in below (statement.Expression e) = if_there below.fit_expr e
statement_in below (statement.If e s t) = below.fit_expr e && (below.fit_statement s && if_there below.fit_statement t)
statement_in below (statement.Switch e s) = below.fit_expr e && below.fit_statement s
statement_in below (statement.While e s) = below.fit_expr e && below.fit_statement s
statement_in below (statement.DoWhile s e) = below.fit_statement s && below.fit_expr e
statement_in below (statement.For start test step s) =
    if_there below.fit_expr start && (if_there below.fit_expr test && (if_there below.fit_expr step && below.fit_statement s))
statement_in below (statement.Goto name) = true
statement_in below statement.Continue = true
statement_in below statement.Break = true
statement_in below (statement.Return e) = if_there below.fit_expr e

-- a definition of a function has a body of its own below it
abbrev pub function_in : Fits → Function → Bool
function_in below f =
    list_all below.fit_specifier f.specifiers
    && (declarator_in below f.declarator && (list_all below.fit_declaration f.declarations && below.fit_body f.body))

-- ---- one level more

-- of parts of a declarator, the outermost first
abbrev pub parts_with : Fits → List Part → Bool
parts_with below [] = true
parts_with below (outer ∷ inner) = part_in below (out-Part outer).form && below.fit_parts inner

-- parts of a declarator where it is no node itself
abbrev pub declarator_with : Fits → Declarator → Bool
declarator_with below declarator = parts_with below (reverse (out-Declarator declarator).parts)

-- with a width a member is a node
abbrev pub member_with : Fits → (width : Option Expr) → (declarator : Option Declarator) → Bool
member_with below None declarator = if_there (declarator_with below) declarator
member_with below (Some width) declarator = if_there (declarator_in below) declarator && below.fit_expr width

-- an initialiser in braces is a node
abbrev pub initial_with : Fits → InitializerForm Initializer → Bool
initial_with below (initial.One e) = expr_in below (out-Expr e).form
initial_with below (initial.Many items) = list_all below.fit_initial items

-- a declarator with an initialiser is a node
abbrev pub init_with : Fits → Declarator → (given : Option Initializer) → Bool
init_with below declarator None = declarator_with below declarator
init_with below declarator (Some given) = declarator_in below declarator && below.fit_initial given

abbrev pub external_with : Fits → External → Bool
external_with below (external.Function f) = function_in below f
external_with below (external.Declaration d) = list_all below.fit_specifier d.specifiers && list_all below.fit_init d.inits

abbrev pub one_more : Fits → Fits
one_more below = record {
  fit_expr = λ (e : Expr). expr_in below (out-Expr e).form;
  fit_type_name = λ (t : TypeName). list_all below.fit_specifier (out-TypeName t).specifiers && if_there (declarator_in below) (out-TypeName t).declarator;
  fit_specifier = λ (s : Specifier). specifier_in below (out-Specifier s).form;
  fit_field = λ (f : Field). list_all below.fit_specifier (out-Field f).specifiers && list_all below.fit_member (out-Field f).declarators;
  fit_member = λ (m : FieldDeclarator). member_with below (out-FieldDeclarator m).width (out-FieldDeclarator m).declarator;
  fit_enumerator = λ (e : Enumerator). if_there below.fit_expr (out-Enumerator e).value;
  fit_parts = parts_with below;
  fit_parameter = λ (p : Parameter). list_all below.fit_specifier (out-Parameter p).specifiers && if_there (declarator_in below) (out-Parameter p).declarator;
  fit_initial = λ (i : Initializer). initial_with below (out-Initializer i).form;
  fit_init = λ (i : InitDeclarator). init_with below i.declarator i.initial;
  fit_declaration = λ (d : Declaration). list_all below.fit_specifier d.specifiers && list_all below.fit_init d.inits;
  fit_statement = λ (s : Statement). statement_in below (out-Statement s).form;
  fit_body = compound_in below;
  fit_external = external_with below;
}

abbrev pub no_parts : List Part → Bool
no_parts [] = true
no_parts (outer ∷ inner) = false

-- no node at all; a declarator may have no part
abbrev pub nothing : Fits
nothing = record {
  fit_expr = λ (e : Expr). false;
  fit_type_name = λ (t : TypeName). false;
  fit_specifier = λ (s : Specifier). false;
  fit_field = λ (f : Field). false;
  fit_member = λ (m : FieldDeclarator). false;
  fit_enumerator = λ (e : Enumerator). false;
  fit_parts = λ (parts : List Part). no_parts parts;
  fit_parameter = λ (p : Parameter). false;
  fit_initial = λ (i : Initializer). false;
  fit_init = λ (i : InitDeclarator). false;
  fit_declaration = λ (d : Declaration). false;
  fit_statement = λ (s : Statement). false;
  fit_body = λ (block : Compound Statement). false;
  fit_external = λ (x : External). false;
}

-- what is at most so deep
abbrev pub at_most : (depth : ℕ) → Fits
at_most zero = nothing
at_most (suc depth) = one_more (at_most depth)

-- a tree, which is a node itself
abbrev pub is_at_most : (depth : ℕ) → Tree → Bool
is_at_most zero tree = false
is_at_most (suc depth) tree = list_all (at_most depth).fit_external tree.externals

-- ---- laws

-- a name is one node
abbrev pub NameIsOne : Type 0
NameIsOne = (e : Expr) (name : List ℕ) → out-ExprForm (out-Expr e).form ≡ Name name
    → ((at_most 1).fit_expr e ≡ true) × ((at_most 0).fit_expr e ≡ false)

-- parentheses are one node more than what stands in them
abbrev pub ParenthesesAreOne : Type 0
ParenthesesAreOne = (e inside : Expr) (depth : ℕ) → out-ExprForm (out-Expr e).form ≡ Parenthesis inside
    → (at_most (suc depth)).fit_expr e ≡ (at_most depth).fit_expr inside

-- the operands of a comma expression lie side by side
abbrev pub CommaIsFlat : Type 0
CommaIsFlat = (e : Expr) (parts : List Expr) (depth : ℕ) → out-ExprForm (out-Expr e).form ≡ Comma parts
    → (at_most (suc depth)).fit_expr e ≡ list_all (at_most depth).fit_expr parts
