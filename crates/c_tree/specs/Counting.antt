-- The nodes of a unit: its expressions, the conversions that the text leaves out, its statements, case labels, pieces of
-- initialisers, functions, parameters and local names. The pieces of a string literal are none.
use Rattle.std.specs.Prelude.{ℕ, ◌+◌, ◌-◌, ◌^◌, ◌==◌, min, if◌then◌else◌, List, length, map, sum, Option, Some, None}
use Rattle.c_tree.specs.declared.expression.TExpr.{TExpr, fold-TExpr}
use Rattle.c_tree.specs.declared.expression.TExpr.TheOpen.{TExpr-F}
use Rattle.c_tree.specs.declared.expression.Form.{Form}
use Rattle.c_tree.specs.declared.expression.Form.TheVariants as form
use Rattle.c_tree.specs.declared.statement.Piece.{Piece}
use Rattle.c_tree.specs.declared.statement.TStatement.{TStatement, fold-TStatement}
use Rattle.c_tree.specs.declared.statement.TStatement.TheOpen.{TStatement-F}
use Rattle.c_tree.specs.declared.statement.TStatement.TheOpen.TStatement-F.{Empty, Expression, Compound, Initialise, If, IfElse, While, DoWhile, For, Switch, Case, Default, Labelled, Goto, Break, Continue, Return, ReturnValue, ReturnRecord}
use Rattle.c_tree.specs.declared.unit.TypedFunction.{TypedFunction}
use Rattle.c_tree.specs.declared.unit.TypedObject.{TypedObject}
use Rattle.c_tree.specs.declared.unit.TypedUnit.{TypedUnit}

-- a count, which stands still at the end of its type
abbrev pub most : ℕ → ℕ
most n = min n (2 ^ 64 - 1)

-- ---- expressions

abbrev pub form_nodes : Form ℕ → ℕ
form_nodes (form.Static symbol) = 0
form_nodes (form.Local i) = 0
form_nodes (form.Deref e) = e
form_nodes (form.Index base index pointer size) = base + index
form_nodes (form.Dot e m) = e
form_nodes (form.Arrow e m) = e
form_nodes (form.Value e access) = e
form_nodes (form.Decay e) = e
form_nodes (form.Convert e c) = e
form_nodes (form.Number n) = 0
form_nodes (form.AddressOf e) = e
form_nodes (form.Unary op e) = e
form_nodes (form.Binary op a b) = a + b
form_nodes (form.PointerAdd a b pointer size) = a + b
form_nodes (form.PointerMinus p i size) = p + i
form_nodes (form.PointerDifference a b size) = a + b
form_nodes (form.Both a b) = a + b
form_nodes (form.Either a b) = a + b
form_nodes (form.Choose c a b) = c + a + b
form_nodes (form.Comma parts) = sum parts
form_nodes (form.Assign target v access) = target + v
form_nodes (form.AssignRecord target v size) = target + v
form_nodes (form.Compound target op v access) = target + v
form_nodes (form.Step target op is_prefix access) = target
form_nodes (form.Call f arguments) = f + sum arguments
form_nodes (form.CallRecord f arguments number) = f + sum arguments
form_nodes (form.Primitive p arguments) = sum arguments

abbrev pub expression_step : TExpr-F ℕ → ℕ
expression_step e = 1 + form_nodes e.form

unfoldable pub expression_nodes : TExpr → ℕ
expression_nodes e = fold-TExpr ℕ expression_step e

abbrev pub optional_nodes : Option TExpr → ℕ
optional_nodes None = 0
optional_nodes (Some e) = expression_nodes e

-- ---- pieces

abbrev pub piece_nodes : Piece → ℕ
piece_nodes piece = 1 + expression_nodes piece.value

abbrev pub pieces_nodes : List Piece → ℕ
pieces_nodes pieces = sum (map piece_nodes pieces)

-- ---- statements

-- an initialiser is no statement, and a case label counts beside its statement
abbrev pub statement_step : TStatement-F ℕ → ℕ
statement_step Empty = 1
statement_step (Expression e) = 1 + expression_nodes e
statement_step (Compound statements) = 1 + sum statements
statement_step (Initialise local size is_aggregate pieces) = pieces_nodes pieces
statement_step (If e s) = 1 + expression_nodes e + s
statement_step (IfElse e s t) = 1 + expression_nodes e + s + t
statement_step (While e s) = 1 + expression_nodes e + s
statement_step (DoWhile s e) = 1 + s + expression_nodes e
statement_step (For start test step s) = 1 + optional_nodes start + optional_nodes test + optional_nodes step + s
statement_step (Switch e s) = 1 + expression_nodes e + s
statement_step (Case v s) = 2 + s
statement_step (Default s) = 1 + s
statement_step (Labelled l s) = 1 + s
statement_step (Goto l) = 1
statement_step Break = 1
statement_step Continue = 1
statement_step Return = 1
statement_step (ReturnValue e) = 1 + expression_nodes e
statement_step (ReturnRecord e size) = 1 + expression_nodes e

unfoldable pub statement_nodes : TStatement → ℕ
statement_nodes s = fold-TStatement ℕ statement_step s

-- ---- units

abbrev pub function_nodes : TypedFunction → ℕ
function_nodes f = 1 + length f.locals + statement_nodes f.body

-- an object without a name is a string literal
abbrev pub object_nodes : TypedObject → ℕ
object_nodes object = if length object.name == 0 then 0 else pieces_nodes object.pieces

unfoldable pub nodes_of : TypedUnit → ℕ
nodes_of u = sum (map function_nodes u.functions) + sum (map object_nodes u.objects)
