-- Words to write typed trees and programs with, for worked programs. Places are left out of account: all are the first line.
use Rattle.std.specs.Prelude.{ℕ, List, [], ◌∷◌, ◌++◌, codes, map, true, false, Option}
use Rattle.fsc_base.specs.declared.place.Place.{Place}
use Rattle.fsc_base.specs.declared.word.Width.TheVariants as width
use Rattle.fsc_base.specs.declared.end.End.{End}
use Rattle.c_ops.specs.declared.operators.Operator.{Operator}
use Rattle.c_ops.specs.declared.linkage.Linkage.TheVariants.{External}
use Rattle.c_ops.specs.declared.linkage.Definition.TheVariants as definition
use Rattle.c_types.specs.declared.node.TypeNode.{TypeNode}
use Rattle.c_types.specs.declared.node.TypeNode.TheVariants.{Function}
use Rattle.c_types.specs.Nodes.{presets}
use Rattle.c_link.specs.Linked as link
use Rattle.c_shapes.specs.Runs.{seen}
use Rattle.c_shapes.specs.Watch.{Watch}
use Rattle.c_tree.specs.declared.expression.Access.{Access}
use Rattle.c_tree.specs.declared.expression.Access.TheVariants.{Scalar}
use Rattle.c_tree.specs.declared.expression.CompoundOp.TheVariants.{Plain}
use Rattle.c_tree.specs.declared.expression.Symbol.TheVariants.{Named}
use Rattle.c_tree.specs.declared.expression.TExpr.{TExpr, roll-TExpr}
use Rattle.c_tree.specs.declared.expression.Form.{Form}
use Rattle.c_tree.specs.declared.expression.Form.TheVariants as form
use Rattle.c_tree.specs.declared.statement.TStatement.{TStatement, roll-TStatement}
use Rattle.c_tree.specs.declared.statement.TStatement.TheOpen.{TStatement-F}
use Rattle.c_tree.specs.declared.statement.TStatement.TheOpen.TStatement-F.{Expression, Compound, ReturnValue}
use Rattle.c_tree.specs.declared.unit.TypedSymbol.{TypedSymbol}
use Rattle.c_tree.specs.declared.unit.TypedFunction.{TypedFunction}
use Rattle.c_tree.specs.declared.unit.TypedUnit.{TypedUnit}
use Rattle.c_tree.specs.Views.{typed_view}
use Rattle.c_tree.specs.Rows.{Row, Todo, done, next}
use Rattle.c_tree.specs.States.{Callee, Program}
use Rattle.c_tree.specs.Programs.{program_of, program_with, callees_of, start_of}
use Rattle.c_tree.specs.Runs.{EndAt}
use Rattle.c_tree.specs.Watching.{watch_at, start_watch}

abbrev pub first_line : Place
first_line = record { unit = 0; file = 0; line = 1 }

-- an expression of a type
abbrev pub expression : (kind : ℕ) → Form TExpr → TExpr
expression kind form = roll-TExpr (record { form = form; kind = kind; place = first_line })

-- int is type 6
abbrev pub int : ℕ
int = 6

abbrev pub number : ℕ → TExpr
number n = expression int (form.Number n)

-- how an int is read and stored, and a pointer
abbrev pub int_access : Access
int_access = Scalar width.Four true

abbrev pub pointer_access : Access
pointer_access = Scalar width.Four false

-- a local object, and its value where it is an int
abbrev pub local : (kind i : ℕ) → TExpr
local kind i = expression kind (form.Local i)

abbrev pub value : TExpr → TExpr
value e = expression int (form.Value e int_access)

-- l = r, and l op= r, of ints
abbrev pub assignment : (l r : TExpr) → TExpr
assignment l r = expression int (form.Assign l r int_access)

abbrev pub compound : (l : TExpr) → Operator → (r : TExpr) → TExpr
compound l op r = expression int (form.Compound l (Plain op) r int_access)

abbrev pub binary : Operator → (l r : TExpr) → TExpr
binary op l r = expression int (form.Binary op l r)

-- a function of the unit, as what is called
abbrev pub called : (pointer kind symbol : ℕ) → TExpr
called pointer kind symbol = expression pointer (form.Decay (expression kind (form.Static (Named symbol))))

abbrev pub statement : TStatement-F TStatement → TStatement
statement s = roll-TStatement s

abbrev pub does : TExpr → TStatement
does e = statement (Expression e)

abbrev pub gives : TExpr → TStatement
gives e = statement (ReturnValue e)

abbrev pub block : List TStatement → TStatement
block statements = statement (Compound statements)

-- a function of no parameters that gives an int
abbrev pub int_function : TypeNode
int_function = Function int true [] false

-- the symbol of a function that the unit defines and uses
abbrev pub function_symbol : (name : List ℕ) → (kind index : ℕ) → TypedSymbol
function_symbol name kind index =
    record { name = name; linkage = External; kind = kind; used = true; definition = definition.Function index }

-- a unit whose functions have symbols of these types
abbrev pub unit : (types : List TypeNode) → List TypedSymbol → List TypedFunction → TypedUnit
unit types symbols functions = record { types = presets ++ types; symbols = symbols; functions = functions; objects = [] }

-- ---- runs of a program of one unit, without input

abbrev pub linked : TypedUnit → link.LinkProgram
linked u = link.program_of (typed_view u ∷ [])

-- its end at a cost
abbrev pub end_at : TypedUnit → (cost : ℕ) → Option End
end_at u cost = EndAt (program_of (u ∷ []) (linked u)) (start_of (linked u)) [] cost

-- its shapes and away accesses
abbrev pub watch_of : TypedUnit → (cost : ℕ) → Watch
watch_of u cost = watch_at (program_of (u ∷ []) (linked u)) (seen (start_watch (u ∷ [])) (start_of (linked u))) [] cost

-- ---- the rows of its functions

abbrev pub rows : List Row → Todo
rows [] = done
rows (row ∷ more) = next row (rows more)

abbrev pub code_in : Callee → Todo
code_in callee = callee.code

abbrev pub codes_of : TypedUnit → List Todo
codes_of u = map code_in (callees_of 0 u)

-- the same program, given the rows of its functions
abbrev pub with_codes : List Callee → List Todo → List Callee
with_codes [] codes = []
with_codes (callee ∷ callees) [] = []
with_codes (callee ∷ callees) (code ∷ codes) = record callee { code = code } ∷ with_codes callees codes

abbrev pub program_by : TypedUnit → List Todo → Program
program_by u codes = program_with (with_codes (callees_of 0 u) codes ∷ []) (u ∷ []) (linked u)

abbrev pub end_by : TypedUnit → (cost : ℕ) → List Todo → Option End
end_by u cost codes = EndAt (program_by u codes) (start_of (linked u)) [] cost

abbrev pub watch_by : TypedUnit → (cost : ℕ) → List Todo → Watch
watch_by u cost codes = watch_at (program_by u codes) (seen (start_watch (u ∷ [])) (start_of (linked u))) [] cost
