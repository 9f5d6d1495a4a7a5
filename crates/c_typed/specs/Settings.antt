-- Where an expression stands, and what its typed tree shows.
use Rattle.std.specs.Prelude.{ℕ, ◌&&◌, not, Bool, true, false, List, Option, Some, None}
use Rattle.fsc_base.specs.declared.place.Place.{Place}
use Rattle.c_syntax.specs.declared.expression.Expr.{Expr, out-Expr}
use Rattle.c_syntax.specs.declared.expression.ExprForm.{ExprForm}
use Rattle.c_types.specs.declared.node.TypeNode.{TypeNode}
use Rattle.c_types.specs.declared.node.TypeNode.TheVariants as node
use Rattle.c_types.specs.Nodes.{node_at}
use Rattle.c_tree.specs.declared.expression.Symbol.{Symbol}
use Rattle.c_tree.specs.declared.expression.TExpr.{TExpr, out-TExpr, roll-TExpr}
use Rattle.c_tree.specs.declared.expression.Form.{Form}
use Rattle.c_tree.specs.declared.expression.Form.TheVariants as form
use Rattle.c_tree.specs.Programs.{bare_node}
use Rattle.c_tree.specs.SoundTypes.{is_void, is_scalar}
use Rattle.c_tree.specs.Views.{is_const_bit}

-- what a name in an expression stands for: something with an address from the start, a parameter or automatic object, an enumerator
pub data Meaning : Type 0 where
  Static : Symbol → (kind : ℕ) → Meaning
  Automatic : (index kind : ℕ) → Meaning
  Enumerator : (value : ℕ) → Meaning

-- the names in scope, and the types so far
pub record Setting : Type 0 where
  pub names : List ℕ → Option Meaning
  pub types : List TypeNode

-- ---- trees

abbrev pub form_of : Expr → ExprForm
form_of e = (out-Expr e).form

abbrev pub tree : Form TExpr → (kind : ℕ) → Place → TExpr
tree form kind place = roll-TExpr (record { form = form; kind = kind; place = place })

abbrev pub kind_of : TExpr → ℕ
kind_of t = (out-TExpr t).kind

abbrev pub start_of : TExpr → Place
start_of t = (out-TExpr t).place

-- its type without qualifiers
abbrev pub type_of : List TypeNode → TExpr → TypeNode
type_of types t = bare_node types (kind_of t)

-- the form names an object or a function, of which it is an lvalue or a designator (C90 6.2.2.1)
abbrev pub is_path_form : Form TExpr → Bool
is_path_form (form.Static symbol) = true
is_path_form (form.Local i) = true
is_path_form (form.Deref e) = true
is_path_form (form.Index a b pointer size) = true
is_path_form (form.Dot e m) = true
is_path_form (form.Arrow e m) = true
is_path_form _ = false

abbrev pub is_path : TExpr → Bool
is_path t = is_path_form (out-TExpr t).form

-- ---- conditions on types

abbrev pub is_scalar_in : List TypeNode → TExpr → Bool
is_scalar_in types t = is_scalar (type_of types t)

abbrev pub is_void_in : List TypeNode → TExpr → Bool
is_void_in types t = is_void (type_of types t)

-- const of its own
abbrev pub is_const_node : TypeNode → Bool
is_const_node (node.Qualified of bits) = is_const_bit bits
is_const_node _ = false

-- a modifiable lvalue, of scalar type (C90 6.2.2.1)
abbrev pub is_modifiable : List TypeNode → TExpr → Bool
is_modifiable types t = is_path t && (is_scalar_in types t && not (is_const_node (node_at types (kind_of t))))

-- what it points to, where it is a pointer
abbrev pub pointed_in : TypeNode → Option ℕ
pointed_in (node.Pointer to) = Some to
pointed_in _ = None

abbrev pub pointed : List TypeNode → TExpr → Option ℕ
pointed types t = pointed_in (type_of types t)
