-- Numbers of types by what they are made of.
use Rattle.std.specs.Prelude.{◌≡◌, ℕ, List, Option}
use Rattle.std.specs.Map.{lookup}
use Rattle.c_types.specs.declared.form.Form.{Form}
use Rattle.c_types.specs.declared.form.Form.TheVariants as form
use Rattle.c_types.specs.declared.node.TypeNode.{TypeNode}
use Rattle.c_types.specs.declared.node.TypeNode.TheVariants.{Pointer, Array, Function, Qualified}
use Rattle.c_types.specs.Building.{same_type, number_of}

-- the node of a form
abbrev pub node_of : Form → TypeNode
node_of (form.Pointer to) = Pointer to
node_of (form.Array of count) = Array of count
node_of (form.Function f) = Function f.returns f.is_known f.parameters.items f.is_variadic
node_of (form.Qualified of bits) = Qualified of bits

-- the number of the first form that is the same type
abbrev pub noted : List (Form × ℕ) → Form → Option ℕ
noted entries one = lookup (λ (other : Form). same_type (node_of one) (node_of other)) entries

-- each form's number is that of its type
abbrev pub IsNumbered : List (Form × ℕ) → List TypeNode → Type 0
IsNumbered entries nodes = (one : Form) → noted entries one ≡ number_of nodes (node_of one)
