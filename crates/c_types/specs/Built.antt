-- What holds of a table that is built node by node.
use Rattle.std.specs.Prelude.{◌≡◌, ℕ, suc, ◌<◌, ◌≤◌, Bool, true, false, List, [], ◌∷◌, length, Some, IsSome}
use Rattle.std.specs.Bool.{OnTrue}
use Rattle.c_types.specs.declared.layout.Layout.{Layout}
use Rattle.c_types.specs.declared.node.Field.{Field}
use Rattle.c_types.specs.declared.node.Record.{Record}
use Rattle.c_types.specs.declared.node.TypeNode.{TypeNode}
use Rattle.c_types.specs.declared.node.TypeNode.TheVariants.{Void, Basic as Arithmetic, Pointer, Array, Function, Struct, Union, Enum, Qualified}
use Rattle.c_types.specs.Nodes.{node_at}
use Rattle.c_types.specs.Layouts.{Layouts, parts_of, layout_in, layout_by, layout_of, depth_of, weight}

-- ---- parts

abbrev pub AreBelow : ℕ → List Field → Type 0
AreBelow n [] = Unit {0}
AreBelow n (field ∷ fields) = (field.kind < n) × AreBelow n fields

-- the types that a layout is made of are among the first n
abbrev pub IsBelow : ℕ → TypeNode → Type 0
IsBelow n Void = Unit {0}
IsBelow n (Arithmetic b) = Unit {0}
IsBelow n (Pointer to) = Unit {0}
IsBelow n (Array of count) = of < n
IsBelow n (Function returns is_known parameters is_variadic) = Unit {0}
IsBelow n (Struct r) = AreBelow n r.fields
IsBelow n (Union r) = AreBelow n r.fields
IsBelow n (Enum tag) = Unit {0}
IsBelow n (Qualified of bits) = of < n

abbrev pub HasParts : Layouts → Record → Type 0
HasParts layouts r = OnTrue r.is_complete (IsSome (parts_of layouts r.fields))

-- an array's elements and the members of a complete struct or union are of complete object types
abbrev pub IsMade : Layouts → TypeNode → Type 0
IsMade layouts Void = Unit {0}
IsMade layouts (Arithmetic b) = Unit {0}
IsMade layouts (Pointer to) = Unit {0}
IsMade layouts (Array of count) = IsSome (layouts of)
IsMade layouts (Function returns is_known parameters is_variadic) = Unit {0}
IsMade layouts (Struct r) = HasParts layouts r
IsMade layouts (Union r) = HasParts layouts r
IsMade layouts (Enum tag) = Unit {0}
IsMade layouts (Qualified of bits) = Unit {0}

-- ---- qualifiers

abbrev pub is_unqualified : TypeNode → Bool
is_unqualified Void = true
is_unqualified (Arithmetic b) = true
is_unqualified (Pointer to) = true
is_unqualified (Array of count) = true
is_unqualified (Function returns is_known parameters is_variadic) = true
is_unqualified (Struct r) = true
is_unqualified (Union r) = true
is_unqualified (Enum tag) = true
is_unqualified (Qualified of bits) = false

abbrev pub takes_qualifiers : TypeNode → Bool
takes_qualifiers Void = true
takes_qualifiers (Arithmetic b) = true
takes_qualifiers (Pointer to) = true
takes_qualifiers (Array of count) = false
takes_qualifiers (Function returns is_known parameters is_variadic) = true
takes_qualifiers (Struct r) = true
takes_qualifiers (Union r) = true
takes_qualifiers (Enum tag) = true
takes_qualifiers (Qualified of bits) = false

-- a qualified type qualifies neither a qualified one nor an array, whose element has the qualifiers (C90 6.5.3)
abbrev pub IsNormal : List TypeNode → TypeNode → Type 0
IsNormal nodes Void = Unit {0}
IsNormal nodes (Arithmetic b) = Unit {0}
IsNormal nodes (Pointer to) = Unit {0}
IsNormal nodes (Array of count) = Unit {0}
IsNormal nodes (Function returns is_known parameters is_variadic) = Unit {0}
IsNormal nodes (Struct r) = Unit {0}
IsNormal nodes (Union r) = Unit {0}
IsNormal nodes (Enum tag) = Unit {0}
IsNormal nodes (Qualified of bits) = takes_qualifiers (node_at nodes of) ≡ true

-- ---- tables

-- no type is larger than 2 ^ 27 bytes, nor its shape longer than 1,024 words
pub record IsModest (layout : Layout) : Type 0 where
  pub small : layout.size ≤ 134217728
  pub aligned : 0 < layout.align
  pub within : layout.align ≤ 4
  pub few : length layout.kinds ≤ 1024

pub record IsBuilt (nodes : List TypeNode) : Type 0 where
  pub below : (id : ℕ) → IsBelow (length nodes) (node_at nodes id)
  pub made : (id : ℕ) → IsMade (layout_of nodes) (node_at nodes id)
  pub normal : (id : ℕ) → IsNormal nodes (node_at nodes id)
  pub modest : (id : ℕ) (layout : Layout) → layout_of nodes id ≡ Some layout → IsModest layout
  pub settled : (id : ℕ) → layout_by (suc (depth_of nodes)) nodes id ≡ layout_of nodes id

-- a node that may stand behind such a table
pub record IsNext (nodes : List TypeNode) (node : TypeNode) : Type 0 where
  pub below : IsBelow (length nodes) node
  pub made : IsMade (layout_of nodes) node
  pub normal : IsNormal nodes node
  pub modest : (layout : Layout) → layout_in (layout_of nodes) node ≡ Some layout → IsModest layout
  pub light : weight node ≡ 1
