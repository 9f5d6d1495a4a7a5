-- Tables of types: which node a number names, and the nodes that each table of the checker begins with.
use Rattle.std.specs.Prelude.{ℕ, zero, suc, List, [], ◌∷◌, length, slice_index_or}
use Rattle.c_types.specs.declared.node.Basic.TheVariants as basic
use Rattle.c_types.specs.declared.node.TypeNode.{TypeNode}
use Rattle.c_types.specs.declared.node.TypeNode.TheVariants.{Void, Basic as Arithmetic, Pointer, Array, Function, Struct, Union, Enum, Qualified}

-- the node of a type; a number outside the table is read as void
abbrev pub node_at : List TypeNode → (id : ℕ) → TypeNode
node_at nodes id = slice_index_or nodes id Void

-- void, and the arithmetic types in the order of their numbers
abbrev pub presets : List TypeNode
presets =
    Void ∷ Arithmetic basic.Char ∷ Arithmetic basic.SignedChar ∷ Arithmetic basic.UnsignedChar ∷ Arithmetic basic.Short ∷ Arithmetic basic.UnsignedShort
    ∷ Arithmetic basic.Int ∷ Arithmetic basic.Unsigned ∷ Arithmetic basic.Long ∷ Arithmetic basic.UnsignedLong ∷ []

-- what a node gives of its type's unqualified version, which is named by a number itself where it is no qualified one
abbrev pub unqualified_in : (rest : ℕ → ℕ) → (id : ℕ) → TypeNode → ℕ
unqualified_in rest id Void = id
unqualified_in rest id (Arithmetic b) = id
unqualified_in rest id (Pointer to) = id
unqualified_in rest id (Array of count) = id
unqualified_in rest id (Function returns is_known parameters is_variadic) = id
unqualified_in rest id (Struct record') = id
unqualified_in rest id (Union record') = id
unqualified_in rest id (Enum tag) = id
unqualified_in rest id (Qualified of bits) = rest of

abbrev pub unqualified_by : (steps : ℕ) → List TypeNode → (id : ℕ) → ℕ
unqualified_by zero nodes id = id
unqualified_by (suc n) nodes id = unqualified_in (unqualified_by n nodes) id (node_at nodes id)

-- a type without its qualifiers
unfoldable pub unqualified : List TypeNode → (id : ℕ) → ℕ
unqualified nodes id = unqualified_by (length nodes) nodes id
