-- Tables that are built node by node: each pointer, array, function and qualified type stands in them once, so that the same type
-- is the same number.
use Rattle.std.specs.Prelude.{◌≡◌, ℕ, nat_lt, ◌&&◌, not, Bool, true, false, if◌then◌else◌, List, [], ◌∷◌, ◌++◌, length, nat_eq, slice_set, bit_or, Option, Some, None}
use Rattle.std.specs.List.{position_or_len}
use Rattle.std.specs.Cmp.Lexicographic.{pointwise}
use Rattle.c_types.specs.declared.layout.LayoutNo.{LayoutNo}
use Rattle.c_types.specs.declared.layout.LayoutNo.TheVariants as no
use Rattle.c_types.specs.declared.node.Field.{Field}
use Rattle.c_types.specs.declared.node.TypeNode.{TypeNode}
use Rattle.c_types.specs.declared.node.TypeNode.TheVariants.{Void, Basic as Arithmetic, Pointer, Array, Function, Struct, Union, Enum, Qualified}
use Rattle.c_types.specs.Nodes.{node_at}
use Rattle.c_types.specs.Layouts.{layout_of, size_of_fields, IsReason}

abbrev pub same_test : (one other : Bool) → Bool
same_test true other = other
same_test false true = false
same_test false false = true

-- ---- which node is that of a type

abbrev pub is_pointer : (to : ℕ) → TypeNode → Bool
is_pointer t (Pointer to) = nat_eq t to
is_pointer t Void = false
is_pointer t (Arithmetic b) = false
is_pointer t (Array of count) = false
is_pointer t (Function returns is_known parameters is_variadic) = false
is_pointer t (Struct r) = false
is_pointer t (Union r) = false
is_pointer t (Enum tag) = false
is_pointer t (Qualified of bits) = false

abbrev pub is_array : (of count : ℕ) → TypeNode → Bool
is_array t n (Array of count) = nat_eq t of && nat_eq n count
is_array t n Void = false
is_array t n (Arithmetic b) = false
is_array t n (Pointer to) = false
is_array t n (Function returns is_known parameters is_variadic) = false
is_array t n (Struct r) = false
is_array t n (Union r) = false
is_array t n (Enum tag) = false
is_array t n (Qualified of bits) = false

abbrev pub is_qualified : (of bits : ℕ) → TypeNode → Bool
is_qualified t b (Qualified of bits) = nat_eq t of && nat_eq b bits
is_qualified t b Void = false
is_qualified t b (Arithmetic c) = false
is_qualified t b (Pointer to) = false
is_qualified t b (Array of count) = false
is_qualified t b (Function returns is_known parameters is_variadic) = false
is_qualified t b (Struct r) = false
is_qualified t b (Union r) = false
is_qualified t b (Enum tag) = false

abbrev pub is_function : (returns : ℕ) → (is_known : Bool) → (parameters : List ℕ) → (is_variadic : Bool) → TypeNode → Bool
is_function t k ps v (Function returns is_known parameters is_variadic) =
    nat_eq t returns && (same_test k is_known && (pointwise nat_eq ps parameters && same_test v is_variadic))
is_function t k ps v Void = false
is_function t k ps v (Arithmetic b) = false
is_function t k ps v (Pointer to) = false
is_function t k ps v (Array of count) = false
is_function t k ps v (Struct r) = false
is_function t k ps v (Union r) = false
is_function t k ps v (Enum tag) = false
is_function t k ps v (Qualified of bits) = false

-- the same type is the same node, but each struct, union and enum is a type of its own
abbrev pub same_type : (one other : TypeNode) → Bool
same_type (Pointer to) other = is_pointer to other
same_type (Array of count) other = is_array of count other
same_type (Function returns is_known parameters is_variadic) other = is_function returns is_known parameters is_variadic other
same_type (Qualified of bits) other = is_qualified of bits other
same_type Void other = false
same_type (Arithmetic b) other = false
same_type (Struct r) other = false
same_type (Union r) other = false
same_type (Enum tag) other = false

-- where a type stands, or the length of the table, where it would
abbrev pub index_of : List TypeNode → TypeNode → ℕ
index_of nodes node = position_or_len (same_type node) nodes

-- the table with it behind it, where it does not stand there
abbrev pub with_node : List TypeNode → TypeNode → List TypeNode
with_node nodes node = if nat_lt (index_of nodes node) (length nodes) then nodes else nodes ++ (node ∷ [])

-- its number, where it stands there
abbrev pub number_of : List TypeNode → TypeNode → Option ℕ
number_of nodes node = if nat_lt (index_of nodes node) (length nodes) then Some (index_of nodes node) else None

-- a number outside the table is that of void
abbrev pub within : List TypeNode → (id : ℕ) → ℕ
within nodes id = if nat_lt id (length nodes) then id else 0

-- ---- qualified types

-- an array is not qualified itself: its elements are (C90 6.5.3)
abbrev pub can_be_qualified : TypeNode → Bool
can_be_qualified Void = true
can_be_qualified (Arithmetic b) = true
can_be_qualified (Pointer to) = true
can_be_qualified (Array of count) = false
can_be_qualified (Function returns is_known parameters is_variadic) = true
can_be_qualified (Struct r) = true
can_be_qualified (Union r) = true
can_be_qualified (Enum tag) = true
can_be_qualified (Qualified of bits) = true

-- the qualified version of a type that is no array; further qualifiers are joined with its own (C90 6.1.2.5)
abbrev pub version_in : (id bits : ℕ) → TypeNode → TypeNode
version_in id bits Void = Qualified id bits
version_in id bits (Arithmetic b) = Qualified id bits
version_in id bits (Pointer to) = Qualified id bits
version_in id bits (Array of count) = Qualified id bits
version_in id bits (Function returns is_known parameters is_variadic) = Qualified id bits
version_in id bits (Struct r) = Qualified id bits
version_in id bits (Union r) = Qualified id bits
version_in id bits (Enum tag) = Qualified id bits
version_in id bits (Qualified of own) = Qualified of (bit_or bits own)

abbrev pub version_of : List TypeNode → (id bits : ℕ) → TypeNode
version_of nodes id bits = version_in id bits (node_at nodes id)

-- ---- structs and unions that are completed

-- a struct or union whose members are not known yet
abbrev pub is_incomplete : TypeNode → Bool
is_incomplete (Struct r) = not r.is_complete
is_incomplete (Union r) = not r.is_complete
is_incomplete Void = false
is_incomplete (Arithmetic b) = false
is_incomplete (Pointer to) = false
is_incomplete (Array of count) = false
is_incomplete (Function returns is_known parameters is_variadic) = false
is_incomplete (Enum tag) = false
is_incomplete (Qualified of bits) = false

abbrev pub is_union : TypeNode → Bool
is_union (Union r) = true
is_union (Struct r) = false
is_union Void = false
is_union (Arithmetic b) = false
is_union (Pointer to) = false
is_union (Array of count) = false
is_union (Function returns is_known parameters is_variadic) = false
is_union (Enum tag) = false
is_union (Qualified of bits) = false

-- it with these members
abbrev pub completed : List Field → TypeNode → TypeNode
completed fields (Struct r) = Struct (record r { is_complete = true; fields = fields })
completed fields (Union r) = Union (record r { is_complete = true; fields = fields })
completed fields Void = Void
completed fields (Arithmetic b) = Arithmetic b
completed fields (Pointer to) = Pointer to
completed fields (Array of count) = Array of count
completed fields (Function returns is_known parameters is_variadic) = Function returns is_known parameters is_variadic
completed fields (Enum tag) = Enum tag
completed fields (Qualified of bits) = Qualified of bits

abbrev pub with_completed : List TypeNode → (id : ℕ) → List Field → List TypeNode
with_completed nodes id fields = slice_set nodes id (completed fields (node_at nodes id))

-- what it means that type `id` cannot be completed with these fields
abbrev pub IsReasonAt : List TypeNode → (id : ℕ) → List Field → LayoutNo → Type 0
IsReasonAt nodes id fields no.NotIncomplete = is_incomplete (node_at nodes id) ≡ false
IsReasonAt nodes id fields no.Part = (is_incomplete (node_at nodes id) ≡ true) × IsReason (size_of_fields (is_union (node_at nodes id)) (layout_of nodes) fields) no.Part
IsReasonAt nodes id fields no.Large = (is_incomplete (node_at nodes id) ≡ true) × IsReason (size_of_fields (is_union (node_at nodes id)) (layout_of nodes) fields) no.Large
IsReasonAt nodes id fields no.NoMemory = is_incomplete (node_at nodes id) ≡ true
