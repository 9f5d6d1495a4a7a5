-- What holds of the types in each typed unit that the checker gives.
use Rattle.std.specs.Prelude.{ℕ, zero, suc, ◌^◌, ◌==◌, nat_lt, nat_le, not, ◌&&◌, ◌||◌, if◌then◌else◌, Bool, true, false, List, [], ◌∷◌, length, Option, Some, None}
use Rattle.std.specs.List.{list_all, filter}
use Rattle.fsc_base.specs.declared.word.Width.{Width}
use Rattle.fsc_base.specs.declared.word.Width.TheVariants as width
use Rattle.c_types.specs.declared.node.Basic.{Basic}
use Rattle.c_types.specs.declared.node.Basic.TheVariants as basic
use Rattle.c_types.specs.declared.node.Member.{Member}
use Rattle.c_types.specs.declared.node.TypeNode.{TypeNode}
use Rattle.c_types.specs.declared.node.TypeNode.TheVariants as node
use Rattle.c_types.specs.Nodes.{node_at, unqualified}
use Rattle.c_types.specs.Layouts.{size_of, size_of_basic, members_of}
use Rattle.c_tree.specs.declared.expression.Conversion.{Conversion}
use Rattle.c_tree.specs.declared.expression.Conversion.TheVariants as conversion
use Rattle.c_tree.specs.Programs.{bare_node, is_record}
use Rattle.c_tree.specs.Constants.{is_pointer, is_integer}

-- ---- sizes

-- the greatest size of a type
abbrev pub most_bytes : ℕ
most_bytes = 2 ^ 27

abbrev pub agree : (one other : Bool) → Bool
agree one other = if one then other else not other

-- a type of the table
abbrev pub is_type : List TypeNode → (kind : ℕ) → Bool
is_type nodes kind = nat_lt kind (length nodes)

abbrev pub is_size : Option ℕ → Bool
is_size None = false
is_size (Some n) = nat_lt 0 n && nat_le n most_bytes

-- a complete object type, which is no larger than a type may be
abbrev pub is_sized : List TypeNode → (kind : ℕ) → Bool
is_sized nodes kind = is_size (size_of nodes kind)

abbrev pub equals_size : (size : ℕ) → Option ℕ → Bool
equals_size size None = false
equals_size size (Some n) = n == size

-- a complete object type of this size
abbrev pub has_size : List TypeNode → (kind size : ℕ) → Bool
has_size nodes kind size = is_sized nodes kind && equals_size size (size_of nodes kind)

-- ---- sorts, of nodes without qualifiers

abbrev pub is_scalar : TypeNode → Bool
is_scalar t = is_integer t || is_pointer t

abbrev pub is_void : TypeNode → Bool
is_void node.Void = true
is_void _ = false

abbrev pub is_function : TypeNode → Bool
is_function (node.Function returns is_known parameters is_variadic) = true
is_function _ = false

-- an array, struct or union
abbrev pub is_aggregate : TypeNode → Bool
is_aggregate (node.Array of count) = true
is_aggregate t = is_record t

abbrev pub points_to : TypeNode → (to : ℕ) → Bool
points_to (node.Pointer of) to = of == to
points_to _ to = false

-- a pointer to a complete object type of this size
abbrev pub points_to_size : List TypeNode → TypeNode → (size : ℕ) → Bool
points_to_size nodes (node.Pointer of) size = has_size nodes of size
points_to_size nodes _ size = false

abbrev pub is_array_of : TypeNode → (of : ℕ) → Bool
is_array_of (node.Array element count) of = element == of
is_array_of _ of = false

-- ---- two types

-- the same but for qualifiers of their own
abbrev pub is_same : List TypeNode → (one other : ℕ) → Bool
is_same nodes one other = unqualified nodes one == unqualified nodes other

-- a pointer to this type, perhaps qualified
abbrev pub points_to_same : List TypeNode → TypeNode → (to : ℕ) → Bool
points_to_same nodes (node.Pointer of) to = is_same nodes of to
points_to_same nodes _ to = false

abbrev pub are_alike_arrays : (elements : (one other : ℕ) → Bool) → (one other : TypeNode) → Bool
are_alike_arrays elements (node.Array one m) (node.Array other n) = (m == n) && elements one other
are_alike_arrays elements _ _ = false

-- the same but for qualifiers of their own, and of elements of arrays (C90 6.5.3), which lie less deep than the table is long
abbrev pub is_alike_by : (depth : ℕ) → List TypeNode → (one other : ℕ) → Bool
is_alike_by zero nodes one other = is_same nodes one other
is_alike_by (suc depth) nodes one other =
    is_same nodes one other || are_alike_arrays (is_alike_by depth nodes) (bare_node nodes one) (bare_node nodes other)

abbrev pub is_alike : List TypeNode → (one other : ℕ) → Bool
is_alike nodes one other = is_alike_by (length nodes) nodes one other

-- an array of unknown size, and what its initialiser makes of it
abbrev pub is_completion : (before after : TypeNode) → Bool
is_completion (node.Array of count) after = (count == 0) && is_array_of after of
is_completion _ after = false

-- a scalar as one of a type to which it was converted, where the types agree
abbrev pub is_value_of : (kind value : TypeNode) → Bool
is_value_of kind value = (is_integer kind && is_integer value) || (is_pointer kind && is_pointer value)

-- ---- words

abbrev pub bytes_of : Width → ℕ
bytes_of width.One = 1
bytes_of width.Two = 2
bytes_of width.Four = 4

-- the bytes of a scalar type
abbrev pub bytes_in : TypeNode → ℕ
bytes_in (node.Basic b) = size_of_basic b
bytes_in _ = 4

-- whether values of a scalar type have a sign: those of char and pointers have none
abbrev pub is_signed_basic : Basic → Bool
is_signed_basic basic.Char = false
is_signed_basic basic.SignedChar = true
is_signed_basic basic.UnsignedChar = false
is_signed_basic basic.Short = true
is_signed_basic basic.UnsignedShort = false
is_signed_basic basic.Int = true
is_signed_basic basic.Unsigned = false
is_signed_basic basic.Long = true
is_signed_basic basic.UnsignedLong = false

abbrev pub is_signed_in : TypeNode → Bool
is_signed_in (node.Basic b) = is_signed_basic b
is_signed_in (node.Enum tag) = true
is_signed_in _ = false

-- width and sign are those of a type
abbrev pub is_word_of : TypeNode → Width → (is_signed : Bool) → Bool
is_word_of t width is_signed = (bytes_of width == bytes_in t) && agree is_signed (is_signed_in t)

-- what a conversion to a type does to a word. A pointer to a type that is complete only behind it keeps the word, too
abbrev pub is_conversion : List TypeNode → TypeNode → Conversion → Bool
is_conversion nodes t conversion.Keep = bytes_in t == 4
is_conversion nodes t (conversion.Narrow width is_signed) = is_integer t && (not (bytes_in t == 4) && is_word_of t width is_signed)
is_conversion nodes t (conversion.Decide kind) = points_to t kind && is_sized nodes kind

-- a cast to void takes any value, and each other conversion leads from a scalar to a scalar
abbrev pub is_converted : (from to : TypeNode) → Bool
is_converted from to = is_void to || (is_scalar from && is_scalar to)

-- an array becomes a pointer to its element, a function one to itself (C90 6.2.2.1)
abbrev pub decays_to : TypeNode → (kind to : ℕ) → Bool
decays_to (node.Array of count) kind to = of == to
decays_to (node.Function returns is_known parameters is_variadic) kind to = kind == to
decays_to _ kind to = false

abbrev pub decays_into : List TypeNode → (kind : ℕ) → TypeNode → Bool
decays_into nodes kind (node.Pointer to) = decays_to (bare_node nodes kind) kind to
decays_into nodes kind _ = false

-- ---- members

abbrev pub is_member_at : List TypeNode → (kind offset : ℕ) → Member → Bool
is_member_at nodes kind offset m = (m.offset == offset) && is_alike nodes m.kind kind

-- the members of a struct or union at an offset, of a type, perhaps with the qualifiers of the struct or union
abbrev pub members_at : List TypeNode → (owner kind offset : ℕ) → List Member
members_at nodes owner kind offset = filter (is_member_at nodes kind offset) (members_of nodes owner)

abbrev pub is_whole_member : Member → Bool
is_whole_member m = m.count == 0

abbrev pub has_bits : (first count : ℕ) → Member → Bool
has_bits first count m = (m.first == first) && (m.count == count)

-- ---- calls (C90 6.3.2.2)

-- the type that a pointer points to; where that is qualified, its parameters are not looked at
abbrev pub called_in : TypeNode → ℕ
called_in (node.Pointer to) = to
called_in _ = 0

-- a function that returns this type, qualifiers of its own aside
abbrev pub returns_in : List TypeNode → TypeNode → (kind : ℕ) → Bool
returns_in nodes (node.Function returns is_known parameters is_variadic) kind = unqualified nodes returns == kind
returns_in nodes _ kind = false

-- what a call gives that is no struct or union
abbrev pub is_plain_result : TypeNode → Bool
is_plain_result t = is_void t || is_scalar t

-- an argument is a scalar, or a complete struct or union
abbrev pub is_given : List TypeNode → (kind : ℕ) → Bool
is_given nodes kind = is_scalar (bare_node nodes kind) || (is_record (bare_node nodes kind) && is_sized nodes kind)

-- behind the parameters stand scalars alone
abbrev pub is_given_more : List TypeNode → (kind : ℕ) → Bool
is_given_more nodes kind = is_scalar (bare_node nodes kind)

-- one argument for each parameter, of its type; further ones where the function takes more
abbrev pub are_passed : List TypeNode → (parameters : List ℕ) → (is_variadic : Bool) → (arguments : List ℕ) → Bool
are_passed nodes [] is_variadic [] = true
are_passed nodes [] is_variadic (kind ∷ kinds) = is_variadic && list_all (is_given_more nodes) (kind ∷ kinds)
are_passed nodes (parameter ∷ parameters) is_variadic [] = false
are_passed nodes (parameter ∷ parameters) is_variadic (kind ∷ kinds) =
    is_same nodes parameter kind && (is_given nodes kind && are_passed nodes parameters is_variadic kinds)

-- a function takes these arguments; any where its parameters are not known
abbrev pub takes : List TypeNode → TypeNode → (arguments : List ℕ) → Bool
takes nodes (node.Function returns is_known parameters is_variadic) arguments =
    if is_known then are_passed nodes parameters is_variadic arguments else list_all (is_given nodes) arguments
takes nodes _ arguments = list_all (is_given nodes) arguments
