-- Sizes, alignments, members and shapes of types (C90 6.1.2.5, 6.5.2.1; storage is little-endian, and a bit-field lies in a unit
-- of 4 bytes, from the lowest free bit upward).
use Rattle.std.specs.Prelude.{◌<◌, ◌≡◌, ℕ, zero, suc, ◌+◌, ◌-◌, ◌*◌, ◌/◌, ◌%◌, ◌==◌, nat_lt, nat_le, ◌&&◌, ◌||◌, max, not, Bool, true, false, if◌then◌else◌, List, [], ◌∷◌, ◌++◌, length, map, slice_index_or, slice_get, Option, Some, None}
use Rattle.std.specs.Option.{option_map, IsSomeAnd}
use Rattle.std.specs.List.{list_any, find}
use Rattle.std.specs.Cmp.Lexicographic.{pointwise}
use Rattle.std.specs.Prelude.{nat_eq}
use Rattle.fsc_base.specs.declared.word.WordKind.{WordKind}
use Rattle.fsc_base.specs.declared.word.WordKind.TheVariants.{Fat, Narrow}
use Rattle.c_types.specs.declared.layout.Layout.{Layout}
use Rattle.c_types.specs.declared.layout.LayoutNo.{LayoutNo}
use Rattle.c_types.specs.declared.layout.LayoutNo.TheVariants as no
use Rattle.c_types.specs.declared.node.Basic.{Basic}
use Rattle.c_types.specs.declared.node.Basic.TheVariants as basic
use Rattle.c_types.specs.declared.node.Field.{Field}
use Rattle.c_types.specs.declared.node.Record.{Record}
use Rattle.c_types.specs.declared.node.Member.{Member}
use Rattle.c_types.specs.declared.node.TypeNode.{TypeNode}
use Rattle.c_types.specs.declared.node.TypeNode.TheVariants.{Void, Basic as Arithmetic, Pointer, Array, Function, Struct, Union, Enum, Qualified}
use Rattle.c_types.specs.Nodes.{node_at, unqualified}
use Rattle.c_types.specs.Periods.{period_of, is_fat}

-- ---- scalars

abbrev pub size_of_basic : Basic → ℕ
size_of_basic basic.Char = 1
size_of_basic basic.SignedChar = 1
size_of_basic basic.UnsignedChar = 1
size_of_basic basic.Short = 2
size_of_basic basic.UnsignedShort = 2
size_of_basic basic.Int = 4
size_of_basic basic.Unsigned = 4
size_of_basic basic.Long = 4
size_of_basic basic.UnsignedLong = 4

-- a scalar's alignment is its size, and one of 4 bytes is a fat word
abbrev pub scalar : (size : ℕ) → Layout
scalar size = record { size = size; align = size; kinds = (if size == 4 then Fat else Narrow) ∷ [] }

-- ---- members

-- the layouts of all types, where they have one
abbrev pub Layouts : Type 0
Layouts = ℕ → Option Layout

-- a field with the layout of its type
pub record Part : Type 0 where
  pub field : Field
  pub layout : Layout

abbrev pub part : Field → Layout → Part
part field layout = record { field = field; layout = layout }

abbrev pub with_part : Field → Option Layout → Option (List Part) → Option (List Part)
with_part field None parts = None
with_part field (Some layout) None = None
with_part field (Some layout) (Some parts) = Some (part field layout ∷ parts)

-- the fields with their layouts, where each has one
abbrev pub parts_of : Layouts → List Field → Option (List Part)
parts_of layouts [] = Some []
parts_of layouts (field ∷ fields) = with_part field (layouts field.kind) (parts_of layouts fields)

abbrev pub next_multiple : (align at : ℕ) → ℕ
next_multiple align at = (at + (align - 1)) / align * align

abbrev pub is_bit_field : Field → Bool
is_bit_field field = not (field.count == 0)

-- where a field lies when so many bytes lie before it: a bit-field at bit 0 opens a unit, every other is in that of the one before
abbrev pub offset_of : (end : ℕ) → Part → ℕ
offset_of end p =
    if is_bit_field p.field
    then (if p.field.first == 0 then next_multiple 4 end else end - 4)
    else next_multiple p.layout.align end

-- where the bytes end that a field takes; a bit-field takes its whole unit
abbrev pub end_at : (offset : ℕ) → Part → ℕ
end_at offset p = if is_bit_field p.field then offset + 4 else offset + p.layout.size

abbrev pub align_of_part : Part → ℕ
align_of_part p = if is_bit_field p.field then 4 else p.layout.align

-- a field where it lies
pub record Placed : Type 0 where
  pub offset : ℕ
  pub part : Part

abbrev pub placed : (offset : ℕ) → Part → Placed
placed offset p = record { offset = offset; part = p }

-- the members of a struct, one behind another
abbrev pub struct_places : (end : ℕ) → List Part → List Placed
struct_places end [] = []
struct_places end (p ∷ parts) = placed (offset_of end p) p ∷ struct_places (end_at (offset_of end p) p) parts

abbrev pub struct_end : (end : ℕ) → List Part → ℕ
struct_end end [] = end
struct_end end (p ∷ parts) = struct_end (end_at (offset_of end p) p) parts

-- those of a union, all at 0
abbrev pub union_end : List Part → ℕ
union_end [] = 0
union_end (p ∷ parts) = max (end_at 0 p) (union_end parts)

abbrev pub places_of : (is_union : Bool) → List Part → List Placed
places_of false parts = struct_places 0 parts
places_of true parts = map (placed 0) parts

abbrev pub end_of : (is_union : Bool) → List Part → ℕ
end_of false parts = struct_end 0 parts
end_of true parts = union_end parts

-- the greatest alignment of a member
abbrev pub greatest_align : List Part → ℕ
greatest_align [] = 1
greatest_align (p ∷ parts) = max (align_of_part p) (greatest_align parts)

abbrev pub member_of_place : Placed → Member
member_of_place p = let field = p.part.field in
    record { name = field.name; kind = field.kind; offset = p.offset; first = field.first; count = field.count }

-- ---- shapes

-- word w of a type has the kind of w modulo the words of its shape
abbrev pub is_fat_word : (kinds : List WordKind) → (w : ℕ) → Bool
is_fat_word kinds w = is_fat (slice_index_or kinds (w % length kinds) Narrow)

-- a member that is no bit-field has a fat word there
abbrev pub makes_fat : (w : ℕ) → Placed → Bool
makes_fat w p =
    not (is_bit_field p.part.field) && nat_le (p.offset / 4) w && nat_lt w (p.offset / 4 + p.part.layout.size / 4)
    && is_fat_word p.part.layout.kinds (w - p.offset / 4)

abbrev pub kind_of_word : (fat : Bool) → WordKind
kind_of_word true = Fat
kind_of_word false = Narrow

-- the kinds of the first n words
abbrev pub kinds_before : List Placed → (n : ℕ) → List WordKind
kinds_before places zero = []
kinds_before places (suc n) = kinds_before places n ++ (kind_of_word (list_any (makes_fat n) places) ∷ [])

-- the shape of a struct or union: of one whose size is no multiple of 4 it is one narrow word, of one above 4,096 bytes one fat
-- word, and else that of its words, of which those are fat in which a member has a fat word
abbrev pub record_kinds : List Placed → (size : ℕ) → List WordKind
record_kinds places size =
    if size % 4 == 0
    then (if nat_lt 4096 size then Fat ∷ [] else period_of (kinds_before places (size / 4)))
    else Narrow ∷ []

-- ---- layouts

abbrev pub record_size : (is_union : Bool) → List Part → ℕ
record_size is_union parts = next_multiple (greatest_align parts) (end_of is_union parts)

abbrev pub record_layout : (is_union : Bool) → List Part → Layout
record_layout is_union parts = let size = record_size is_union parts in
    record { size = size; align = greatest_align parts; kinds = record_kinds (places_of is_union parts) size }

-- the size that a struct or union with these fields has, where each field's type has a layout
abbrev pub size_of_fields : (is_union : Bool) → Layouts → List Field → Option ℕ
size_of_fields is_union layouts fields = option_map (record_size is_union) (parts_of layouts fields)

-- what it means that a struct or union of that size is refused
abbrev pub IsReason : (size : Option ℕ) → LayoutNo → Type 0
IsReason size no.Part = size ≡ None
IsReason size no.Large = IsSomeAnd size (λ bytes. 134217728 < bytes)
IsReason size no.NotIncomplete = ⊥
IsReason size no.NoMemory = Unit {0}

-- a struct or union has a layout where it is complete and each member's type has one
abbrev pub layout_of_record : (is_union : Bool) → Layouts → Record → Option Layout
layout_of_record is_union layouts r =
    if r.is_complete then option_map (record_layout is_union) (parts_of layouts r.fields) else None

-- an array has its element's shape
abbrev pub layout_of_array : (count : ℕ) → Layout → Layout
layout_of_array count element = record element { size = element.size * count }

abbrev pub layout_in : Layouts → TypeNode → Option Layout
layout_in layouts Void = None
layout_in layouts (Arithmetic b) = Some (scalar (size_of_basic b))
layout_in layouts (Pointer to) = Some (scalar 4)
layout_in layouts (Array of zero) = None
layout_in layouts (Array of (suc count)) = option_map (layout_of_array (suc count)) (layouts of)
layout_in layouts (Function returns is_known parameters is_variadic) = None
layout_in layouts (Struct r) = layout_of_record false layouts r
layout_in layouts (Union r) = layout_of_record true layouts r
layout_in layouts (Enum tag) = Some (scalar 4)
layout_in layouts (Qualified of bits) = layouts of

-- the layout of a type in which no type lies deeper than so many others
unfoldable pub layout_by : (depth : ℕ) → List TypeNode → Layouts
layout_by zero nodes id = None
layout_by (suc depth) nodes id = layout_in (layout_by depth nodes) (node_at nodes id)

-- a depth that no type has which does not lie in itself: a complete struct or union may have been completed behind types that it
-- lies in
abbrev pub weight_of_record : Record → ℕ
weight_of_record r = if r.is_complete then 3 else 1

abbrev pub weight : TypeNode → ℕ
weight Void = 1
weight (Arithmetic b) = 1
weight (Pointer to) = 1
weight (Array of count) = 1
weight (Function returns is_known parameters is_variadic) = 1
weight (Struct r) = weight_of_record r
weight (Union r) = weight_of_record r
weight (Enum tag) = 1
weight (Qualified of bits) = 1

abbrev pub depth_of : List TypeNode → ℕ
depth_of [] = 0
depth_of (node ∷ nodes) = weight node + depth_of nodes

abbrev pub layout_of : List TypeNode → Layouts
layout_of nodes id = layout_by (depth_of nodes) nodes id

-- ---- what is asked of a type

abbrev pub size_of : List TypeNode → (id : ℕ) → Option ℕ
size_of nodes id = option_map (λ (l : Layout). l.size) (layout_of nodes id)

abbrev pub align_of : List TypeNode → (id : ℕ) → Option ℕ
align_of nodes id = option_map (λ (l : Layout). l.align) (layout_of nodes id)

abbrev pub kinds_of : List TypeNode → (id : ℕ) → Option (List WordKind)
kinds_of nodes id = option_map (λ (l : Layout). l.kinds) (layout_of nodes id)

abbrev pub members_of_record : (is_union : Bool) → Option (List Part) → List Member
members_of_record is_union None = []
members_of_record is_union (Some parts) = map member_of_place (places_of is_union parts)

abbrev pub members_in : Layouts → TypeNode → List Member
members_in layouts (Struct r) = if r.is_complete then members_of_record false (parts_of layouts r.fields) else []
members_in layouts (Union r) = if r.is_complete then members_of_record true (parts_of layouts r.fields) else []
members_in layouts Void = []
members_in layouts (Arithmetic b) = []
members_in layouts (Pointer to) = []
members_in layouts (Array of count) = []
members_in layouts (Function returns is_known parameters is_variadic) = []
members_in layouts (Enum tag) = []
members_in layouts (Qualified of bits) = []

-- the members of a struct or union, perhaps qualified; every other type has none
abbrev pub members_of : List TypeNode → (id : ℕ) → List Member
members_of nodes id = members_in (layout_of nodes) (node_at nodes (unqualified nodes id))

-- the member of that name; it is not asked for one without a name
abbrev pub member_of : List TypeNode → (id : ℕ) → (name : List ℕ) → Option Member
member_of nodes id name = find (λ (m : Member). pointwise nat_eq m.name name) (members_of nodes id)

-- ---- where a new bit-field begins

-- behind the bits of the field before it, where that is a bit-field whose unit has enough free bits
abbrev pub bits_behind : (count : ℕ) → Field → ℕ
bits_behind count before =
    if is_bit_field before && nat_le (before.first + before.count + count) 32 then before.first + before.count else 0

-- the first bit of a new one of so many bits behind these fields; in a union, and behind one of width 0, it is bit 0
abbrev pub next_first : List Field → (is_union : Bool) → (count : ℕ) → (after_zero : Bool) → ℕ
next_first fields is_union count after_zero =
    if is_union || after_zero then 0 else elim (slice_get fields (length fields - 1)) as (λ x. ℕ) [ None ↦ 0 | Some before ↦ bits_behind count before ]
