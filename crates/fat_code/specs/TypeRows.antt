-- The faults of types.
use Rattle.std.specs.Prelude.{ℕ, zero, suc, ◌+◌, ◌==◌, nat_lt, ◌&&◌, ◌||◌, not, Bool, true, false, List, [], ◌∷◌, length, slice_get, Option, Some, None}
use Rattle.c_types.specs.declared.node.Basic.{Basic}
use Rattle.c_types.specs.declared.node.Basic.TheVariants as basic
use Rattle.c_types.specs.declared.node.Field.{Field}
use Rattle.c_types.specs.declared.node.Record.{Record}
use Rattle.c_types.specs.declared.node.TypeNode.{TypeNode}
use Rattle.c_types.specs.declared.node.TypeNode.TheVariants as node
use Rattle.c_types.specs.Nodes.{node_at, unqualified}
use Rattle.fat_code.specs.declared.fault.UnitFault.TheVariants.{Index, Limit}
use Rattle.fat_code.specs.declared.fault.Version.{Version}
use Rattle.fat_code.specs.declared.fault.Version.TheVariants.{One, Two}
use Rattle.fat_code.specs.Lengths.{name_bytes, node_bytes, member_bytes}
use Rattle.fat_code.specs.Rows.{Row, row, index_row, rows_of_list}

-- ---- which types a type may name

abbrev pub is_record : TypeNode → Bool
is_record (node.Struct record_type) = true
is_record (node.Union record_type) = true
is_record _ = false

-- a pointer, array, function or qualified type names one below itself, or a struct or union, so that every text of a type ends
abbrev pub is_reachable : List TypeNode → (own named : ℕ) → Bool
is_reachable types own named = nat_lt named own || is_record (node_at types named)

abbrev pub part_row : List TypeNode → (own named at : ℕ) → Row
part_row types own named at = row Index (not (is_reachable types own named)) at

-- a parameter of a function
abbrev pub parameter_rows : List TypeNode → (own : ℕ) → (index at named : ℕ) → List Row
parameter_rows types own index at named = part_row types own named at ∷ []

abbrev pub four_bytes : ℕ → ℕ
four_bytes number = 4

-- ---- bit-fields

abbrev pub is_int : Basic → Bool
is_int basic.Int = true
is_int basic.Unsigned = true
is_int _ = false

abbrev pub is_int_node : TypeNode → Bool
is_int_node (node.Basic basic) = is_int basic
is_int_node _ = false

-- int or unsigned, perhaps qualified
abbrev pub is_bit_type : List TypeNode → (kind : ℕ) → Bool
is_bit_type types kind = is_int_node (node_at types (unqualified types kind))

-- the member before the one with an index
abbrev pub before_in : List Field → (index : ℕ) → Option Field
before_in fields zero = None
before_in fields (suc index) = slice_get fields index

-- a bit-field begins where the one just before it ends
abbrev pub follows : Option Field → (first : ℕ) → Bool
follows None first = false
follows (Some before) first = nat_lt 0 before.count && (before.first + before.count == first)

-- a first bit above 0 belongs to a bit-field of a struct, behind another one
abbrev pub is_misplaced : (is_union : Bool) → Option Field → Field → Bool
is_misplaced is_union before field = nat_lt 0 field.first && (not (follows before field.first) || (is_union || (field.count == 0)))

abbrev pub first_row : (is_union : Bool) → Option Field → Field → (at : ℕ) → Row
first_row is_union before field at = row Limit (nat_lt 32 (field.first + field.count) || is_misplaced is_union before field) at

abbrev pub count_row : List TypeNode → Field → (at : ℕ) → Row
count_row types field at = row Limit (nat_lt 32 field.count || (nat_lt 0 field.count && not (is_bit_type types field.kind))) at

-- the rows of the place of a bit-field, which stands in files of version 2
abbrev pub bit_rows : Version → List TypeNode → (is_union : Bool) → Option Field → Field → (at : ℕ) → List Row
bit_rows One types is_union before field at = []
bit_rows Two types is_union before field at = first_row is_union before field at ∷ count_row types field (at + 4) ∷ []

-- ---- members

abbrev pub member_rows : Version → List TypeNode → (is_union : Bool) → List Field → (index at : ℕ) → Field → List Row
member_rows version types is_union fields index at field =
    let kind_at = at + name_bytes field.name in
    index_row field.kind (length types) kind_at ∷ bit_rows version types is_union (before_in fields index) field (kind_at + 4)

-- behind the tag of the type: the struct's tag, whether it is complete, and its members
abbrev pub record_rows : Version → List TypeNode → (is_union : Bool) → (at : ℕ) → Record → List Row
record_rows version types is_union at record_type =
    rows_of_list (member_rows version types is_union record_type.fields) (member_bytes version) (at + name_bytes record_type.tag + 4) record_type.fields

-- ---- nodes

abbrev pub node_rows : Version → List TypeNode → (index at : ℕ) → TypeNode → List Row
node_rows version types index at node.Void = []
node_rows version types index at (node.Basic basic) = []
node_rows version types index at (node.Pointer of) = part_row types index of (at + 4) ∷ []
node_rows version types index at (node.Array of count) = part_row types index of (at + 4) ∷ []
node_rows version types index at (node.Function returns is_known parameters is_variadic) =
    part_row types index returns (at + 4) ∷ rows_of_list (parameter_rows types index) four_bytes (at + 12) parameters
node_rows version types index at (node.Struct record_type) = record_rows version types false (at + 4) record_type
node_rows version types index at (node.Union record_type) = record_rows version types true (at + 4) record_type
node_rows version types index at (node.Enum tag) = []
node_rows version types index at (node.Qualified of bits) = part_row types index of (at + 4) ∷ []

-- the rows of a list of types that stands at an offset
unfoldable pub type_rows : Version → (at : ℕ) → List TypeNode → List Row
type_rows version at types = rows_of_list (node_rows version types) (node_bytes version) at types
