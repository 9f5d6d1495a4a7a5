-- The bulk of a unit: a bound on the bytes of what is made of it.
use Rattle.std.specs.Prelude.{ℕ, ◌+◌, ◌*◌, ◌==◌, if◌then◌else◌, length, map, sum}
use Rattle.c_types.specs.declared.node.Field.{Field}
use Rattle.c_types.specs.declared.node.Record.{Record}
use Rattle.c_types.specs.declared.node.TypeNode.{TypeNode}
use Rattle.c_types.specs.declared.node.TypeNode.TheVariants as node
use Rattle.c_tree.specs.declared.unit.TypedSymbol.{TypedSymbol}
use Rattle.c_tree.specs.declared.unit.TypedObject.{TypedObject}
use Rattle.c_tree.specs.declared.unit.TypedUnit.{TypedUnit}
use Rattle.c_tree.specs.Counting.{nodes_of}

-- ---- types

-- the members or parameters that a type lists
abbrev pub listed_in : TypeNode → ℕ
listed_in node.Void = 0
listed_in (node.Basic b) = 0
listed_in (node.Pointer to) = 0
listed_in (node.Array of count) = 0
listed_in (node.Function returns is_known parameters is_variadic) = length parameters
listed_in (node.Struct r) = length r.fields
listed_in (node.Union r) = length r.fields
listed_in (node.Enum tag) = 0
listed_in (node.Qualified of bits) = 0

-- the bytes of the names in a type: its tag and those of its members
abbrev pub field_bytes : Field → ℕ
field_bytes field = length field.name

abbrev pub record_bytes : Record → ℕ
record_bytes r = length r.tag + sum (map field_bytes r.fields)

abbrev pub type_bytes : TypeNode → ℕ
type_bytes node.Void = 0
type_bytes (node.Basic b) = 0
type_bytes (node.Pointer to) = 0
type_bytes (node.Array of count) = 0
type_bytes (node.Function returns is_known parameters is_variadic) = 0
type_bytes (node.Struct r) = record_bytes r
type_bytes (node.Union r) = record_bytes r
type_bytes (node.Enum tag) = length tag
type_bytes (node.Qualified of bits) = 0

abbrev pub type_records : TypeNode → ℕ
type_records node.Void = 0
type_records (node.Basic b) = 0
type_records (node.Pointer to) = 0
type_records (node.Array of count) = 0
type_records (node.Function returns is_known parameters is_variadic) = 0
type_records (node.Struct r) = 1
type_records (node.Union r) = 1
type_records (node.Enum tag) = 0
type_records (node.Qualified of bits) = 0

-- ---- each kind of thing

-- 512 for each thing that is counted, 64 for each byte, and 4,200 for each struct or union
abbrev pub weighed : (things bytes records : ℕ) → ℕ
weighed things bytes records = 512 * things + 64 * bytes + 4200 * records

abbrev pub type_bulk : TypeNode → ℕ
type_bulk n = weighed (1 + listed_in n) (type_bytes n) (type_records n)

abbrev pub symbol_bulk : TypedSymbol → ℕ
symbol_bulk symbol = weighed 1 (length symbol.name) 0

-- an object without a name is a string literal, whose bytes count
abbrev pub object_bulk : TypedObject → ℕ
object_bulk object = weighed 1 (if length object.name == 0 then object.size else length object.name) 0

unfoldable pub bulk_of : TypedUnit → ℕ
bulk_of u = weighed (nodes_of u) 0 0 + sum (map type_bulk u.types) + sum (map symbol_bulk u.symbols) + sum (map object_bulk u.objects)
