-- How many bytes each part of a unit takes in its file. Numbers and tags take 4, a list its count and its items, a name its
-- count and its bytes.
use Rattle.std.specs.Prelude.{ℕ, ◌+◌, ◌*◌, List, length, sum_by}
use Rattle.fsc_base.specs.declared.word.WordKind.{WordKind}
use Rattle.c_ops.specs.declared.linkage.Definition.{Definition}
use Rattle.c_ops.specs.declared.linkage.Definition.TheVariants as definition
use Rattle.c_types.specs.declared.node.Field.{Field}
use Rattle.c_types.specs.declared.node.Record.{Record}
use Rattle.c_types.specs.declared.node.TypeNode.{TypeNode}
use Rattle.c_types.specs.declared.node.TypeNode.TheVariants as node
use Rattle.fat_code.specs.declared.fault.Version.{Version}
use Rattle.fat_code.specs.declared.fault.Version.TheVariants.{One, Two}
use Rattle.fat_code.specs.declared.op.Op.{Op}
use Rattle.fat_code.specs.declared.op.Op.TheVariants as op
use Rattle.fat_code.specs.declared.unit.FatEntry.{FatEntry}
use Rattle.fat_code.specs.declared.unit.FatFunction.{FatFunction}
use Rattle.fat_code.specs.declared.unit.FatObject.{FatObject}
use Rattle.fat_code.specs.declared.unit.FatParts.{FatParts}
use Rattle.fat_code.specs.declared.unit.FatPiece.{FatPiece}
use Rattle.fat_code.specs.declared.unit.FatSymbol.{FatSymbol}
use Rattle.fat_code.specs.declared.unit.FatValue.{FatValue}
use Rattle.fat_code.specs.declared.unit.FatValue.TheVariants as value

-- ---- lists and names

abbrev pub list_bytes : {T : Type 0} → (bytes : T → ℕ) → List T → ℕ
list_bytes bytes items = 4 + sum_by bytes items

abbrev pub name_bytes : List ℕ → ℕ
name_bytes name = 4 + length name

-- ---- types

-- a member: its name and type, and from version 2 on the first bit and the count of bits of a bit-field
abbrev pub member_bytes : Version → Field → ℕ
member_bytes One field = name_bytes field.name + 4
member_bytes Two field = name_bytes field.name + 12

-- a struct or union: its tag, whether it is complete, and its members
abbrev pub record_bytes : Version → Record → ℕ
record_bytes version record_type = name_bytes record_type.tag + (4 + list_bytes (member_bytes version) record_type.fields)

abbrev pub node_bytes : Version → TypeNode → ℕ
node_bytes version node.Void = 4
node_bytes version (node.Basic basic) = 8
node_bytes version (node.Pointer of) = 8
node_bytes version (node.Array of count) = 12
node_bytes version (node.Function returns is_known parameters is_variadic) = 20 + 4 * length parameters
node_bytes version (node.Struct record_type) = 4 + record_bytes version record_type
node_bytes version (node.Union record_type) = 4 + record_bytes version record_type
node_bytes version (node.Enum tag) = 4 + name_bytes tag
node_bytes version (node.Qualified of bits) = 12

-- ---- shapes and symbols

abbrev pub shape_bytes : List WordKind → ℕ
shape_bytes kinds = 4 + 4 * length kinds

abbrev pub definition_bytes : Definition → ℕ
definition_bytes definition.Missing = 4
definition_bytes (definition.Function i) = 8
definition_bytes (definition.Object i) = 8

-- a symbol: its name, linkage, type, use and definition
abbrev pub symbol_bytes : FatSymbol → ℕ
symbol_bytes symbol = name_bytes symbol.name + (12 + definition_bytes symbol.definition)

-- ---- functions

abbrev pub op_bytes : Op → ℕ
op_bytes (op.Label height) = 8
op_bytes (op.Jump to) = 8
op_bytes (op.JumpZero to) = 8
op_bytes (op.JumpCase value to) = 12
op_bytes (op.Number value) = 8
op_bytes (op.Symbol symbol offset) = 12
op_bytes (op.Object object offset) = 12
op_bytes (op.SlotGet slot) = 8
op_bytes (op.SlotSet slot) = 8
op_bytes (op.Entry entry) = 8
op_bytes (op.Load width is_signed shape member) = 20
op_bytes (op.Store width shape member) = 16
op_bytes (op.Binary binary) = 8
op_bytes (op.Unary unary) = 8
op_bytes (op.Narrow width is_signed) = 12
op_bytes (op.Cast shape) = 8
op_bytes (op.Copy size) = 8
op_bytes (op.Clear size) = 8
op_bytes op.Duplicate = 4
op_bytes op.Swap = 4
op_bytes op.Drop = 4
op_bytes (op.Call arguments) = 8
op_bytes (op.Primitive primitive) = 8
op_bytes op.Return = 4

-- an entry block: its size and shape
abbrev pub entry_bytes : FatEntry → ℕ
entry_bytes entry = 8

-- a function: its parameters, slots and variadic flag, its entry blocks, and its operations
abbrev pub function_bytes : FatFunction → ℕ
function_bytes function = 12 + (list_bytes entry_bytes function.entries + list_bytes op_bytes function.ops)

-- ---- objects

abbrev pub value_bytes : FatValue → ℕ
value_bytes (value.Number number) = 8
value_bytes (value.Symbol symbol offset) = 12
value_bytes (value.Object object offset) = 12

-- a piece: its offset, width and value
abbrev pub piece_bytes : FatPiece → ℕ
piece_bytes piece = 8 + value_bytes piece.value

-- an object: its size, shape and pieces
abbrev pub object_bytes : FatObject → ℕ
object_bytes object = 8 + list_bytes piece_bytes object.pieces

-- ---- where the lists of a unit stand in its file: behind 4 bytes of magic and version, and the number of nodes

abbrev pub types_at : ℕ
types_at = 8

abbrev pub shapes_at : Version → FatParts → ℕ
shapes_at version unit = types_at + list_bytes (node_bytes version) unit.types

abbrev pub symbols_at : Version → FatParts → ℕ
symbols_at version unit = shapes_at version unit + list_bytes shape_bytes unit.shapes

abbrev pub functions_at : Version → FatParts → ℕ
functions_at version unit = symbols_at version unit + list_bytes symbol_bytes unit.symbols

abbrev pub objects_at : Version → FatParts → ℕ
objects_at version unit = functions_at version unit + list_bytes function_bytes unit.functions

-- the length of the whole file
abbrev pub file_bytes : Version → FatParts → ℕ
file_bytes version unit = objects_at version unit + list_bytes object_bytes unit.objects
