-- How the parts of a unit are spelled in its file.
use Rattle.std.specs.Prelude.{ℕ, List, [], ◌∷◌, ◌++◌, length, flat_map}
use Rattle.byteorder.specs.Endian.{little_bytes}
use Rattle.fsc_base.specs.declared.word.WordKind.{WordKind}
use Rattle.c_ops.specs.declared.linkage.Definition.{Definition}
use Rattle.c_ops.specs.declared.linkage.Definition.TheVariants as definition
use Rattle.c_types.specs.declared.node.Field.{Field}
use Rattle.c_types.specs.declared.node.Record.{Record}
use Rattle.c_types.specs.declared.node.TypeNode.{TypeNode}
use Rattle.c_types.specs.declared.node.TypeNode.TheVariants as node
use Rattle.fat_code.specs.declared.fault.Version.{Version}
use Rattle.fat_code.specs.declared.fault.Version.TheVariants.{One, Two}
use Rattle.fat_code.specs.declared.op.Op.{Op}
use Rattle.fat_code.specs.declared.op.Op.TheVariants as op
use Rattle.fat_code.specs.declared.unit.FatEntry.{FatEntry}
use Rattle.fat_code.specs.declared.unit.FatFunction.{FatFunction}
use Rattle.fat_code.specs.declared.unit.FatObject.{FatObject}
use Rattle.fat_code.specs.declared.unit.FatParts.{FatParts}
use Rattle.fat_code.specs.declared.unit.FatPiece.{FatPiece}
use Rattle.fat_code.specs.declared.unit.FatSymbol.{FatSymbol}
use Rattle.fat_code.specs.declared.unit.FatValue.{FatValue}
use Rattle.fat_code.specs.declared.unit.FatValue.TheVariants as value
use Rattle.unit_file.specs.Tags.{flag_tag, kind_tag, basic_tag, width_tag, linkage_tag, binary_tag, unary_tag, primitive_tag}

-- ---- numbers, names and lists

-- a number, and a tag: 4 bytes, the lowest first
unfoldable pub number : ℕ → List ℕ
number n = little_bytes 4 n

abbrev pub numbers : List ℕ → List ℕ
numbers ns = flat_map number ns

-- a name: its count and its bytes
abbrev pub spelled_name : List ℕ → List ℕ
spelled_name name = number (length name) ++ name

-- a list: its count and its items
abbrev pub list_of : {T : Type 0} → (spelled : T → List ℕ) → List T → List ℕ
list_of spelled items = number (length items) ++ flat_map spelled items

-- ---- types

-- the place of a bit-field, which stands in files of version 2
abbrev pub spelled_bits : Version → (first count : ℕ) → List ℕ
spelled_bits One first count = []
spelled_bits Two first count = numbers (first ∷ count ∷ [])

abbrev pub spelled_field : Version → Field → List ℕ
spelled_field version field = spelled_name field.name ++ (number field.kind ++ spelled_bits version field.first field.count)

abbrev pub spelled_record : Version → Record → List ℕ
spelled_record version parts =
    spelled_name parts.tag ++ (number (flag_tag parts.is_complete) ++ list_of (spelled_field version) parts.fields)

unfoldable pub spelled_node : Version → TypeNode → List ℕ
spelled_node version node.Void = numbers (0 ∷ [])
spelled_node version (node.Basic basic) = numbers (1 ∷ basic_tag basic ∷ [])
spelled_node version (node.Pointer to) = numbers (2 ∷ to ∷ [])
spelled_node version (node.Array of count) = numbers (3 ∷ of ∷ count ∷ [])
spelled_node version (node.Function returns is_known parameters is_variadic) =
    numbers (4 ∷ returns ∷ flag_tag is_known ∷ []) ++ (list_of number parameters ++ number (flag_tag is_variadic))
spelled_node version (node.Struct parts) = number 5 ++ spelled_record version parts
spelled_node version (node.Union parts) = number 6 ++ spelled_record version parts
spelled_node version (node.Enum tag) = number 7 ++ spelled_name tag
spelled_node version (node.Qualified of bits) = numbers (8 ∷ of ∷ bits ∷ [])

-- ---- shapes and symbols

abbrev pub spelled_kind : WordKind → List ℕ
spelled_kind kind = number (kind_tag kind)

abbrev pub spelled_shape : List WordKind → List ℕ
spelled_shape kinds = list_of spelled_kind kinds

abbrev pub spelled_definition : Definition → List ℕ
spelled_definition definition.Missing = numbers (0 ∷ [])
spelled_definition (definition.Function i) = numbers (1 ∷ i ∷ [])
spelled_definition (definition.Object i) = numbers (2 ∷ i ∷ [])

abbrev pub spelled_symbol : FatSymbol → List ℕ
spelled_symbol symbol =
    spelled_name symbol.name
    ++ (numbers (linkage_tag symbol.linkage ∷ symbol.kind ∷ flag_tag symbol.used ∷ []) ++ spelled_definition symbol.definition)

-- ---- functions

abbrev pub spelled_entry : FatEntry → List ℕ
spelled_entry entry = numbers (entry.size ∷ entry.shape ∷ [])

-- the tag of an operation, and its numbers
abbrev pub op_numbers : Op → List ℕ
op_numbers (op.Label height) = 0 ∷ height ∷ []
op_numbers (op.Jump to) = 1 ∷ to ∷ []
op_numbers (op.JumpZero to) = 2 ∷ to ∷ []
op_numbers (op.JumpCase value to) = 3 ∷ value ∷ to ∷ []
op_numbers (op.Number value) = 4 ∷ value ∷ []
op_numbers (op.Symbol symbol offset) = 5 ∷ symbol ∷ offset ∷ []
op_numbers (op.Object object offset) = 6 ∷ object ∷ offset ∷ []
op_numbers (op.SlotGet slot) = 7 ∷ slot ∷ []
op_numbers (op.SlotSet slot) = 8 ∷ slot ∷ []
op_numbers (op.Entry entry) = 9 ∷ entry ∷ []
op_numbers (op.Load width is_signed shape member) = 10 ∷ width_tag width ∷ flag_tag is_signed ∷ shape ∷ member ∷ []
op_numbers (op.Store width shape member) = 11 ∷ width_tag width ∷ shape ∷ member ∷ []
op_numbers (op.Binary binary) = 12 ∷ binary_tag binary ∷ []
op_numbers (op.Unary unary) = 13 ∷ unary_tag unary ∷ []
op_numbers (op.Narrow width is_signed) = 14 ∷ width_tag width ∷ flag_tag is_signed ∷ []
op_numbers (op.Cast shape) = 15 ∷ shape ∷ []
op_numbers (op.Copy size) = 16 ∷ size ∷ []
op_numbers (op.Clear size) = 17 ∷ size ∷ []
op_numbers op.Duplicate = 18 ∷ []
op_numbers op.Swap = 19 ∷ []
op_numbers op.Drop = 20 ∷ []
op_numbers (op.Call arguments) = 21 ∷ arguments ∷ []
op_numbers (op.Primitive primitive) = 22 ∷ primitive_tag primitive ∷ []
op_numbers op.Return = 23 ∷ []

unfoldable pub spelled_op : Op → List ℕ
spelled_op this = numbers (op_numbers this)

abbrev pub spelled_function : FatFunction → List ℕ
spelled_function function =
    numbers (function.parameters ∷ function.slots ∷ flag_tag function.is_variadic ∷ [])
    ++ (list_of spelled_entry function.entries ++ list_of spelled_op function.ops)

-- ---- objects

abbrev pub spelled_value : FatValue → List ℕ
spelled_value (value.Number n) = numbers (0 ∷ n ∷ [])
spelled_value (value.Symbol symbol offset) = numbers (1 ∷ symbol ∷ offset ∷ [])
spelled_value (value.Object object offset) = numbers (2 ∷ object ∷ offset ∷ [])

abbrev pub spelled_piece : FatPiece → List ℕ
spelled_piece piece = numbers (piece.offset ∷ width_tag piece.width ∷ []) ++ spelled_value piece.value

abbrev pub spelled_object : FatObject → List ℕ
spelled_object object = numbers (object.size ∷ object.shape ∷ []) ++ list_of spelled_piece object.pieces

-- ---- units

-- the parts of a unit: its types and shapes
abbrev pub spelled_front : Version → (nodes : ℕ) → List TypeNode → (shapes : List (List WordKind)) → List ℕ
spelled_front version nodes types shapes = number nodes ++ (list_of (spelled_node version) types ++ list_of spelled_shape shapes)

-- and its symbols, functions and objects
abbrev pub spelled_back : List FatSymbol → List FatFunction → List FatObject → List ℕ
spelled_back symbols functions objects = list_of spelled_symbol symbols ++ (list_of spelled_function functions ++ list_of spelled_object objects)

unfoldable pub spelled_parts : Version → FatParts → List ℕ
spelled_parts version unit =
    spelled_front version unit.nodes unit.types unit.shapes ++ spelled_back unit.symbols unit.functions unit.objects

-- FSU and the version, as letters
abbrev pub opening : Version → List ℕ
opening One = 70 ∷ 83 ∷ 85 ∷ 49 ∷ []
opening Two = 70 ∷ 83 ∷ 85 ∷ 50 ∷ []

-- the file of a unit
unfoldable pub spelled_unit : Version → FatParts → List ℕ
spelled_unit version unit = opening version ++ spelled_parts version unit
