-- What linking sees of a typed unit.
use Rattle.std.specs.Prelude.{ℕ, zero, suc, ◌+◌, ◌*◌, ◌%◌, ◌^◌, ◌==◌, not, ◌&&◌, ◌||◌, if◌then◌else◌, Bool, false, List, [], ◌∷◌, length, map, count_by, Option, Some, None}
use Rattle.fsc_base.specs.declared.word.Width.TheVariants as width
use Rattle.c_types.specs.declared.node.TypeNode.{TypeNode}
use Rattle.c_types.specs.declared.node.TypeNode.TheVariants as node
use Rattle.c_types.specs.Nodes.{node_at}
use Rattle.c_link.specs.Views.{LinkValue, LinkPiece, LinkObject, LinkSymbol, LinkView, Number, Symbol as NamedBySymbol, Object as OfObject}
use Rattle.c_tree.specs.declared.constant.Known.{Known}
use Rattle.c_tree.specs.declared.constant.Known.TheVariants as known
use Rattle.c_tree.specs.declared.expression.Symbol.{Symbol}
use Rattle.c_tree.specs.declared.expression.Symbol.TheVariants.{Named, Object}
use Rattle.c_tree.specs.declared.statement.Piece.{Piece}
use Rattle.c_tree.specs.declared.unit.TypedSymbol.{TypedSymbol}
use Rattle.c_tree.specs.declared.unit.TypedObject.{TypedObject}
use Rattle.c_tree.specs.declared.unit.TypedUnit.{TypedUnit}
use Rattle.c_tree.specs.Programs.{is_record}
use Rattle.c_tree.specs.Bodies.{width_of}
use Rattle.c_tree.specs.Constants.{known_of}
use Rattle.c_tree.specs.Counting.{nodes_of}

-- ---- pieces

-- an address, by what it is an address of
abbrev pub address_value : Symbol → (offset : ℕ) → LinkValue
address_value (Named i) offset = NamedBySymbol i offset
address_value (Object i) offset = OfObject i offset

-- the value of a piece of so many bytes; that of a static object is a constant
abbrev pub piece_value : (size : ℕ) → Option Known → LinkValue
piece_value size (Some (known.Number n)) = Number (n % 2 ^ (8 * size))
piece_value size (Some (known.Address symbol offset)) = address_value symbol offset
piece_value size None = Number 0

-- a piece that is no bit-field
abbrev pub whole_piece : List TypeNode → Piece → LinkPiece
whole_piece nodes piece = record {
  offset = piece.offset;
  width = width_of piece.size;
  value = piece_value piece.size (known_of nodes piece.value);
}

-- the bits of a bit-field, in their places
abbrev pub bits_in : Piece → Option Known → ℕ
bits_in piece (Some (known.Number n)) = n % 2 ^ piece.count * 2 ^ piece.first
bits_in piece (Some (known.Address symbol offset)) = 0
bits_in piece None = 0

abbrev pub bits_of : List TypeNode → Piece → ℕ
bits_of nodes piece = bits_in piece (known_of nodes piece.value)

-- a unit that holds these bits
abbrev pub unit_piece : (offset bits : ℕ) → LinkPiece
unit_piece offset bits = record { offset = offset; width = width.Four; value = Number bits }

-- the bits of one more bit-field in the unit that comes first
abbrev pub with_bits : (bits : ℕ) → LinkValue → LinkValue
with_bits bits (Number unit) = Number (unit + bits)
with_bits bits value = value

abbrev pub with_bits_first : (bits : ℕ) → List LinkPiece → List LinkPiece
with_bits_first bits [] = []
with_bits_first bits (piece ∷ pieces) = record piece { value = with_bits bits piece.value } ∷ pieces

abbrev pub is_bit_field : Piece → Bool
is_bit_field piece = not (piece.count == 0)

-- the next piece is a bit-field of the same unit
abbrev pub shares_unit : Piece → List Piece → Bool
shares_unit piece [] = false
shares_unit piece (other ∷ pieces) = is_bit_field other && (other.offset == piece.offset)

abbrev pub with_piece : List TypeNode → Piece → List Piece → List LinkPiece → List LinkPiece
with_piece nodes piece behind viewed =
    if is_bit_field piece
    then (if shares_unit piece behind then with_bits_first (bits_of nodes piece) viewed else unit_piece piece.offset (bits_of nodes piece) ∷ viewed)
    else whole_piece nodes piece ∷ viewed

-- the pieces of an object, those of the bit-fields of one unit as one number
abbrev pub view_pieces : List TypeNode → List Piece → List LinkPiece
view_pieces nodes [] = []
view_pieces nodes (piece ∷ pieces) = with_piece nodes piece pieces (view_pieces nodes pieces)

-- ---- objects

abbrev pub is_const_bit : (bits : ℕ) → Bool
is_const_bit bits = bits % 2 == 1

-- a type is const-qualified, or an array, at any depth, of such a type
abbrev pub is_const_in : (rest : ℕ → Bool) → TypeNode → Bool
is_const_in rest (node.Array of count) = rest of
is_const_in rest (node.Qualified of bits) = is_const_bit bits || rest of
is_const_in rest _ = false

abbrev pub is_const_by : (depth : ℕ) → List TypeNode → (id : ℕ) → Bool
is_const_by zero nodes id = false
is_const_by (suc depth) nodes id = is_const_in (is_const_by depth nodes) (node_at nodes id)

-- no type lies deeper than its table is long
unfoldable pub is_const : List TypeNode → (id : ℕ) → Bool
is_const nodes id = is_const_by (length nodes) nodes id

-- a string literal, which has no name, is sealed, and so is a const object
abbrev pub is_sealed : List TypeNode → TypedObject → Bool
is_sealed nodes object = (length object.name == 0) || is_const nodes object.kind

abbrev pub view_object : List TypeNode → TypedObject → LinkObject
view_object nodes object = record {
  size = object.size;
  is_sealed = is_sealed nodes object;
  pieces = view_pieces nodes object.pieces;
}

-- ---- units

abbrev pub view_symbol : TypedSymbol → LinkSymbol
view_symbol symbol = record {
  name = symbol.name;
  linkage = symbol.linkage;
  kind = symbol.kind;
  is_used = symbol.used;
  definition = symbol.definition;
}

unfoldable pub typed_view : TypedUnit → LinkView
typed_view u = record {
  symbols = map view_symbol u.symbols;
  functions = length u.functions;
  objects = map (view_object u.types) u.objects;
  types = u.types;
  nodes = nodes_of u;
  records = count_by is_record u.types;
}
