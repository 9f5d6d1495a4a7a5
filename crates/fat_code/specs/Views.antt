-- What linking sees of a unit of fat code.
use Rattle.std.specs.Prelude.{ℕ, zero, suc, ◌==◌, ◌%◌, ◌&&◌, ◌||◌, Bool, false, List, length, map}
use Rattle.std.specs.List.{list_any, enumerate_from}
use Rattle.c_ops.specs.declared.linkage.Definition.{Definition}
use Rattle.c_ops.specs.declared.linkage.Definition.TheVariants as definition
use Rattle.c_types.specs.declared.node.TypeNode.{TypeNode}
use Rattle.c_types.specs.declared.node.TypeNode.TheVariants as node
use Rattle.c_types.specs.Nodes.{node_at}
use Rattle.c_link.specs.Views.{LinkValue, Number, Symbol, Object, LinkPiece, LinkObject, LinkSymbol, LinkView}
use Rattle.fat_code.specs.declared.unit.FatObject.{FatObject}
use Rattle.fat_code.specs.declared.unit.FatParts.{FatParts}
use Rattle.fat_code.specs.declared.unit.FatPiece.{FatPiece}
use Rattle.fat_code.specs.declared.unit.FatSymbol.{FatSymbol}
use Rattle.fat_code.specs.declared.unit.FatValue.{FatValue}
use Rattle.fat_code.specs.declared.unit.FatValue.TheVariants as value
use Rattle.fat_code.specs.UnitRows.{records_of}

-- ---- const types

-- a const-qualified type, or an array, at any depth, of one, looked for so many nodes deep
abbrev pub is_const_from : (deep : ℕ) → List TypeNode → TypeNode → Bool
is_const_from zero types _ = false
is_const_from (suc deep) types (node.Qualified of bits) = (bits % 2 == 1) || is_const_from deep types (node_at types of)
is_const_from (suc deep) types (node.Array of count) = is_const_from deep types (node_at types of)
is_const_from (suc deep) types _ = false

abbrev pub is_const : List TypeNode → (kind : ℕ) → Bool
is_const types kind = is_const_from (length types) types (node_at types kind)

-- ---- objects

-- the symbol defines the object with an index
abbrev pub is_object_at : (index : ℕ) → Definition → Bool
is_object_at index definition.Missing = false
is_object_at index (definition.Function i) = false
is_object_at index (definition.Object i) = i == index

-- an object is sealed where a symbol of const type defines it
abbrev pub is_sealed : FatParts → (index : ℕ) → Bool
is_sealed unit index = list_any (λ (symbol : FatSymbol). is_object_at index symbol.definition && is_const unit.types symbol.kind) unit.symbols

abbrev pub view_value : FatValue → LinkValue
view_value (value.Number number) = Number number
view_value (value.Symbol symbol offset) = Symbol symbol offset
view_value (value.Object object offset) = Object object offset

abbrev pub view_piece : FatPiece → LinkPiece
view_piece piece = record { offset = piece.offset; width = piece.width; value = view_value piece.value }

abbrev pub view_object : FatParts → (ℕ × FatObject) → LinkObject
view_object unit object = record { size = object.1.size; is_sealed = is_sealed unit object.0; pieces = map view_piece object.1.pieces }

-- ---- the unit

abbrev pub view_symbol : FatSymbol → LinkSymbol
view_symbol symbol =
    record { name = symbol.name; linkage = symbol.linkage; kind = symbol.kind; is_used = symbol.used; definition = symbol.definition }

unfoldable pub fat_view : FatParts → LinkView
fat_view unit = record {
  symbols = map view_symbol unit.symbols;
  functions = length unit.functions;
  objects = map (view_object unit) (enumerate_from 0 unit.objects);
  types = unit.types;
  nodes = unit.nodes;
  records = records_of unit;
}
