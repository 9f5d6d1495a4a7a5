-- The faults of shapes, symbols and objects.
use Rattle.std.specs.Prelude.{ℕ, ◌+◌, ◌^◌, ◌==◌, nat_lt, ◌&&◌, not, Bool, List, [], ◌∷◌, length, count_by}
use Rattle.fsc_base.specs.declared.word.WordKind.{WordKind}
use Rattle.c_memory.specs.Access.{bytes_of}
use Rattle.c_ops.specs.declared.linkage.Definition.{Definition}
use Rattle.c_ops.specs.declared.linkage.Definition.TheVariants as definition
use Rattle.c_types.specs.Periods.{period_of}
use Rattle.fat_code.specs.declared.fault.UnitFault.TheVariants.{Index}
use Rattle.fat_code.specs.declared.unit.FatObject.{FatObject}
use Rattle.fat_code.specs.declared.unit.FatParts.{FatParts}
use Rattle.fat_code.specs.declared.unit.FatPiece.{FatPiece}
use Rattle.fat_code.specs.declared.unit.FatSymbol.{FatSymbol}
use Rattle.fat_code.specs.declared.unit.FatValue.{FatValue}
use Rattle.fat_code.specs.declared.unit.FatValue.TheVariants as value
use Rattle.fat_code.specs.Lengths.{name_bytes, shape_bytes, symbol_bytes, piece_bytes, object_bytes}
use Rattle.fat_code.specs.Rows.{Row, row, index_row, limit_row, rows_of_list}
use Rattle.fat_code.specs.TypeRows.{is_record}
use Rattle.fat_code.specs.OpRows.{symbol_row, object_row, shape_row}

-- ---- shapes

-- kinds in their least period
abbrev pub is_least : List WordKind → Bool
is_least kinds = length (period_of kinds) == length kinds

abbrev pub is_shape : List WordKind → Bool
is_shape kinds = nat_lt 0 (length kinds) && is_least kinds

abbrev pub shape_rows : (index at : ℕ) → List WordKind → List Row
shape_rows index at kinds = row Index (not (is_shape kinds)) at ∷ limit_row 1024 (length kinds) at ∷ []

-- the number of struct and union types of a unit
abbrev pub records_of : FatParts → ℕ
records_of unit = count_by is_record unit.types

-- a shape for each struct and union type, and two more
unfoldable pub rows_of_shapes : FatParts → (at : ℕ) → List Row
rows_of_shapes unit at = limit_row (records_of unit + 2) (length unit.shapes) at ∷ rows_of_list shape_rows shape_bytes at unit.shapes

-- ---- symbols

abbrev pub definition_rows : FatParts → (at : ℕ) → Definition → List Row
definition_rows unit at definition.Missing = []
definition_rows unit at (definition.Function i) = index_row i (length unit.functions) (at + 4) ∷ []
definition_rows unit at (definition.Object i) = object_row unit i (at + 4) ∷ []

-- a symbol: behind its name stand its linkage, its type, its use and its definition
abbrev pub symbol_rows : FatParts → (index at : ℕ) → FatSymbol → List Row
symbol_rows unit index at symbol =
    index_row symbol.kind (length unit.types) (at + name_bytes symbol.name + 4)
    ∷ definition_rows unit (at + name_bytes symbol.name + 12) symbol.definition

unfoldable pub rows_of_symbols : FatParts → (at : ℕ) → List Row
rows_of_symbols unit at = rows_of_list (symbol_rows unit) symbol_bytes at unit.symbols

-- ---- objects

abbrev pub value_rows : FatParts → (at : ℕ) → FatValue → List Row
value_rows unit at (value.Number number) = []
value_rows unit at (value.Symbol symbol offset) = symbol_row unit symbol (at + 4) ∷ []
value_rows unit at (value.Object object offset) = object_row unit object (at + 4) ∷ []

-- a piece lies within its object; its value stands behind its offset and width
abbrev pub piece_rows : FatParts → (size : ℕ) → (index at : ℕ) → FatPiece → List Row
piece_rows unit size index at piece = row Index (nat_lt size (piece.offset + bytes_of piece.width)) at ∷ value_rows unit (at + 8) piece.value

-- the greatest size of a type, in bytes
abbrev pub most_bytes : ℕ
most_bytes = 2 ^ 27

abbrev pub object_rows : FatParts → (index at : ℕ) → FatObject → List Row
object_rows unit index at object =
    limit_row most_bytes object.size at ∷ shape_row unit object.shape (at + 4)
    ∷ rows_of_list (piece_rows unit object.size) piece_bytes (at + 8) object.pieces

unfoldable pub rows_of_objects : FatParts → (at : ℕ) → List Row
rows_of_objects unit at = rows_of_list (object_rows unit) object_bytes at unit.objects
