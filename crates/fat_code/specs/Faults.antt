-- The faults of a unit whose file could be read: a number that names nothing, a number above its limit, a wrong height.
use Rattle.std.specs.Prelude.{◌≡◌, ℕ, List, ◌++◌, Option, None}
use Rattle.fat_code.specs.declared.fault.UnitFault.{UnitFault}
use Rattle.fat_code.specs.declared.fault.Version.{Version}
use Rattle.fat_code.specs.declared.fault.Version.TheVariants.{Two}
use Rattle.fat_code.specs.declared.unit.FatParts.{FatParts}
use Rattle.fat_code.specs.Lengths.{types_at, shapes_at, symbols_at, functions_at, objects_at}
use Rattle.fat_code.specs.Rows.{Row, first_fault}
use Rattle.fat_code.specs.TypeRows.{type_rows}
use Rattle.fat_code.specs.UnitRows.{rows_of_shapes, rows_of_symbols, rows_of_objects}
use Rattle.fat_code.specs.FunctionRows.{rows_of_functions}

-- The whole table, in the order of the file of this version: types, shapes, symbols, functions and objects. Of rows with one
-- offset Index stands first, then Limit, then Height.
unfoldable pub table_of : Version → FatParts → List Row
table_of version unit =
    type_rows version types_at unit.types
    ++ rows_of_shapes unit (shapes_at version unit)
    ++ rows_of_symbols unit (symbols_at version unit)
    ++ rows_of_functions unit (functions_at version unit)
    ++ rows_of_objects unit (objects_at version unit)

-- the fault of a unit, and its offset in the file: those of the first row that holds
unfoldable pub fault_of : Version → FatParts → Option (UnitFault × ℕ)
fault_of version unit = first_fault (table_of version unit)

-- a unit without faults
abbrev pub IsFaultless : FatParts → Type 0
IsFaultless unit = fault_of Two unit ≡ None
