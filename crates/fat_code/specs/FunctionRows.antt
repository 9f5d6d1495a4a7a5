-- The faults of functions.
use Rattle.std.specs.Prelude.{ℕ, ◌+◌, ◌*◌, ◌==◌, nat_lt, ◌||◌, List, [], ◌∷◌, ◌++◌, length, take, sum_by}
use Rattle.fat_code.specs.declared.fault.UnitFault.TheVariants.{Limit, Height}
use Rattle.fat_code.specs.declared.unit.FatEntry.{FatEntry}
use Rattle.fat_code.specs.declared.unit.FatFunction.{FatFunction}
use Rattle.fat_code.specs.declared.unit.FatParts.{FatParts}
use Rattle.fat_code.specs.Lengths.{list_bytes, entry_bytes, function_bytes}
use Rattle.fat_code.specs.Rows.{Row, row, limit_row, rows_of_list}
use Rattle.fat_code.specs.OpRows.{shape_row, op_rows}
use Rattle.fat_code.specs.UnitRows.{most_bytes}

-- ---- sums over a unit

-- the operations of the functions up to the one with an index, and with it; and their entry blocks
abbrev pub ops_up_to : FatParts → (index : ℕ) → ℕ
ops_up_to unit index = sum_by (λ (function : FatFunction). length function.ops) (take (index + 1) unit.functions)

abbrev pub entries_up_to : FatParts → (index : ℕ) → ℕ
entries_up_to unit index = sum_by (λ (function : FatFunction). length function.entries) (take (index + 1) unit.functions)

-- ---- rows

-- an entry block: its size and shape
abbrev pub entry_rows : FatParts → (index at : ℕ) → FatEntry → List Row
entry_rows unit index at entry = limit_row most_bytes entry.size at ∷ shape_row unit entry.shape (at + 4) ∷ []

-- at most 64 parameters, each with its slot, and at most 255 slots
abbrev pub head_rows : FatFunction → (at : ℕ) → List Row
head_rows function at = row Limit (nat_lt 64 function.parameters || nat_lt function.slots function.parameters) at ∷ limit_row 255 function.slots (at + 4) ∷ []

-- at most 255 entry blocks, and in the unit so far one for each of its nodes
abbrev pub entries_row : FatParts → (index at : ℕ) → FatFunction → Row
entries_row unit index at function = row Limit (nat_lt 255 (length function.entries) || nat_lt unit.nodes (entries_up_to unit index)) at

-- in the unit so far at most 16 operations for each of its nodes, and at least one in the function
abbrev pub count_rows : FatParts → (index at : ℕ) → FatFunction → List Row
count_rows unit index at function =
    limit_row (16 * unit.nodes) (ops_up_to unit index) at ∷ row Height (length function.ops == 0) at ∷ []

-- where the count of the operations of a function stands that itself stands at an offset
abbrev pub ops_at : (at : ℕ) → FatFunction → ℕ
ops_at at function = at + 12 + list_bytes entry_bytes function.entries

-- a function: its parameters, slots and variadic flag, its entry blocks, and its operations
abbrev pub function_rows : FatParts → (index at : ℕ) → FatFunction → List Row
function_rows unit index at function =
    head_rows function at
    ++ (entries_row unit index (at + 12) function ∷ rows_of_list (entry_rows unit) entry_bytes (at + 12) function.entries)
    ++ (count_rows unit index (ops_at at function) function ++ op_rows unit function (ops_at at function))

unfoldable pub rows_of_functions : FatParts → (at : ℕ) → List Row
rows_of_functions unit at = rows_of_list (function_rows unit) function_bytes at unit.functions
