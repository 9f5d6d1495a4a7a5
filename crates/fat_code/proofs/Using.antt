-- What follows where no row of the table of faults holds.
use Rattle.std.proofs.Common.{◌≡◌, ℕ, zero, suc, ◌+◌, ◌*◌, List, [], ◌∷◌, ◌++◌, length, Option, Some, None, Bool, true, false, ◌||◌, nat_lt, cond, refl, sym, ap, subst, arith}
use Rattle.std.specs.Prelude.{slice_get, unwrap_or}
use Rattle.std.proofs.lemmas.Bool.{ltb-false, not-false}
use Rattle.fat_code.specs.declared.fault.UnitFault.{UnitFault}
use Rattle.fat_code.specs.declared.fault.Version.TheVariants.{Two}
use Rattle.fat_code.specs.declared.unit.FatFunction.{FatFunction}
use Rattle.fat_code.specs.declared.unit.FatParts.{FatParts}
use Rattle.fat_code.specs.Lengths.{shape_bytes, entry_bytes, function_bytes, types_at, shapes_at, symbols_at, functions_at, objects_at}
use Rattle.fat_code.specs.Rows.{Row, first_fault, rows_from, rows_of_list}
use Rattle.fat_code.specs.TypeRows.{type_rows}
use Rattle.fat_code.specs.UnitRows.{records_of, is_shape, shape_rows, rows_of_shapes, rows_of_symbols, rows_of_objects}
use Rattle.fat_code.specs.OpRows.{op_rows}
use Rattle.fat_code.specs.FunctionRows.{ops_up_to, entries_up_to, head_rows, entry_rows, entries_row, count_rows, function_rows, rows_of_functions, ops_at}
use Rattle.fat_code.specs.Faults.{table_of, fault_of, IsFaultless}
use Rattle.fat_code.specs.BoundLaws.{IsBounded, FunctionsAreBounded, ShapesAreLeast, ShapesAreFew}

-- ---- rows that don't hold

abbrev pub AreClear : List Row → Type 0
AreClear [] = Unit {0}
AreClear (row ∷ rows) = (row.holds ≡ false) × AreClear rows

no_first : (holds : Bool) (found : UnitFault × ℕ) (rest : Option (UnitFault × ℕ)) → cond holds (Some found) rest ≡ None → (holds ≡ false) × (rest ≡ None)
no_first true found rest e = absurd cc
no_first false found rest e = (refl, e)

pub clear : (rows : List Row) → first_fault rows ≡ None → AreClear rows
clear [] e = tt
clear (row ∷ rows) e =
    let parts = no_first row.holds (row.fault, row.offset) (first_fault rows) e in
    (parts.0, clear rows parts.1)

pub clear-append : (one other : List Row) → AreClear (one ++ other) → AreClear one × AreClear other
clear-append [] other c = (tt, c)
clear-append (row ∷ one) other c = let rest = clear-append one other c.1 in ((c.0, rest.0), rest.1)

-- the rows of an item of a list
pub clear_item : {T : Type 0} (rows : ℕ → ℕ → T → List Row) (bytes : T → ℕ) (index at : ℕ) (items : List T) (i : ℕ) (item : T)
    → AreClear (rows_from rows bytes index at items) → slice_get items i ≡ Some item → (offset : ℕ) × AreClear (rows (index + i) offset item)
clear_item rows bytes index at [] i item c e = absurd cc
clear_item {T} rows bytes index at (x ∷ items) zero item c e =
    let same : x ≡ item = ap (λ (o : Option T). unwrap_or o x) e in
    let here = (clear-append (rows index at x) (rows_from rows bytes (index + 1) (at + bytes x) items) c).0 in
    let none : index + 0 ≡ index = omega arith in
    (at, subst (λ (k : ℕ). AreClear (rows k at item)) (sym none) (subst (λ (y : T). AreClear (rows index at y)) same here))
clear_item rows bytes index at (x ∷ items) (suc i) item c e =
    let there = (clear-append (rows index at x) (rows_from rows bytes (index + 1) (at + bytes x) items) c).1 in
    let rest = clear_item rows bytes (index + 1) (at + bytes x) items i item there e in
    let next : index + 1 + i ≡ index + suc i = omega arith in
    (rest.0, subst (λ (k : ℕ). AreClear (rows k rest.0 item)) next rest.1)

or_false : (x y : Bool) → (x || y) ≡ false → (x ≡ false) × (y ≡ false)
or_false true y e = absurd cc
or_false false y e = (refl, e)

-- ---- the parts of the table

pub clear_table : (unit : FatParts) → IsFaultless unit → AreClear (table_of Two unit)
unfolding fault_of
clear_table unit e = clear (table_of Two unit) e

-- types, shapes, symbols and functions
before_objects : (unit : FatParts) → IsFaultless unit
    → AreClear (type_rows Two types_at unit.types ++ rows_of_shapes unit (shapes_at Two unit) ++ rows_of_symbols unit (symbols_at Two unit)
    ++ rows_of_functions unit (functions_at Two unit))
unfolding table_of
before_objects unit e =
    (clear-append
    (type_rows Two types_at unit.types ++ rows_of_shapes unit (shapes_at Two unit) ++ rows_of_symbols unit (symbols_at Two unit)
    ++ rows_of_functions unit (functions_at Two unit))
    (rows_of_objects unit (objects_at Two unit)) (clear_table unit e)).0

pub clear_functions : (unit : FatParts) → IsFaultless unit → AreClear (rows_of_functions unit (functions_at Two unit))
clear_functions unit e =
    (clear-append (type_rows Two types_at unit.types ++ rows_of_shapes unit (shapes_at Two unit) ++ rows_of_symbols unit (symbols_at Two unit))
    (rows_of_functions unit (functions_at Two unit)) (before_objects unit e)).1

pub clear_shapes : (unit : FatParts) → IsFaultless unit → AreClear (rows_of_shapes unit (shapes_at Two unit))
clear_shapes unit e =
    let front = (clear-append (type_rows Two types_at unit.types ++ rows_of_shapes unit (shapes_at Two unit) ++ rows_of_symbols unit (symbols_at Two unit))
    (rows_of_functions unit (functions_at Two unit)) (before_objects unit e)).0 in
    let shapes = (clear-append (type_rows Two types_at unit.types ++ rows_of_shapes unit (shapes_at Two unit)) (rows_of_symbols unit (symbols_at Two unit)) front).0 in
    (clear-append (type_rows Two types_at unit.types) (rows_of_shapes unit (shapes_at Two unit)) shapes).1

-- ---- shapes

pub shapes_are_few : ShapesAreFew
unfolding rows_of_shapes
shapes_are_few unit e = ltb-false (records_of unit + 2) (length unit.shapes) (clear_shapes unit e).0

pub shapes_are_least : ShapesAreLeast
unfolding rows_of_shapes
shapes_are_least unit index kinds e is =
    let found = clear_item shape_rows shape_bytes 0 (shapes_at Two unit + 4) unit.shapes index kinds (clear_shapes unit e).1 is in
    (not-false (is_shape kinds) found.1.0, ltb-false 1024 (length kinds) found.1.1.0)

-- ---- functions

bounded : (unit : FatParts) (index at : ℕ) (function : FatFunction) → AreClear (function_rows unit index at function) → IsBounded unit index function
bounded unit index at function c =
    let entries = entries_row unit index (at + 12) function ∷ rows_of_list (entry_rows unit) entry_bytes (at + 12) function.entries in
    let ops = count_rows unit index (ops_at at function) function ++ op_rows unit function (ops_at at function) in
    let whole = clear-append (head_rows function at ++ entries) ops c in
    let front = clear-append (head_rows function at) entries whole.0 in
    let back = clear-append (count_rows unit index (ops_at at function) function) (op_rows unit function (ops_at at function)) whole.1 in
    let passed = or_false (nat_lt 64 function.parameters) (nat_lt function.slots function.parameters) front.0.0 in
    let made = or_false (nat_lt 255 (length function.entries)) (nat_lt unit.nodes (entries_up_to unit index)) front.1.0 in
    record {
      parameters = ltb-false 64 function.parameters passed.0;
      passed = ltb-false function.slots function.parameters passed.1;
      slots = ltb-false 255 function.slots front.0.1.0;
      entries = ltb-false 255 (length function.entries) made.0;
      few_entries = ltb-false unit.nodes (entries_up_to unit index) made.1;
      few_ops = ltb-false (16 * unit.nodes) (ops_up_to unit index) back.0.0;
    }

pub functions_are_bounded : FunctionsAreBounded
unfolding rows_of_functions
functions_are_bounded unit index function e is =
    let found = clear_item (function_rows unit) function_bytes 0 (functions_at Two unit + 4) unit.functions index function (clear_functions unit e) is in
    let same : 0 + index ≡ index = omega arith in
    bounded unit index found.0 function (subst (λ (k : ℕ). AreClear (function_rows unit k found.0 function)) same found.1)
