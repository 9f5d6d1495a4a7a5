-- The table of a unit's faults, walked along from one part to the next.
use Rattle.std.proofs.Common.{◌≡◌, ℕ, ◌+◌, List, ◌++◌, None, Result, subst, ap, ◌∙◌}
use Rattle.c_types.specs.declared.node.TypeNode.{TypeNode}
use Rattle.fat_code.specs.declared.fault.CheckNo.{CheckNo}
use Rattle.fat_code.specs.declared.fault.Version.{Version}
use Rattle.fat_code.specs.declared.unit.FatParts.{FatParts}
use Rattle.fat_code.specs.Faults.{table_of}
use Rattle.fat_code.specs.Lengths.{types_at, shapes_at, symbols_at, functions_at, objects_at, file_bytes, list_bytes, node_bytes, shape_bytes, symbol_bytes, function_bytes, object_bytes}
use Rattle.fat_code.specs.Rows.{Row, first_fault}
use Rattle.fat_code.specs.TypeRows.{type_rows}
use Rattle.fat_code.specs.UnitRows.{rows_of_shapes, rows_of_symbols, rows_of_objects}
use Rattle.fat_code.specs.FunctionRows.{rows_of_functions}
use Rattle.fat_code.specs.Walking.{IsFirst, Checks}
use Rattle.fat_code.proofs.Walks.{first_front, first_behind, none_joined, checks_behind}

-- ---- the parts so far

abbrev types_rows : Version → FatParts → List Row
types_rows version unit = type_rows version types_at unit.types

abbrev to_shapes : Version → FatParts → List Row
to_shapes version unit = types_rows version unit ++ rows_of_shapes unit (shapes_at version unit)

abbrev to_symbols : Version → FatParts → List Row
to_symbols version unit = to_shapes version unit ++ rows_of_symbols unit (symbols_at version unit)

abbrev to_functions : Version → FatParts → List Row
to_functions version unit = to_symbols version unit ++ rows_of_functions unit (functions_at version unit)

-- the walk stands behind them, and none of their rows holds
pub record IsPastTypes (version : Version) (unit : FatParts) (at : ℕ) : Type 0 where
  pub place : at ≡ shapes_at version unit
  pub clear : first_fault (types_rows version unit) ≡ None

pub record IsPastShapes (version : Version) (unit : FatParts) (at : ℕ) : Type 0 where
  pub place : at ≡ symbols_at version unit
  pub clear : first_fault (to_shapes version unit) ≡ None

pub record IsPastSymbols (version : Version) (unit : FatParts) (at : ℕ) : Type 0 where
  pub place : at ≡ functions_at version unit
  pub clear : first_fault (to_symbols version unit) ≡ None

pub record IsPastFunctions (version : Version) (unit : FatParts) (at : ℕ) : Type 0 where
  pub place : at ≡ objects_at version unit
  pub clear : first_fault (to_functions version unit) ≡ None

pub past_types : (version : Version) (unit : FatParts) (types : List TypeNode) (at : ℕ) → types ≡ unit.types
    → at ≡ 8 + list_bytes (node_bytes version) types → first_fault (type_rows version 8 types) ≡ None → IsPastTypes version unit at
past_types version unit types at same place none = record {
  place = place ∙ ap (λ (xs : List TypeNode). 8 + list_bytes (node_bytes version) xs) same;
  clear = subst (λ (xs : List TypeNode). first_fault (type_rows version 8 xs) ≡ None) same none;
}

pub past_shapes : (version : Version) (unit : FatParts) (before at : ℕ) → IsPastTypes version unit before
    → at ≡ before + list_bytes shape_bytes unit.shapes → first_fault (rows_of_shapes unit before) ≡ None → IsPastShapes version unit at
past_shapes version unit before at past place none = record {
  place = place ∙ ap (λ (x : ℕ). x + list_bytes shape_bytes unit.shapes) past.place;
  clear = none_joined (types_rows version unit) (rows_of_shapes unit (shapes_at version unit)) past.clear
      (subst (λ (x : ℕ). first_fault (rows_of_shapes unit x) ≡ None) past.place none);
}

pub past_symbols : (version : Version) (unit : FatParts) (before at : ℕ) → IsPastShapes version unit before
    → at ≡ before + list_bytes symbol_bytes unit.symbols → first_fault (rows_of_symbols unit before) ≡ None → IsPastSymbols version unit at
past_symbols version unit before at past place none = record {
  place = place ∙ ap (λ (x : ℕ). x + list_bytes symbol_bytes unit.symbols) past.place;
  clear = none_joined (to_shapes version unit) (rows_of_symbols unit (symbols_at version unit)) past.clear
      (subst (λ (x : ℕ). first_fault (rows_of_symbols unit x) ≡ None) past.place none);
}

pub past_functions : (version : Version) (unit : FatParts) (before at : ℕ) → IsPastSymbols version unit before
    → at ≡ before + list_bytes function_bytes unit.functions → first_fault (rows_of_functions unit before) ≡ None → IsPastFunctions version unit at
past_functions version unit before at past place none = record {
  place = place ∙ ap (λ (x : ℕ). x + list_bytes function_bytes unit.functions) past.place;
  clear = none_joined (to_symbols version unit) (rows_of_functions unit (functions_at version unit)) past.clear
      (subst (λ (x : ℕ). first_fault (rows_of_functions unit x) ≡ None) past.place none);
}

-- ---- a fault in one of them

pub types_refused : (version : Version) (unit : FatParts) (refusal : CheckNo) → IsFirst (types_rows version unit) refusal → IsFirst (table_of version unit) refusal
unfolding table_of
types_refused version unit refusal first =
    first_front (to_functions version unit) (rows_of_objects unit (objects_at version unit)) refusal
    (first_front (to_symbols version unit) (rows_of_functions unit (functions_at version unit)) refusal
    (first_front (to_shapes version unit) (rows_of_symbols unit (symbols_at version unit)) refusal
    (first_front (types_rows version unit) (rows_of_shapes unit (shapes_at version unit)) refusal first)))

pub shapes_refused : (version : Version) (unit : FatParts) (at : ℕ) (refusal : CheckNo) → IsPastTypes version unit at
    → IsFirst (rows_of_shapes unit at) refusal → IsFirst (table_of version unit) refusal
unfolding table_of
shapes_refused version unit at refusal past first =
    first_front (to_functions version unit) (rows_of_objects unit (objects_at version unit)) refusal
    (first_front (to_symbols version unit) (rows_of_functions unit (functions_at version unit)) refusal
    (first_front (to_shapes version unit) (rows_of_symbols unit (symbols_at version unit)) refusal
    (first_behind (types_rows version unit) (rows_of_shapes unit (shapes_at version unit)) refusal past.clear
    (subst (λ (x : ℕ). IsFirst (rows_of_shapes unit x) refusal) past.place first))))

pub symbols_refused : (version : Version) (unit : FatParts) (at : ℕ) (refusal : CheckNo) → IsPastShapes version unit at
    → IsFirst (rows_of_symbols unit at) refusal → IsFirst (table_of version unit) refusal
unfolding table_of
symbols_refused version unit at refusal past first =
    first_front (to_functions version unit) (rows_of_objects unit (objects_at version unit)) refusal
    (first_front (to_symbols version unit) (rows_of_functions unit (functions_at version unit)) refusal
    (first_behind (to_shapes version unit) (rows_of_symbols unit (symbols_at version unit)) refusal past.clear
    (subst (λ (x : ℕ). IsFirst (rows_of_symbols unit x) refusal) past.place first)))

pub functions_refused : (version : Version) (unit : FatParts) (at : ℕ) (refusal : CheckNo) → IsPastSymbols version unit at
    → IsFirst (rows_of_functions unit at) refusal → IsFirst (table_of version unit) refusal
unfolding table_of
functions_refused version unit at refusal past first =
    first_front (to_functions version unit) (rows_of_objects unit (objects_at version unit)) refusal
    (first_behind (to_symbols version unit) (rows_of_functions unit (functions_at version unit)) refusal past.clear
    (subst (λ (x : ℕ). IsFirst (rows_of_functions unit x) refusal) past.place first))

pub objects_checked : (version : Version) (unit : FatParts) (at : ℕ) (result : Result ℕ CheckNo) → IsPastFunctions version unit at
    → Checks (rows_of_objects unit at) (at + list_bytes object_bytes unit.objects) result → Checks (table_of version unit) (file_bytes version unit) result
unfolding table_of
objects_checked version unit at result past checks =
    checks_behind (to_functions version unit) (rows_of_objects unit (objects_at version unit)) (file_bytes version unit) result past.clear
    (subst (λ (x : ℕ). Checks (rows_of_objects unit x) (x + list_bytes object_bytes unit.objects) result) past.place checks)
