-- What a unit without faults is bound by.
use Rattle.std.specs.Prelude.{◌≡◌, ℕ, ◌+◌, ◌*◌, ◌≤◌, List, length, slice_get, Some, true}
use Rattle.fsc_base.specs.declared.word.WordKind.{WordKind}
use Rattle.fat_code.specs.declared.unit.FatFunction.{FatFunction}
use Rattle.fat_code.specs.declared.unit.FatParts.{FatParts}
use Rattle.fat_code.specs.Faults.{IsFaultless}
use Rattle.fat_code.specs.FunctionRows.{ops_up_to, entries_up_to}
use Rattle.fat_code.specs.UnitRows.{is_shape, records_of}

-- the numbers of a function, and its share of the unit's operations and entry blocks
pub record IsBounded (unit : FatParts) (index : ℕ) (function : FatFunction) : Type 0 where
  pub parameters : function.parameters ≤ 64
  pub passed : function.parameters ≤ function.slots
  pub slots : function.slots ≤ 255
  pub entries : length function.entries ≤ 255
  pub few_entries : entries_up_to unit index ≤ unit.nodes
  pub few_ops : ops_up_to unit index ≤ 16 * unit.nodes

abbrev pub FunctionsAreBounded : Type 0
FunctionsAreBounded = (unit : FatParts) (index : ℕ) (function : FatFunction) → IsFaultless unit → slice_get unit.functions index ≡ Some function → IsBounded unit index function

-- shapes are in their least period, and have at most 1,024 words
abbrev pub ShapesAreLeast : Type 0
ShapesAreLeast = (unit : FatParts) (index : ℕ) (kinds : List WordKind) → IsFaultless unit → slice_get unit.shapes index ≡ Some kinds
    → (is_shape kinds ≡ true) × (length kinds ≤ 1024)

-- there are no more than struct and union types, and two
abbrev pub ShapesAreFew : Type 0
ShapesAreFew = (unit : FatParts) → IsFaultless unit → length unit.shapes ≤ records_of unit + 2
