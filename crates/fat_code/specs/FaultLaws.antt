-- Units with a fault and without, and what is told of each.
use Rattle.std.specs.Prelude.{◌≡◌, ℕ, List, [], ◌∷◌, ◌++◌, map, codes, Option, Some, None, true, false}
use Rattle.fsc_base.specs.declared.word.Width.TheVariants.{Four}
use Rattle.fsc_base.specs.declared.word.WordKind.TheVariants.{Fat, Narrow}
use Rattle.c_ops.specs.declared.linkage.Linkage.TheVariants.{External}
use Rattle.c_ops.specs.declared.linkage.Definition.TheVariants as definition
use Rattle.c_ops.specs.declared.operators.Binary.TheVariants as binary
use Rattle.c_types.specs.declared.node.Field.{Field}
use Rattle.c_types.specs.declared.node.TypeNode.{TypeNode}
use Rattle.c_types.specs.declared.node.TypeNode.TheVariants as node
use Rattle.c_types.specs.Nodes.{presets}
use Rattle.fat_code.specs.declared.fault.UnitFault.{UnitFault}
use Rattle.fat_code.specs.declared.fault.UnitFault.TheVariants.{Index, Limit, Height}
use Rattle.fat_code.specs.declared.fault.Version.TheVariants as version
use Rattle.fat_code.specs.declared.op.Op.{Op}
use Rattle.fat_code.specs.declared.op.Op.TheVariants as op
use Rattle.fat_code.specs.declared.unit.FatFunction.{FatFunction}
use Rattle.fat_code.specs.declared.unit.FatObject.{FatObject}
use Rattle.fat_code.specs.declared.unit.FatParts.{FatParts}
use Rattle.fat_code.specs.declared.unit.FatSymbol.{FatSymbol}
use Rattle.fat_code.specs.declared.unit.FatValue.TheVariants as value
use Rattle.fat_code.specs.Faults.{fault_of}
use Rattle.fat_code.specs.Heights.{heights_of}

-- ---- units

-- a unit without anything: its file has 28 bytes
abbrev pub nothing : FatParts
nothing = record { nodes = 0; types = []; shapes = []; symbols = []; functions = []; objects = [] }

-- a function without parameters, with two slots
abbrev pub function_of : List Op → FatFunction
function_of ops = record { parameters = 0; slots = 2; is_variadic = false; entries = []; ops = ops }

-- main, of type 10, which the unit does not use
abbrev pub main_symbol : FatSymbol
main_symbol = record { name = codes "main"; linkage = External; kind = 10; used = false; definition = definition.Function 0 }

-- A unit with the function main of these operations. In its file the types stand at 8, the shapes at 108, the symbols at 128, the
-- functions at 160, the operations of main behind their count at 180, and the objects behind them.
abbrev pub unit_of : List Op → FatParts
unit_of ops = record {
  nodes = 4;
  types = presets ++ (node.Function 6 true [] false ∷ []);
  shapes = (Narrow ∷ []) ∷ (Fat ∷ []) ∷ [];
  symbols = main_symbol ∷ [];
  functions = function_of ops ∷ [];
  objects = [];
}

-- ---- the code of small functions

-- int main(void){return 7;}: behind the return stands what comes where a function falls off its end
abbrev pub returns_seven : List Op
returns_seven = op.Number 7 ∷ op.Return ∷ op.Label 0 ∷ op.Number 0 ∷ op.Return ∷ []

-- return a+b; with a and b in slots 0 and 1
abbrev pub returns_sum : List Op
returns_sum = op.SlotGet 0 ∷ op.SlotGet 1 ∷ op.Binary binary.Add ∷ op.Return ∷ op.Label 0 ∷ op.Number 0 ∷ op.Return ∷ []

-- return a?1:2;
abbrev pub returns_choice : List Op
returns_choice =
    op.SlotGet 0 ∷ op.JumpZero 4 ∷ op.Number 1 ∷ op.Jump 6 ∷ op.Label 0 ∷ op.Number 2 ∷ op.Label 1 ∷ op.Return ∷ op.Label 0 ∷ op.Number 0
    ∷ op.Return ∷ []

-- their heights, and that they have no fault
abbrev pub HeightsOfCode : Type 0
HeightsOfCode =
    (heights_of returns_seven ≡ 0 ∷ 1 ∷ 0 ∷ 0 ∷ 1 ∷ []) × (heights_of returns_sum ≡ 0 ∷ 1 ∷ 2 ∷ 1 ∷ 0 ∷ 0 ∷ 1 ∷ [])
    × (heights_of returns_choice ≡ 0 ∷ 1 ∷ 0 ∷ 1 ∷ 0 ∷ 0 ∷ 1 ∷ 1 ∷ 0 ∷ 0 ∷ 1 ∷ [])

-- ---- tables of units and their faults

pub record Case : Type 0 where
  pub unit : FatParts
  pub answer : Option (UnitFault × ℕ)

abbrev pub sound : FatParts → Case
sound unit = record { unit = unit; answer = None }

abbrev pub faulty : FatParts → UnitFault → (offset : ℕ) → Case
faulty unit fault offset = record { unit = unit; answer = Some (fault, offset) }

-- the faults of the units, in files of version 2, are those that the table tells
abbrev pub AreTold : List Case → Type 0
AreTold cases = map (λ (case : Case). fault_of version.Two case.unit) cases ≡ map (λ (case : Case). case.answer) cases

-- units without faults; in a file of version 1 too
abbrev pub SoundUnits : Type 0
SoundUnits =
    AreTold (sound nothing ∷ sound (unit_of returns_seven) ∷ sound (unit_of returns_sum) ∷ sound (unit_of returns_choice) ∷ [])
    × (fault_of version.One nothing ≡ None) × (fault_of version.One (unit_of returns_seven) ≡ None)

-- ---- faults of types

abbrev pub with_types : List TypeNode → FatParts
with_types types = record nothing { types = types }

-- struct s or union s with one member of type int, the first type of the table, as a bit-field or not
abbrev pub member_of : (first count : ℕ) → Field
member_of first count = record { name = codes "a"; kind = 6; first = first; count = count }

abbrev pub struct_of : List Field → FatParts
struct_of fields = with_types (presets ++ (node.Struct (record { tag = codes "s"; is_complete = true; fields = fields }) ∷ []))

abbrev pub union_of : List Field → FatParts
union_of fields = with_types (presets ++ (node.Union (record { tag = codes "s"; is_complete = true; fields = fields }) ∷ []))

-- A pointer to a type that is not there, and one to itself. The members of the struct that stands behind the ten first types are at
-- 105; the numbers of the first are at 114 and 118.
abbrev pub TypeFaults : Type 0
TypeFaults = AreTold
    (faulty (with_types (node.Pointer 5 ∷ [])) Index 16
    ∷ faulty (with_types (node.Pointer 0 ∷ [])) Index 16
    ∷ sound (struct_of (member_of 0 32 ∷ []))
    ∷ faulty (struct_of (member_of 0 33 ∷ [])) Limit 114
    ∷ faulty (struct_of (member_of 3 5 ∷ [])) Limit 114
    ∷ sound (struct_of (member_of 0 3 ∷ member_of 3 5 ∷ []))
    ∷ faulty (struct_of (record (member_of 0 3) { kind = 1 } ∷ [])) Limit 118
    ∷ faulty (struct_of (record (member_of 0 0) { kind = 11 } ∷ [])) Index 110
    ∷ faulty (union_of (member_of 0 3 ∷ member_of 3 5 ∷ [])) Limit 131
    ∷ [])

-- ---- faults of shapes, symbols and functions

-- Kinds that are not in their least period, and three shapes where there are no struct types; a symbol without a type, and of a
-- function that is not there; and the numbers of a function.
abbrev pub HeadFaults : Type 0
HeadFaults =
    let seven = unit_of returns_seven in
    AreTold
    (faulty (record seven { shapes = (Fat ∷ Fat ∷ []) ∷ [] }) Index 112
    ∷ faulty (record seven { shapes = [] ∷ [] }) Index 112
    ∷ faulty (record seven { shapes = (Narrow ∷ []) ∷ (Fat ∷ []) ∷ (Narrow ∷ Fat ∷ []) ∷ [] }) Limit 108
    ∷ faulty (record seven { symbols = record main_symbol { kind = 11 } ∷ [] }) Index 144
    ∷ faulty (record seven { symbols = record main_symbol { definition = definition.Function 1 } ∷ [] }) Index 156
    ∷ faulty (record seven { functions = record (function_of returns_seven) { parameters = 3 } ∷ [] }) Limit 164
    ∷ faulty (record seven { functions = record (function_of returns_seven) { slots = 256 } ∷ [] }) Limit 168
    ∷ faulty (record seven { nodes = 0; functions = record (function_of returns_seven) { entries = record { size = 4; shape = 1 } ∷ [] } ∷ [] }) Limit 176
    ∷ faulty (record seven { functions = record (function_of returns_seven) { entries = record { size = 4; shape = 2 } ∷ [] } ∷ [] }) Index 184
    ∷ faulty (record seven { nodes = 0 }) Limit 180
    ∷ [])

-- ---- faults of operations

-- The first operation of main stands at 184, and its first number at 188.
abbrev pub OpFaults : Type 0
OpFaults = AreTold
    (faulty (unit_of []) Height 180
    ∷ faulty (unit_of (op.Number 7 ∷ [])) Height 184
    ∷ faulty (unit_of (op.Drop ∷ op.Return ∷ [])) Height 184
    ∷ faulty (unit_of (op.Number 7 ∷ op.Return ∷ op.Number 0 ∷ op.Return ∷ [])) Height 192
    ∷ faulty (unit_of (op.Number 7 ∷ op.Label 0 ∷ op.Return ∷ [])) Height 192
    ∷ faulty (unit_of (op.Number 7 ∷ op.JumpZero 0 ∷ op.Jump 0 ∷ [])) Index 196
    ∷ faulty (unit_of (op.Number 7 ∷ op.Jump 2 ∷ op.Label 0 ∷ op.Jump 2 ∷ [])) Height 192
    ∷ faulty (unit_of (op.SlotGet 2 ∷ op.Return ∷ [])) Index 188
    ∷ faulty (unit_of (op.Entry 0 ∷ op.Return ∷ [])) Index 188
    ∷ faulty (unit_of (op.Symbol 0 0 ∷ op.Return ∷ [])) Index 188
    ∷ faulty (unit_of (op.Object 0 0 ∷ op.Return ∷ [])) Index 188
    ∷ faulty (unit_of (op.Number 7 ∷ op.Cast 2 ∷ op.Return ∷ [])) Index 196
    ∷ faulty (unit_of (op.Number 7 ∷ op.Load Four false 2 0 ∷ op.Return ∷ [])) Index 204
    ∷ faulty (unit_of (op.Jump 1 ∷ op.Label 256 ∷ op.Return ∷ [])) Height 184
    ∷ faulty (unit_of (op.Number 7 ∷ op.Return ∷ op.Label 256 ∷ op.Return ∷ [])) Limit 200
    ∷ faulty (unit_of (op.Number 7 ∷ op.Return ∷ op.Label 255 ∷ op.Duplicate ∷ op.Return ∷ [])) Limit 204
    ∷ [])

-- ---- faults of objects

abbrev pub with_object : FatObject → FatParts
with_object object = record (unit_of returns_seven) { objects = object ∷ [] }

abbrev pub object_of : (size shape offset : ℕ) → FatObject
object_of size shape offset = record { size = size; shape = shape; pieces = record { offset = offset; width = Four; value = value.Number 7 } ∷ [] }

-- The operations of main take 36 bytes; the objects stand behind them at 216, the first of them at 220, and its piece at 232.
abbrev pub ObjectFaults : Type 0
ObjectFaults = AreTold
    (sound (with_object (object_of 8 1 4))
    ∷ faulty (with_object (object_of 8 1 5)) Index 232
    ∷ faulty (with_object (object_of 8 2 4)) Index 224
    ∷ faulty (with_object (object_of 134217729 1 4)) Limit 220
    ∷ [])
