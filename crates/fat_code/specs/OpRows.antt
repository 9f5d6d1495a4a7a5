-- The faults of operations.
use Rattle.std.specs.Prelude.{ℕ, ◌+◌, ◌==◌, nat_lt, ◌&&◌, ◌||◌, not, Bool, true, false, List, [], ◌∷◌, ◌++◌, length, slice_get, Option, Some, None}
use Rattle.fat_code.specs.declared.fault.UnitFault.TheVariants.{Index, Limit, Height}
use Rattle.fat_code.specs.declared.op.Op.{Op}
use Rattle.fat_code.specs.declared.op.Op.TheVariants as op
use Rattle.fat_code.specs.declared.unit.FatFunction.{FatFunction}
use Rattle.fat_code.specs.declared.unit.FatParts.{FatParts}
use Rattle.fat_code.specs.declared.unit.FatSymbol.{FatSymbol}
use Rattle.fat_code.specs.Heights.{taken, goes_on, height_at, height_behind, reached_behind}
use Rattle.fat_code.specs.Lengths.{op_bytes}
use Rattle.fat_code.specs.Rows.{Row, row, index_row, limit_row}

-- ---- labels

-- the height that a label has
abbrev pub label_of : Op → Option ℕ
label_of (op.Label height) = Some height
label_of _ = None

abbrev pub label_in : Option Op → Option ℕ
label_in None = None
label_in (Some this) = label_of this

-- the height of the label that is the operation with an index
abbrev pub label_at : List Op → (index : ℕ) → Option ℕ
label_at ops index = label_in (slice_get ops index)

-- where an operation may jump to
abbrev pub target_of : Op → Option ℕ
target_of (op.Jump to) = Some to
target_of (op.JumpZero to) = Some to
target_of (op.JumpCase value to) = Some to
target_of _ = None

-- ---- heights

-- another height than the one that is known
abbrev pub differs : (known : Option ℕ) → (height : ℕ) → Bool
differs None height = false
differs (Some known) height = not (known == height)

-- a label has another height than the operation before it leaves
abbrev pub is_wrong_label : (reached : Option ℕ) → Op → Bool
is_wrong_label reached this = elim (label_of this) as (λ x. Bool) [ None ↦ false | Some height ↦ differs reached height ]

-- an operation finds too few words
abbrev pub is_short : (reached : Option ℕ) → Op → Bool
is_short reached this = nat_lt (height_at reached this) (taken this)

-- the label to which it jumps has another height
abbrev pub is_wrong_jump : List Op → (reached : Option ℕ) → Op → Bool
is_wrong_jump ops reached this =
    elim (target_of this) as (λ x. Bool) [ None ↦ false | Some to ↦ differs (label_at ops to) (height_behind reached this) ]

-- behind an operation that goes on stands another, and behind one that does not a label or the end
abbrev pub is_wrong_end : Op → (rest : List Op) → Bool
is_wrong_end this [] = goes_on this
is_wrong_end this (next ∷ rest) = not (goes_on this) && elim (label_of next) as (λ x. Bool) [ None ↦ true | Some height ↦ false ]

-- one of these
abbrev pub is_wrong_height : List Op → (reached : Option ℕ) → Op → (rest : List Op) → Bool
is_wrong_height ops reached this rest =
    is_wrong_label reached this || (is_short reached this || (is_wrong_jump ops reached this || is_wrong_end this rest))

-- the height behind an operation is above 255; a label's is told at its number
abbrev pub is_high : (reached : Option ℕ) → Op → Bool
is_high reached this = elim (label_of this) as (λ x. Bool) [ None ↦ nat_lt 255 (height_behind reached this) | Some height ↦ false ]

abbrev pub height_rows : List Op → (reached : Option ℕ) → (at : ℕ) → Op → (rest : List Op) → List Row
height_rows ops reached at this rest = row Limit (is_high reached this) at ∷ row Height (is_wrong_height ops reached this rest) at ∷ []

-- ---- numbers

-- a jump names no label
abbrev pub jump_row : List Op → (to at : ℕ) → Row
jump_row ops to at = row Index (elim (label_at ops to) as (λ x. Bool) [ None ↦ true | Some height ↦ false ]) at

-- a symbol that is not in the table, or that the unit does not use
abbrev pub is_used_in : Option FatSymbol → Bool
is_used_in None = false
is_used_in (Some symbol) = symbol.used

abbrev pub symbol_row : FatParts → (symbol at : ℕ) → Row
symbol_row unit symbol at = row Index (not (is_used_in (slice_get unit.symbols symbol))) at

abbrev pub object_row : FatParts → (object at : ℕ) → Row
object_row unit object at = index_row object (length unit.objects) at

abbrev pub shape_row : FatParts → (shape at : ℕ) → Row
shape_row unit shape at = index_row shape (length unit.shapes) at

-- the numbers of an operation that stands at an offset, behind its tag
abbrev pub number_rows : FatParts → FatFunction → (at : ℕ) → Op → List Row
number_rows unit function at (op.Label height) = limit_row 255 height (at + 4) ∷ []
number_rows unit function at (op.Jump to) = jump_row function.ops to (at + 4) ∷ []
number_rows unit function at (op.JumpZero to) = jump_row function.ops to (at + 4) ∷ []
number_rows unit function at (op.JumpCase value to) = jump_row function.ops to (at + 8) ∷ []
number_rows unit function at (op.Symbol symbol offset) = symbol_row unit symbol (at + 4) ∷ []
number_rows unit function at (op.Object object offset) = object_row unit object (at + 4) ∷ []
number_rows unit function at (op.SlotGet slot) = index_row slot function.slots (at + 4) ∷ []
number_rows unit function at (op.SlotSet slot) = index_row slot function.slots (at + 4) ∷ []
number_rows unit function at (op.Entry entry) = index_row entry (length function.entries) (at + 4) ∷ []
number_rows unit function at (op.Load width is_signed shape member) = shape_row unit shape (at + 12) ∷ []
number_rows unit function at (op.Store width shape member) = shape_row unit shape (at + 8) ∷ []
number_rows unit function at (op.Cast shape) = shape_row unit shape (at + 4) ∷ []
number_rows unit function at (op.Call arguments) = limit_row 64 arguments (at + 4) ∷ []
number_rows unit function at _ = []

-- ---- the operations of a function, the first of which stands at an offset

abbrev pub ops_from : FatParts → FatFunction → (reached : Option ℕ) → (at : ℕ) → List Op → List Row
ops_from unit function reached at [] = []
ops_from unit function reached at (this ∷ rest) =
    height_rows function.ops reached at this rest
    ++ (number_rows unit function at this ++ ops_from unit function (reached_behind reached this) (at + op_bytes this) rest)

-- the rows of a list of operations whose count stands at an offset; the first operation is reached at height 0
unfoldable pub op_rows : FatParts → FatFunction → (at : ℕ) → List Row
op_rows unit function at = ops_from unit function (Some 0) (at + 4) function.ops
