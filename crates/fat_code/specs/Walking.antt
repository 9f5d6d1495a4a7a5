-- What a walk along rows of faults gives: nothing, where none of them holds, or the first one that does.
use Rattle.std.specs.Prelude.{◌≡◌, ℕ, ◌+◌, ◌*◌, ◌==◌, nat_lt, ◌&&◌, ◌||◌, not, Bool, true, false, List, [], ◌∷◌, ◌++◌, length, take, drop, sum_by, Option, Some, None, Result, Ok, Err}
use Rattle.c_types.specs.declared.node.Field.{Field}
use Rattle.c_types.specs.declared.node.TypeNode.{TypeNode}
use Rattle.fat_code.specs.declared.fault.CheckNo.{CheckNo}
use Rattle.fat_code.specs.declared.fault.CheckNo.TheVariants.{Fault, NoMemory}
use Rattle.fat_code.specs.declared.fault.UnitFault.TheVariants.{Limit, Height}
use Rattle.fat_code.specs.declared.fault.Version.{Version}
use Rattle.fat_code.specs.declared.fault.Version.TheVariants.{One, Two}
use Rattle.fat_code.specs.declared.function_check.Counts.{Counts}
use Rattle.fat_code.specs.declared.op.Op.{Op}
use Rattle.fat_code.specs.declared.unit.FatFunction.{FatFunction}
use Rattle.fat_code.specs.declared.unit.FatParts.{FatParts}
use Rattle.fat_code.specs.Heights.{goes_on}
use Rattle.fat_code.specs.Lengths.{name_bytes, entry_bytes, op_bytes}
use Rattle.fat_code.specs.Rows.{Row, row, index_row, limit_row, first_fault, rows_from, rows_of_list}
use Rattle.fat_code.specs.TypeRows.{bit_rows}
use Rattle.fat_code.specs.OpRows.{label_of, is_wrong_label, is_short, is_wrong_jump, is_high, ops_from, op_rows}
use Rattle.fat_code.specs.FunctionRows.{head_rows, entry_rows, ops_at}

-- a fault that is told is the first; want of memory tells nothing
abbrev pub IsFirst : List Row → CheckNo → Type 0
IsFirst rows (Fault fault offset) = first_fault rows ≡ Some (fault, offset)
IsFirst rows NoMemory = Unit {0}

abbrev pub Clears : {T : Type 0} → List Row → Result T CheckNo → Type 0
Clears rows (Ok done) = first_fault rows ≡ None
Clears rows (Err refusal) = IsFirst rows refusal

-- the offset behind the rows is given besides
abbrev pub Checks : List Row → (behind : ℕ) → Result ℕ CheckNo → Type 0
Checks rows behind (Ok at) = (at ≡ behind) × (first_fault rows ≡ None)
Checks rows behind (Err refusal) = IsFirst rows refusal

-- A walk along a list has come to the item with an index, at an offset: the fault of the list, which starts at another offset, is
-- that of the rest.
pub record HasWalked {T : Type 0} (rows : (index at : ℕ) → T → List Row) (bytes : T → ℕ) (items : List T) (start index at : ℕ) : Type 0 where
  pub same : first_fault (rows_from rows bytes 0 start items) ≡ first_fault (rows_from rows bytes index at (drop index items))
  pub place : start + sum_by bytes items ≡ at + sum_by bytes (drop index items)

-- ---- members, beside the one before

abbrev pub bit_bytes : Version → ℕ
bit_bytes One = 0
bit_bytes Two = 8

abbrev pub rows_of_member : Version → List TypeNode → (is_union : Bool) → Option Field → (at : ℕ) → Field → List Row
rows_of_member version types is_union before at field =
    let kind_at = at + name_bytes field.name in
    index_row field.kind (length types) kind_at ∷ bit_rows version types is_union before field (kind_at + 4)

-- ---- operations, beside the next one

abbrev pub is_wrong_end_by : Op → Option Op → Bool
is_wrong_end_by this None = goes_on this
is_wrong_end_by this (Some next) = not (goes_on this) && elim (label_of next) as (λ x. Bool) [ None ↦ true | Some height ↦ false ]

abbrev pub is_wrong_height_by : List Op → (reached : Option ℕ) → Op → Option Op → Bool
is_wrong_height_by ops reached this next =
    is_wrong_label reached this || (is_short reached this || (is_wrong_jump ops reached this || is_wrong_end_by this next))

abbrev pub height_rows_by : List Op → (reached : Option ℕ) → (at : ℕ) → Op → Option Op → List Row
height_rows_by ops reached at this next = row Limit (is_high reached this) at ∷ row Height (is_wrong_height_by ops reached this next) at ∷ []

-- a walk along the operations of a function has come to the one with an index, which is reached at a height
pub record HasWalkedOps (unit : FatParts) (function : FatFunction) (start index at : ℕ) (reached : Option ℕ) : Type 0 where
  pub same : first_fault (ops_from unit function (Some 0) start function.ops) ≡ first_fault (ops_from unit function reached at (drop index function.ops))
  pub place : start + sum_by op_bytes function.ops ≡ at + sum_by op_bytes (drop index function.ops)

-- ---- functions, beside the counts of those up to them

abbrev pub entries_rows_by : FatParts → (so_far at : ℕ) → FatFunction → List Row
entries_rows_by unit so_far at function =
    row Limit (nat_lt 255 (length function.entries) || nat_lt unit.nodes so_far) at ∷ rows_of_list (entry_rows unit) entry_bytes at function.entries

abbrev pub ops_rows_by : FatParts → (so_far at : ℕ) → FatFunction → List Row
ops_rows_by unit so_far at function =
    (limit_row (16 * unit.nodes) so_far at ∷ row Height (length function.ops == 0) at ∷ []) ++ op_rows unit function at

abbrev pub function_rows_by : FatParts → (entries ops at : ℕ) → FatFunction → List Row
function_rows_by unit entries ops at function =
    head_rows function at ++ entries_rows_by unit entries (at + 12) function ++ ops_rows_by unit ops (ops_at at function) function

-- the counts of the functions before one
pub record HasSummed (functions : List FatFunction) (index : ℕ) (counts : Counts) : Type 0 where
  pub entries : counts.entries ≡ sum_by (λ (function : FatFunction). length function.entries) (take index functions)
  pub ops : counts.ops ≡ sum_by (λ (function : FatFunction). length function.ops) (take index functions)

abbrev pub HasCounted : Counts → FatFunction → Result Counts CheckNo → Type 0
HasCounted counts function (Ok more) = (more.entries ≡ counts.entries + length function.entries) × (more.ops ≡ counts.ops + length function.ops)
HasCounted counts function (Err refusal) = refusal ≡ NoMemory
