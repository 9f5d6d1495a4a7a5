-- Heights: how many words are on the stack before and behind each operation of a function, by one pass from 0 at the first.
use Rattle.std.specs.Prelude.{ℕ, ◌+◌, ◌-◌, Bool, true, false, List, [], ◌∷◌, Option, Some, None, if◌then◌else◌}
use Rattle.c_ops.specs.Primitives.{arguments_of}
use Rattle.fat_code.specs.declared.op.Op.{Op}
use Rattle.fat_code.specs.declared.op.Op.TheVariants as op

-- how many words an operation takes
abbrev pub taken : Op → ℕ
taken (op.Label height) = 0
taken (op.Jump to) = 0
taken (op.JumpZero to) = 1
taken (op.JumpCase value to) = 1
taken (op.Number value) = 0
taken (op.Symbol symbol offset) = 0
taken (op.Object object offset) = 0
taken (op.SlotGet slot) = 0
taken (op.SlotSet slot) = 1
taken (op.Entry entry) = 0
taken (op.Load width is_signed shape member) = 1
taken (op.Store width shape member) = 2
taken (op.Binary binary) = 2
taken (op.Unary unary) = 1
taken (op.Narrow width is_signed) = 1
taken (op.Cast shape) = 1
taken (op.Copy size) = 2
taken (op.Clear size) = 1
taken op.Duplicate = 1
taken op.Swap = 2
taken op.Drop = 1
taken (op.Call arguments) = arguments + 1
taken (op.Primitive primitive) = arguments_of primitive
taken op.Return = 1

-- and how many it leaves in their place
abbrev pub given : Op → ℕ
given (op.Label height) = 0
given (op.Jump to) = 0
given (op.JumpZero to) = 0
given (op.JumpCase value to) = 1
given (op.Number value) = 1
given (op.Symbol symbol offset) = 1
given (op.Object object offset) = 1
given (op.SlotGet slot) = 1
given (op.SlotSet slot) = 1
given (op.Entry entry) = 1
given (op.Load width is_signed shape member) = 1
given (op.Store width shape member) = 1
given (op.Binary binary) = 1
given (op.Unary unary) = 1
given (op.Narrow width is_signed) = 1
given (op.Cast shape) = 1
given (op.Copy size) = 1
given (op.Clear size) = 0
given op.Duplicate = 2
given op.Swap = 2
given op.Drop = 0
given (op.Call arguments) = 1
given (op.Primitive primitive) = 1
given op.Return = 0

-- the next operation follows
abbrev pub goes_on : Op → Bool
goes_on (op.Jump to) = false
goes_on op.Return = false
goes_on _ = true

-- The height before an operation, where the one before it leaves this height, or none where it does not go on. A label has its
-- own.
abbrev pub height_at : (reached : Option ℕ) → Op → ℕ
height_at reached (op.Label height) = height
height_at None _ = 0
height_at (Some height) _ = height

abbrev pub height_behind : (reached : Option ℕ) → Op → ℕ
height_behind reached this = height_at reached this - taken this + given this

-- what is reached behind an operation
abbrev pub reached_behind : (reached : Option ℕ) → Op → Option ℕ
reached_behind reached this = if goes_on this then Some (height_behind reached this) else None

-- the heights before each operation
abbrev pub heights_from : (reached : Option ℕ) → List Op → List ℕ
heights_from reached [] = []
heights_from reached (this ∷ ops) = height_at reached this ∷ heights_from (reached_behind reached this) ops

unfoldable pub heights_of : List Op → List ℕ
heights_of ops = heights_from (Some 0) ops
