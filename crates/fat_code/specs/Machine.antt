-- The fat machine: what each operation does, what is watched of it, and whole runs.
use Rattle.std.specs.Prelude.{ℕ, ◌+◌, ◌-◌, ◌*◌, ◌==◌, if◌then◌else◌, true, false, List, [], ◌∷◌, length, slice_get, Option, Some, None}
use Rattle.fsc_base.specs.declared.word.Word.{Word}
use Rattle.fsc_base.specs.declared.word.WordKind.{WordKind}
use Rattle.fsc_base.specs.declared.end.End.TheVariants as end
use Rattle.c_memory.specs.Blocks.{Heap}
use Rattle.c_memory.specs.Access.{read_of, write_of}
use Rattle.c_memory.specs.Addresses.{address_of}
use Rattle.c_memory.specs.Making.{is_fitting}
use Rattle.c_memory.specs.Storage.{created}
use Rattle.c_memory.specs.declared.kind.BlockKind.TheVariants as maker
use Rattle.c_ops.specs.declared.primitive.Primitive.{Primitive}
use Rattle.c_ops.specs.declared.primitive.Primitive.TheVariants as primitive
use Rattle.c_ops.specs.Bits.{narrowed_to}
use Rattle.c_ops.specs.Operators.{binary_of, unary_of}
use Rattle.c_ops.specs.Words.{plain, sum_of}
use Rattle.c_ops.specs.Runs.{Action, Stops, At}
use Rattle.c_shapes.specs.Watch.{Watch, made, casted, copied}
use Rattle.c_shapes.specs.Away.{watched_access, extra_shape}
use Rattle.c_shapes.specs.Runs.{Seen, watched_run, watch_of}
use Rattle.fat_code.specs.declared.op.Op.{Op}
use Rattle.fat_code.specs.declared.op.Op.TheVariants as op
use Rattle.fat_code.specs.declared.program.ProgramParts.{ProgramParts}
use Rattle.fat_code.specs.States.{Making, Extra, Entry, FatFrame, FatState, symbol_address, object_address, kinds_of, start_seen}
use Rattle.fat_code.specs.Operations.{popped, popped_two, goes, at_op, with_slot, slot_of, operates, loads, stores, clears, copies}
use Rattle.fat_code.specs.Calls.{calls, made_for, returns}
use Rattle.fat_code.specs.Primitives.{performs}

-- ---- operations

-- an address that is so many bytes further on
abbrev pub behind : Word → (offset : ℕ) → Word
behind at offset = sum_of at (plain offset)

-- the address of an entry block, which stands behind that of the extra words
abbrev pub entry_block : FatFrame → (entry : ℕ) → ℕ
entry_block frame entry = frame.first + entry + (if frame.is_variadic then 1 else 0)

abbrev pub entry_address : FatState → (entry : ℕ) → Word
entry_address s entry = address_of s.heap (entry_block s.frame entry)

-- the same operation comes again
abbrev pub again : FatState → FatState
again s = at_op (s.frame.pc - 1) s

-- One clause an operation: by the words that it finds, and the state whose next operation is the one behind it.
unfoldable pub does : ProgramParts → Op → List Word → FatState → Action FatState
does p (op.Label height) words s = goes s words
does p (op.Jump to) words s = goes (at_op to s) words
does p (op.JumpZero to) words s = popped words (λ word rest. goes (if word.value == 0 then at_op to s else s) rest)
does p (op.JumpCase value to) words s = popped words (λ word rest. goes (if word.value == value then at_op to s else s) words)
does p (op.Number value) words s = goes s (plain value ∷ words)
does p (op.Symbol symbol offset) words s = goes s (behind (symbol_address p s.heap s.frame.unit symbol) offset ∷ words)
does p (op.Object object offset) words s = goes s (behind (object_address p s.heap s.frame.unit object) offset ∷ words)
does p (op.SlotGet slot) words s = goes s (slot_of s slot ∷ words)
does p (op.SlotSet slot) words s = popped words (λ word rest. goes (with_slot slot word s) words)
does p (op.Entry entry) words s = goes s (entry_address s entry ∷ words)
does p (op.Load width is_signed shape member) words s =
    popped words (λ at rest. loads s rest (narrowed_to width is_signed) (read_of s.heap at width))
does p (op.Store width shape member) words s =
    popped_two words (λ word at rest. stores 0 s (word ∷ rest) (write_of s.heap at width word))
does p (op.Binary binary) words s = popped_two words (λ right left rest. operates s rest (binary_of binary left right))
does p (op.Unary unary) words s = popped words (λ word rest. goes s (unary_of unary word ∷ rest))
does p (op.Narrow width is_signed) words s = popped words (λ word rest. goes s (narrowed_to width is_signed word ∷ rest))
does p (op.Cast shape) words s = goes s words
does p (op.Copy size) words s = popped_two words (λ from to rest. copies s (to ∷ rest) to from size)
does p (op.Clear size) words s = popped words (λ at rest. clears s rest at size)
does p op.Duplicate words s = popped words (λ word rest. goes s (word ∷ words))
does p op.Swap words s = popped_two words (λ last other rest. goes s (other ∷ last ∷ rest))
does p op.Drop words s = popped words (λ word rest. goes s rest)
does p (op.Call arguments) words s = calls p arguments words s
does p (op.Primitive primitive) words s = performs primitive words s
does p op.Return words s = popped words (λ word rest. returns word (again s) s s.frame.live)

-- ---- steps

-- the next operation is the one behind
abbrev pub moved_on : FatState → FatState
moved_on s = at_op (s.frame.pc + 1) s

-- the operation that comes next; there always is one
abbrev pub operation_at : FatState → Option Op
operation_at s = slice_get s.frame.ops s.frame.pc

abbrev pub does_at : ProgramParts → FatState → Option Op → Action FatState
does_at p s None = Stops end.Abort
does_at p s (Some this) = does p this s.words (moved_on s)

-- a block that is still to be made comes first
abbrev pub steps_by : ProgramParts → FatState → List Making → Action FatState
steps_by p s [] = does_at p s (operation_at s)
steps_by p s (first ∷ rest) = made_for first s rest

-- what a state does next
unfoldable pub fat_action : ProgramParts → FatState → Action FatState
fat_action p s = steps_by p s s.frame.making

-- ---- what is watched

-- a block that does not fit is not made
abbrev pub watched_making : Heap → (larger : Heap) → Option (List WordKind) → Watch → Watch
watched_making heap larger shape watch = if is_fitting larger then made watch shape else watch

abbrev pub watched_block : Making → FatState → Watch → Watch
watched_block (Extra words) s watch = watched_making s.heap (created s.heap (4 * length words) maker.Entry) (Some extra_shape) watch
watched_block (Entry size kinds) s watch = watched_making s.heap (created s.heap size maker.Entry) (Some kinds) watch

abbrev pub watched_primitive : Primitive → List Word → FatState → Watch → Watch
watched_primitive primitive.Alloc (size ∷ words) s watch = watched_making s.heap (created s.heap size.value maker.Alloc) None watch
watched_primitive primitive.Copy (size ∷ (from ∷ (to ∷ words))) s watch = copied s.heap watch to from size.value
watched_primitive _ words s watch = watch

-- the operations that access, convert, copy or make a block
unfoldable pub watched_op : ProgramParts → Op → List Word → FatState → Watch → Watch
watched_op p (op.Load width is_signed shape member) (at ∷ words) s watch =
    watched_access s.heap watch at width member (kinds_of p s.frame.unit shape) false
watched_op p (op.Store width shape member) (word ∷ (at ∷ words)) s watch =
    watched_access s.heap watch at width member (kinds_of p s.frame.unit shape) true
watched_op p (op.Cast shape) (word ∷ words) s watch = casted s.heap watch word (kinds_of p s.frame.unit shape)
watched_op p (op.Copy size) (from ∷ (to ∷ words)) s watch = copied s.heap watch to from size
watched_op p (op.Primitive primitive) words s watch = watched_primitive primitive words s watch
watched_op p _ words s watch = watch

abbrev pub watched_at : ProgramParts → FatState → Option Op → Watch → Watch
watched_at p s None watch = watch
watched_at p s (Some this) watch = watched_op p this s.words s watch

abbrev pub watched_by : ProgramParts → FatState → List Making → Watch → Watch
watched_by p s [] watch = watched_at p s (operation_at s) watch
watched_by p s (first ∷ rest) watch = watched_block first s watch

-- what a step from a state leaves of the watch, also the one that ends the run
unfoldable pub fat_watched : ProgramParts → FatState → Watch → Watch
fat_watched p s watch = watched_by p s s.frame.making watch

-- ---- runs

-- The run of a program on an input, as far as it comes at a cost: what it wrote by then, what is left of its input, its state and
-- its end; and the shapes of its blocks and the number of its away accesses.
unfoldable pub FatRun : ProgramParts → (input : List ℕ) → (cost : ℕ) → At (Seen FatState)
FatRun p input cost = watched_run (fat_action p) (fat_watched p) cost (start_seen p) input

abbrev pub fat_watch : ProgramParts → (input : List ℕ) → (cost : ℕ) → Watch
fat_watch p input cost = watch_of (fat_watched p) (FatRun p input cost)
