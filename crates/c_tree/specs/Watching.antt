-- What a run leaves of the shapes of blocks and of the count of away accesses, beside its states. It is read off the first row
-- and the words that it finds, before it acts; a row that neither accesses, nor converts, nor copies, nor makes a block changes
-- nothing. What ends the run before it acts changes nothing either, but an access that fails counts.
use Rattle.std.specs.Prelude.{ℕ, if◌then◌else◌, true, false, List, ◌∷◌, ◌++◌, ◌*◌, length, map, replicate, flat_map, Option, Some, None}
use Rattle.fsc_base.specs.declared.word.Word.{Word}
use Rattle.fsc_base.specs.declared.word.WordKind.{WordKind}
use Rattle.fsc_base.specs.declared.word.Width.TheVariants as width
use Rattle.c_memory.specs.declared.kind.BlockKind.{BlockKind}
use Rattle.c_memory.specs.declared.kind.BlockKind.TheVariants as maker
use Rattle.c_memory.specs.Blocks.{Heap}
use Rattle.c_memory.specs.Making.{is_fitting}
use Rattle.c_memory.specs.Storage.{created}
use Rattle.c_ops.specs.declared.primitive.Primitive.{Primitive}
use Rattle.c_ops.specs.declared.primitive.Primitive.TheVariants as primitive
use Rattle.c_ops.specs.Words.{plain}
use Rattle.c_shapes.specs.Watch.{Watch, made, casted, copied}
use Rattle.c_shapes.specs.Runs.{Seen, watched_run, watch_of}
use Rattle.c_shapes.specs.Away.{watched_access, extra_shape}
use Rattle.c_types.specs.Layouts.{kinds_of}
use Rattle.c_tree.specs.declared.expression.Access.{Access}
use Rattle.c_tree.specs.declared.expression.Access.TheVariants.{Scalar, Bits}
use Rattle.c_tree.specs.declared.unit.TypedObject.{TypedObject}
use Rattle.c_tree.specs.declared.unit.TypedUnit.{TypedUnit}
use Rattle.c_tree.specs.Rows.{Row, Todo, done, next, InMemory, Casts, Reads, Peeks, Stores, Combines, Increments, Writes, Copies, Performs, Initialises, CopiesIn, CopiesOut, MakesExtra, Makes, Fills, FillsRecord}
use Rattle.c_tree.specs.States.{State, Program, slot_of, entry_address}
use Rattle.c_tree.specs.Accesses.{width_of}
use Rattle.c_tree.specs.Operators.{combined}
use Rattle.c_tree.specs.Meaning.{place_in, action_of}

-- ---- accesses

-- the shape of a type of the activation's unit
abbrev pub shape_of : Program → State → (kind : ℕ) → List WordKind
shape_of p s kind = p.kinds s.frame.unit kind

abbrev pub read_at : Program → State → (kind member : ℕ) → Access → (at : Word) → Watch → Watch
read_at p s kind member access at watch = watched_access s.heap watch at (width_of access) member (shape_of p s kind) false

-- the first access of a store: to a bit-field it is the read of its unit
abbrev pub store_at : Program → State → (kind member : ℕ) → Access → (at : Word) → Watch → Watch
store_at p s kind member (Scalar width is_signed) at watch = watched_access s.heap watch at width member (shape_of p s kind) true
store_at p s kind member (Bits first count is_signed) at watch = watched_access s.heap watch at width.Four member (shape_of p s kind) false

-- the second access of a store to a bit-field
abbrev pub unit_at : Program → State → (kind member : ℕ) → (at : Word) → Watch → Watch
unit_at p s kind member at watch = watched_access s.heap watch at width.Four member (shape_of p s kind) true

-- an operator that gives nothing, as a division by zero, stores nothing
abbrev pub store_of : Program → State → (kind member : ℕ) → Access → (new : Option Word) → (at : Word) → Watch → Watch
store_of p s kind member access None at watch = watch
store_of p s kind member access (Some new) at watch = store_at p s kind member access at watch

-- ---- blocks

-- a block that does not fit is not made
abbrev pub making : Heap → (size : ℕ) → BlockKind → Option (List WordKind) → Watch → Watch
making heap size kind shape watch = if is_fitting (created heap size kind) then made watch shape else watch

-- ---- primitives

abbrev pub watched_primitive : Primitive → List Word → State → Watch → Watch
watched_primitive primitive.Alloc (size ∷ words) s watch = making s.heap size.value maker.Alloc None watch
watched_primitive primitive.Copy (size ∷ (from ∷ (to ∷ words))) s watch = copied s.heap watch to from size.value
watched_primitive _ words s watch = watch

-- ---- one clause a row

unfoldable pub watched_row : Program → Row → List Word → State → Watch → Watch
watched_row p (Casts kind) (word ∷ words) s watch = casted s.heap watch word (shape_of p s kind)
watched_row p (Reads (InMemory kind member) access) (at ∷ words) s watch = read_at p s kind member access at watch
watched_row p (Peeks (InMemory kind member) access) (at ∷ words) s watch = read_at p s kind member access at watch
watched_row p (Stores (InMemory kind member) access) (word ∷ (at ∷ words)) s watch = store_at p s kind member access at watch
watched_row p (Writes kind member first count word gives) (unit ∷ (at ∷ words)) s watch = unit_at p s kind member at watch
watched_row p (Combines (InMemory kind member) op access) (right ∷ (left ∷ (at ∷ words))) s watch =
    store_of p s kind member access (combined op left right) at watch
watched_row p (Increments (InMemory kind member) op is_prefix access) (left ∷ (at ∷ words)) s watch =
    store_of p s kind member access (combined op left (plain 1)) at watch
watched_row p (Copies size) (from ∷ (to ∷ words)) s watch = copied s.heap watch to from size
watched_row p (Performs primitive) words s watch = watched_primitive primitive words s watch
watched_row p (MakesExtra extra) words s watch = making s.heap (4 * length extra) maker.Entry (Some extra_shape) watch
watched_row p (Makes size kind) words s watch = making s.heap size maker.Entry (Some (shape_of p s kind)) watch
watched_row p (Fills slot entry kind width) words s watch =
    watched_access s.heap watch (entry_address s entry) width 0 (shape_of p s kind) true
watched_row p (FillsRecord slot entry size) words s watch = copied s.heap watch (entry_address s entry) (slot_of s slot) size
watched_row p (CopiesOut size) (from ∷ words) s watch = copied s.heap watch (slot_of s 0) from size
-- an initialiser's root is its object, and its member is the offset of the piece
watched_row p (Initialises entry kind offset access) (word ∷ words) s watch =
    store_at p s kind offset access (place_in s entry offset) watch
watched_row p (CopiesIn entry offset size) (from ∷ words) s watch = copied s.heap watch (place_in s entry offset) from size
watched_row p _ words s watch = watch

abbrev pub watched_by : Program → State → Todo → Watch → Watch
watched_by p s done watch = watch
watched_by p s (next row rest) watch = watched_row p row s.words s watch

-- what a step from a state leaves, also the one that ends the run
abbrev pub watched : Program → State → Watch → Watch
watched p s watch = watched_by p s s.todo watch

-- ---- runs

-- the shapes and the away accesses of a run at a cost, its ending step included
abbrev pub watch_at : Program → (start : Seen State) → (input : List ℕ) → (cost : ℕ) → Watch
watch_at p start input cost = watch_of (watched p) (watched_run (action_of p) (watched p) cost start input)

-- ---- the start

-- functions have no shape, and objects that of their declared type
abbrev pub unit_shapes : TypedUnit → List (Option (List WordKind))
unit_shapes u = replicate (length u.functions) None ++ map (λ (object : TypedObject). kinds_of u.types object.kind) u.objects

unfoldable pub start_watch : List TypedUnit → Watch
start_watch units = record { shapes = flat_map unit_shapes units; away = 0 }
