-- Shapes of blocks, beside the heap: which kinds the words of a block have, and what decides them. No read and no write
-- depends on them.
use Rattle.std.specs.Prelude.{ℕ, zero, suc, ◌==◌, if◌then◌else◌, Bool, false, List, [], ◌∷◌, ◌++◌, slice_set, Option, Some, None, Result, Ok, Err}
use Rattle.fsc_base.specs.declared.word.Word.{Word}
use Rattle.fsc_base.specs.declared.word.WordKind.{WordKind}
use Rattle.c_memory.specs.declared.access.CopyNo.{CopyNo}
use Rattle.c_memory.specs.Blocks.{Block, Heap, block_at, is_live_object}
use Rattle.c_memory.specs.Copying.{copy_of}

-- For each block ever made, in order of number from 1, its shape, or none where it is not decided; and how many accesses
-- were away. A shape is a list of kinds in its least period.
pub record Watch : Type 0 where
  pub shapes : List (Option (List WordKind))
  pub away : ℕ

-- ---- the shape of a block

-- the shape behind so many others
abbrev pub shape_in : List (Option (List WordKind)) → ℕ → Option (List WordKind)
shape_in [] n = None
shape_in (shape ∷ shapes) zero = shape
shape_in (shape ∷ shapes) (suc n) = shape_in shapes n

-- the shape of the block with a number, where it is decided
abbrev pub shape_at : Watch → (number : ℕ) → Option (List WordKind)
shape_at watch zero = None
shape_at watch (suc number) = shape_in watch.shapes number

-- a live object has that number
abbrev pub is_live_in : Option Block → Bool
is_live_in None = false
is_live_in (Some block) = is_live_object block

abbrev pub is_live_at : Heap → (number : ℕ) → Bool
is_live_at heap number = is_live_in (block_at heap number)

-- ---- one more block

-- a block was made, of its declared shape, or undecided, as one that the program asked for
abbrev pub made : Watch → Option (List WordKind) → Watch
made watch shape = record watch { shapes = watch.shapes ++ (shape ∷ []) }

-- ---- deciding

-- the block with that number has this shape
abbrev pub with_shape : Watch → (number : ℕ) → List WordKind → Watch
with_shape watch zero kinds = watch
with_shape watch (suc number) kinds = record watch { shapes = slice_set watch.shapes number (Some kinds) }

-- a decided shape stays
abbrev pub decided_in : Watch → (number : ℕ) → List WordKind → (is_live : Bool) → Option (List WordKind) → Watch
decided_in watch number kinds is_live (Some shape) = watch
decided_in watch number kinds is_live None = if is_live then with_shape watch number kinds else watch

-- the block with that number is decided as this shape, where it is a live object that is not decided yet
abbrev pub decided : Heap → Watch → (number : ℕ) → List WordKind → Watch
decided heap watch number kinds = decided_in watch number kinds (is_live_at heap number) (shape_at watch number)

-- a word is converted to a pointer to a type of this shape
abbrev pub casted : Heap → Watch → Word → List WordKind → Watch
casted heap watch word kinds = decided heap watch word.block kinds

-- a copy decides the target as its source is decided
abbrev pub copied_from : Heap → Watch → (to : Word) → Option (List WordKind) → Watch
copied_from heap watch to None = watch
copied_from heap watch to (Some kinds) = decided heap watch to.block kinds

abbrev pub copied_as : Heap → Watch → (to from : Word) → Result Heap CopyNo → Watch
copied_as heap watch to from (Ok after) = copied_from heap watch to (shape_at watch from.block)
copied_as heap watch to from (Err refusal) = watch

-- a copy of n bytes; one of no bytes decides nothing, and neither does one that is refused
abbrev pub copied : Heap → Watch → (to from : Word) → (n : ℕ) → Watch
copied heap watch to from n = if n == 0 then watch else copied_as heap watch to from (copy_of heap to from n)
