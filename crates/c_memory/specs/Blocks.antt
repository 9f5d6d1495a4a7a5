-- Blocks and heaps: what C's objects and functions are here. A heap knows no cells, no flags and no machine.
use Rattle.std.specs.Prelude.{ℕ, suc, zero, ◌+◌, ◌-◌, ◌/◌, ◌&&◌, Bool, true, false, List, [], ◌∷◌, slice_set, Option, Some, None}
use Rattle.c_memory.specs.declared.kind.BlockKind.{BlockKind}
use Rattle.c_memory.specs.declared.kind.BlockKind.TheVariants as kind

-- A block: its size and virtual base, both in bytes; what it is; whether it is alive, as a function always is, and whether
-- it is sealed. A live object has as many bytes as its size, and for each of its words the number of the block that this
-- word is based on, 0 for none. A dead object has neither.
pub record Block : Type 0 where
  pub size : ℕ
  pub base : ℕ
  pub kind : BlockKind
  pub is_live : Bool
  pub is_sealed : Bool
  pub bytes : List ℕ
  pub bases : List ℕ

-- All blocks ever made, in order of number, from 1; and for each class of cells, the smallest first, the greatest number
-- of its blocks that were live at once.
pub record Heap : Type 0 where
  pub blocks : List Block
  pub greatest : List ℕ

-- how many words of 4 bytes so many bytes touch
abbrev pub words_of : ℕ → ℕ
words_of bytes = (bytes + 3) / 4

-- the block behind so many others
abbrev pub block_in : List Block → ℕ → Option Block
block_in [] n = None
block_in (block ∷ blocks) zero = Some block
block_in (block ∷ blocks) (suc n) = block_in blocks n

-- the block with a number, where one was made
abbrev pub block_at : Heap → ℕ → Option Block
block_at heap zero = None
block_at heap (suc number) = block_in heap.blocks number

-- it is an object, and no function
abbrev pub is_object : BlockKind → Bool
is_object kind.Function = false
is_object kind.Static = true
is_object kind.Entry = true
is_object kind.Alloc = true

-- it is an object and alive
abbrev pub is_live_object : Block → Bool
is_live_object block = is_object block.kind && block.is_live

-- the heap with another block under a number
abbrev pub with_block : Heap → ℕ → Block → Heap
with_block heap number block = record heap { blocks = slice_set heap.blocks (number - 1) block }

-- the block when its life has ended: its size and base stay
abbrev pub ended : Block → Block
ended block = record block { is_live = false; bytes = []; bases = [] }

-- the block when it refuses writes
abbrev pub sealed : Block → Block
sealed block = record block { is_sealed = true }

-- the heap when a block is changed, where it was made
abbrev pub changed_at : Heap → (number : ℕ) → (Block → Block) → Option Block → Heap
changed_at heap number change None = heap
changed_at heap number change (Some block) = with_block heap number (change block)

-- the heap when the life of that block has ended
unfoldable pub killed : Heap → ℕ → Heap
killed heap number = changed_at heap number ended (block_at heap number)

-- the heap when that block is sealed
unfoldable pub sealed_at : Heap → ℕ → Heap
sealed_at heap number = changed_at heap number sealed (block_at heap number)
