-- Storage: how it is counted, and which creation fits.
use Rattle.std.specs.Prelude.{ℕ, suc, zero, ◌+◌, ◌*◌, ◌-◌, ◌/◌, ◌^◌, ◌≤◌, ◌==◌, nat_le, max, ◌&&◌, true, false, List, [], ◌∷◌, ◌++◌, length, replicate, slice_set, slice_index_or, count_by, sum_by, position, unwrap_or}
use Rattle.c_memory.specs.Blocks.{Block, Heap, words_of}
use Rattle.c_memory.specs.declared.kind.BlockKind.{BlockKind}

-- ---- classes of cells

-- so many sizes from one on, each twice the one before
abbrev pub doubling : (count size : ℕ) → List ℕ
doubling zero size = []
doubling (suc count) size = size ∷ doubling count (2 * size)

-- the sizes of cells in bytes: the powers of two from 16 on, 30 of them, as many as blocks below 2 ^ 32 bytes need
abbrev pub classes : List ℕ
classes = doubling 30 16

-- a cell has two words for each word of its block
abbrev pub cell_bytes : ℕ → ℕ
cell_bytes size = 8 * words_of size

-- the class of a block of so many bytes, by its place among the classes: the first whose cells are large enough
unfoldable pub class_of : ℕ → ℕ
class_of size = unwrap_or (position (λ class. nat_le (cell_bytes size) class) classes) 0

-- ---- what is stored

-- how many blocks of a class are live; a function always is
unfoldable pub live_in : ℕ → List Block → ℕ
live_in class blocks = count_by (λ (block : Block). block.is_live && (class_of block.size == class)) blocks

-- numbers of cells, each with the size of its class, the smallest first
abbrev pub bytes_of_cells : List ℕ → (size : ℕ) → ℕ
bytes_of_cells [] size = 0
bytes_of_cells (count ∷ counts) size = size * count + bytes_of_cells counts (2 * size)

-- 16 bytes for each block ever made, and each class's cells, as many as were live at once
unfoldable pub stored_of : Heap → ℕ
stored_of heap = 16 * length heap.blocks + bytes_of_cells heap.greatest 16

-- ---- virtual bases

-- how far the base of the next block lies behind that of one of so many bytes
abbrev pub span : ℕ → ℕ
span size = (size + 15) / 16 * 16 + 16

-- the virtual base of the next block
unfoldable pub next_base : Heap → ℕ
next_base heap = 65536 + sum_by (λ (block : Block). span block.size) heap.blocks

-- ---- creation

-- a new block: zero bytes, and no bases
abbrev pub new_block : (base size : ℕ) → BlockKind → Block
new_block base size kind = record {
  size = size;
  base = base;
  kind = kind;
  is_live = true;
  is_sealed = false;
  bytes = replicate size 0;
  bases = replicate (words_of size) 0;
}

-- the greatest numbers when so many blocks of a class are live
abbrev pub raised : List ℕ → (class live : ℕ) → List ℕ
raised greatest class live = slice_set greatest class (max (slice_index_or greatest class 0) live)

-- the heap with one more block
unfoldable pub created : Heap → (size : ℕ) → BlockKind → Heap
created heap size kind = record {
  blocks = heap.blocks ++ (new_block (next_base heap) size kind ∷ []);
  greatest = raised heap.greatest (class_of size) (live_in (class_of size) heap.blocks + 1);
}

-- a heap without blocks
abbrev pub no_blocks : Heap
no_blocks = record { blocks = []; greatest = replicate 30 0 }

-- a creation fits where afterwards no more than a limit is stored, and the next virtual base is within reach
pub record FitsIn (limit : ℕ) (heap : Heap) (size : ℕ) (kind : BlockKind) : Type 0 where
  pub storage : stored_of (created heap size kind) ≤ limit
  pub bases : next_base (created heap size kind) ≤ 2 ^ 32 - 2 ^ 16

-- the same for the limit of every run
abbrev pub Fits : Heap → (size : ℕ) → BlockKind → Type 0
Fits heap size kind = FitsIn (2 ^ 29) heap size kind
