-- When memory stands for a heap: headers in order of number, and the cell of every live object, laid out by its descriptor.
use Rattle.std.specs.Prelude.{◌≡◌, ◌≢◌, ℕ, suc, ◌+◌, ◌*◌, ◌-◌, ◌%◌, ◌<◌, ◌≤◌, ◌⊎◌, true, false, List, length, take, drop, replicate, slice_index_or, Some}
use Rattle.c_memory.specs.Bytes.{little_endian}
use Rattle.c_memory.specs.Blocks.{Block, Heap, block_at, words_of, is_object, is_live_object}
use Rattle.cell_store.specs.Layouts.{Layout, Layouts}

-- memory by address: the word of 4 bytes at each multiple of 4
abbrev pub Memory : Type 0
Memory = ℕ → ℕ

-- ---- headers

-- the header of a block: its descriptor's number, its size and virtual base, and the address of its cell
pub record HeaderWords : Type 0 where
  pub desc : ℕ
  pub size : ℕ
  pub base : ℕ
  pub cell : ℕ

-- where the header of a block stands in a region
abbrev pub header_address : (region block : ℕ) → ℕ
header_address region block = region + 16 * (block - 1)

abbrev pub header_of : Memory → (region block : ℕ) → HeaderWords
header_of memory region block = let at = header_address region block in record {
  desc = memory at;
  size = memory (at + 4);
  base = memory (at + 8);
  cell = memory (at + 12);
}

-- ---- cells

-- word w of a block's bytes, as a number; bytes past its size count as zero
abbrev pub value_word : List ℕ → (w : ℕ) → ℕ
value_word bytes w = little_endian (take 4 (drop (4 * w) bytes))

-- a cell begins with the words of a block, laid out so
pub record IsLaidOut (memory : Memory) (cell : ℕ) (layout : Layout) (block : Block) : Type 0 where
  pub values : (w : ℕ) → w < words_of block.size → memory (cell + 4 * layout.value_at (words_of block.size) w) ≡ value_word block.bytes w
  pub bases : (w : ℕ) → w < words_of block.size → memory (cell + 4 * layout.base_at (words_of block.size) w) ≡ slice_index_or block.bases w 0

-- a block has zero bytes and no bases, and its cell begins with as many zero words as any layout has
pub record IsBlank (memory : Memory) (cell : ℕ) (block : Block) : Type 0 where
  pub words : (i : ℕ) → i < 2 * words_of block.size → memory (cell + 4 * i) ≡ 0
  pub bytes : block.bytes ≡ replicate block.size 0
  pub bases : block.bases ≡ replicate (words_of block.size) 0

-- it is undecided, which is descriptor 2
pub record IsUndecided (memory : Memory) (desc cell : ℕ) (block : Block) : Type 0 where
  pub desc_is : desc ≡ 2
  pub unsealed : block.is_sealed ≡ false
  pub blank : IsBlank memory cell block

-- it has the layout that its descriptor stands for
pub record IsDecided (memory : Memory) (layouts : Layouts) (desc cell : ℕ) (block : Block) : Type 0 where
  pub layout : Layout
  pub found : layouts desc ≡ Some layout
  pub decided : 3 ≤ desc
  pub unsealed : block.is_sealed ≡ false
  pub laid_out : IsLaidOut memory cell layout block

-- it is sealed: its descriptor is one more than that of its layout
pub record IsSealedCell (memory : Memory) (layouts : Layouts) (desc cell : ℕ) (block : Block) : Type 0 where
  pub of : ℕ
  pub desc_is : desc ≡ suc of
  pub layout : Layout
  pub found : layouts of ≡ Some layout
  pub decided : 4 ≤ of
  pub shut : block.is_sealed ≡ true
  pub laid_out : IsLaidOut memory cell layout block

-- the cell of a live object holds it
abbrev pub Keeps : Memory → Layouts → (desc cell : ℕ) → Block → Type 0
Keeps memory layouts desc cell block =
    IsUndecided memory desc cell block ⊎ (IsDecided memory layouts desc cell block ⊎ IsSealedCell memory layouts desc cell block)

-- ---- blocks

-- a header is that of a block: descriptor 0 and no cell for a dead object, descriptor 1 for a function
pub record Describes (header : HeaderWords) (block : Block) : Type 0 where
  pub size : header.size ≡ block.size
  pub base : header.base ≡ block.base
  pub dead : block.is_live ≡ false → (header.desc ≡ 0) × (header.cell ≡ 0)
  pub function : is_object block.kind ≡ false → header.desc ≡ 1
  pub object : is_live_object block ≡ true → 2 ≤ header.desc

-- a cell lies in the region, behind the headers
pub record LiesIn (region bytes made cell words : ℕ) : Type 0 where
  pub aligned : cell % 4 ≡ 0
  pub behind : region + 16 * made ≤ cell
  pub within : cell + 4 * words ≤ region + bytes

-- Memory stands for a heap: a region of so many bytes has the header of every block, and the cells of its live objects,
-- which do not overlap, laid out by their descriptors.
pub record StandsFor (memory : Memory) (region bytes : ℕ) (heap : Heap) (layouts : Layouts) : Type 0 where
  pub headers : (b : ℕ) (block : Block) → block_at heap b ≡ Some block → Describes (header_of memory region b) block
  pub kept : (b : ℕ) (block : Block) → block_at heap b ≡ Some block → is_live_object block ≡ true →
      Keeps memory layouts (header_of memory region b).desc (header_of memory region b).cell block
  pub inside : (b : ℕ) (block : Block) → block_at heap b ≡ Some block → is_live_object block ≡ true →
      LiesIn region bytes (length heap.blocks) (header_of memory region b).cell (2 * words_of block.size)
  pub apart : (b c : ℕ) (x y : Block) → block_at heap b ≡ Some x → block_at heap c ≡ Some y →
      is_live_object x ≡ true → is_live_object y ≡ true → b ≢ c →
      ((header_of memory region b).cell + 8 * words_of x.size ≤ (header_of memory region c).cell)
      ⊎ ((header_of memory region c).cell + 8 * words_of y.size ≤ (header_of memory region b).cell)
