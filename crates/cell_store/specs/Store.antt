-- What a store holds, as contracts see it.
use Rattle.std.specs.Prelude.{◌≡◌, ◌≢◌, ℕ, ◌+◌, ◌*◌, ◌-◌, ◌/◌, ◌≤◌, ◌⊎◌, List, length, slice_set, slice_index_or}
use Rattle.c_memory.specs.Blocks.{Heap, words_of}
use Rattle.c_memory.specs.Sound.{IsHeap}
use Rattle.cell_store.specs.Layouts.{Layouts}
use Rattle.cell_store.specs.StandsFor.{Memory, HeaderWords, header_of, LiesIn, StandsFor}

-- the words of a region, how many blocks were made in it, and for each class the greatest number of its blocks that were
-- live at once
pub record Store : Type 0 where
  pub words : List ℕ
  pub made : ℕ
  pub greatest : List ℕ

-- the words of a store by address; its region begins at 0
abbrev pub memory_of : List ℕ → Memory
memory_of words address = slice_index_or words (address / 4) 0

-- the header of a block
abbrev pub header_in : Store → (block : ℕ) → HeaderWords
header_in store block = header_of (memory_of store.words) 0 block

-- a block was made
pub record IsMade (store : Store) (block : ℕ) : Type 0 where
  pub positive : 1 ≤ block
  pub known : block ≤ store.made

-- a block was made and is a live object
pub record IsLiveIn (store : Store) (block : ℕ) : Type 0 where
  pub made : IsMade store block
  pub object : 2 ≤ (header_in store block).desc

-- the cells of live objects lie in the region, behind all headers, and no two have a word in common
pub record IsOrderly (store : Store) : Type 0 where
  pub inside : (b : ℕ) → IsLiveIn store b →
      LiesIn 0 (4 * length store.words) store.made (header_in store b).cell (2 * words_of (header_in store b).size)
  pub apart : (b c : ℕ) → IsLiveIn store b → IsLiveIn store c → b ≢ c →
      ((header_in store b).cell + 8 * words_of (header_in store b).size ≤ (header_in store c).cell)
      ⊎ ((header_in store c).cell + 8 * words_of (header_in store c).size ≤ (header_in store b).cell)

-- the place among the store's words of word i of a block's cell
abbrev pub cell_place : Store → (block i : ℕ) → ℕ
cell_place store block i = (header_in store block).cell / 4 + i

-- the store with this word in a block's cell
abbrev pub with_cell_word : Store → (block i value : ℕ) → Store
with_cell_word store block i value = record store { words = slice_set store.words (cell_place store block i) value }

-- the store with this descriptor in a block's header
abbrev pub with_desc : Store → (block desc : ℕ) → Store
with_desc store block desc = record store { words = slice_set store.words (4 * (block - 1)) desc }

-- a store stands for a heap: its words do, it has as many blocks, and the counts of both are the same
pub record Holds (store : Store) (heap : Heap) (layouts : Layouts) : Type 0 where
  pub sound : IsHeap heap
  pub stands : StandsFor (memory_of store.words) 0 (4 * length store.words) heap layouts
  pub made : store.made ≡ length heap.blocks
  pub greatest : store.greatest ≡ heap.greatest
