-- A live object in a store, and what a change of its cell makes of it.
use Rattle.std.specs.Prelude.{◌≡◌, ℕ, ◌/◌, ◌≤◌, true, false, List, slice_set, Some}
use Rattle.c_memory.specs.Bytes.{overwritten}
use Rattle.c_memory.specs.Blocks.{Block, Heap, block_at, is_live_object, with_block}
use Rattle.cell_store.specs.Layouts.{AreLayouts, Layout, Layouts}
use Rattle.cell_store.specs.StandsFor.{IsLaidOut}
use Rattle.cell_store.specs.Store.{Store, memory_of, header_in, Holds}

-- the cell of a block has its bytes and bases, laid out so
abbrev pub LaysOut : Store → (number : ℕ) → Layout → Block → Type 0
LaysOut store number layout block = IsLaidOut (memory_of store.words) (header_in store number).cell layout block

-- A store holds a heap, in which this block is a live object that is decided and not sealed, and this is its layout.
pub record HoldsObject (store : Store) (layouts : Layouts) (number : ℕ) (layout : Layout) (heap : Heap) (block : Block) : Type 0 where
  pub are_layouts : AreLayouts layouts
  pub holds : Holds store heap layouts
  pub found : block_at heap number ≡ Some block
  pub live : is_live_object block ≡ true
  pub unsealed : block.is_sealed ≡ false
  pub decided : 3 ≤ (header_in store number).desc
  pub desc : layouts (header_in store number).desc ≡ Some layout
  pub laid_out : LaysOut store number layout block

-- a block with other bytes and bases
abbrev pub with_content : Block → (bytes bases : List ℕ) → Block
with_content block bytes bases = record block { bytes = bytes; bases = bases }

-- a block with another byte, or with other bytes from an offset on; its bases stay
abbrev pub with_byte : (offset byte : ℕ) → Block → Block
with_byte offset byte block = record block { bytes = slice_set block.bytes offset byte }

abbrev pub with_bytes_at : (offset : ℕ) → List ℕ → Block → Block
with_bytes_at offset bytes block = record block { bytes = overwritten block.bytes offset bytes }

-- a block with another base, or with other bases from a word on; its bytes stay
abbrev pub with_base_at : (w base : ℕ) → Block → Block
with_base_at w base block = record block { bases = slice_set block.bases w base }

abbrev pub with_bases_at : (w : ℕ) → List ℕ → Block → Block
with_bases_at w bases block = record block { bases = overwritten block.bases w bases }

-- a block with other bytes from an offset on, and other bases from the word of that offset on
abbrev pub with_both : (offset : ℕ) → (bytes bases : List ℕ) → Block → Block
with_both offset bytes bases block =
    with_content block (overwritten block.bytes offset bytes) (overwritten block.bases (offset / 4) bases)

-- a store is changed as a change of that object says, in every heap that it held
pub record Turns (old new : Store) (number : ℕ) (layout : Layout) (change : Block → Block) : Type 0 where
  pub keeps : (layouts : Layouts) (heap : Heap) (block : Block) → HoldsObject old layouts number layout heap block
      → HoldsObject new layouts number layout (with_block heap number (change block)) (change block)
