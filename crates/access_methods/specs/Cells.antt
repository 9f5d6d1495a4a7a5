-- A live object of a store, as its header says, and the words of its cell.
use Rattle.std.specs.Prelude.{◌≡◌, ℕ, slice_index_or}
use Rattle.c_memory.specs.Blocks.{Block, words_of}
use Rattle.c_memory.specs.Sound.{IsFilled}
use Rattle.cell_store.specs.Store.{Store, IsLiveIn, header_in, cell_place}
use Rattle.access_methods.specs.declared.object.Object.{Object}
use Rattle.access_methods.specs.Forms.{layout_in}
use Rattle.access_methods.specs.Objects.{LaysOut}

-- the store has that object, of that size
pub record IsObjectIn (store : Store) (object : Object) : Type 0 where
  pub live : IsLiveIn store object.block
  pub size : object.size ≡ (header_in store object.block).size

-- the value of word w of its cell, and the base
abbrev pub value_in : Store → Object → (w : ℕ) → ℕ
value_in store object w =
    slice_index_or store.words (cell_place store object.block ((layout_in object.layout).value_at (words_of object.size) w)) 0

abbrev pub base_in : Store → Object → (w : ℕ) → ℕ
base_in store object w =
    slice_index_or store.words (cell_place store object.block ((layout_in object.layout).base_at (words_of object.size) w)) 0

-- its cell holds this block
pub record Lays (store : Store) (object : Object) (block : Block) : Type 0 where
  pub size : block.size ≡ object.size
  pub filled : IsFilled block
  pub laid_out : LaysOut store object.block (layout_in object.layout) block
