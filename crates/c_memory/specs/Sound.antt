-- What holds of every heap that a run reaches.
use Rattle.std.specs.Prelude.{◌≡◌, ℕ, ◌^◌, ◌<◌, true, length, All, Some}
use Rattle.c_memory.specs.Blocks.{Block, Heap, block_at, is_live_object, words_of}

-- a live object has as many bytes as its size, and a base or 0 for each of its words
pub record IsFilled (block : Block) : Type 0 where
  pub bytes : length block.bytes ≡ block.size
  pub bases : length block.bases ≡ words_of block.size
  pub are_bytes : All (λ byte. byte < 256) block.bytes
  pub are_numbers : All (λ base. base < 2 ^ 32) block.bases

-- its size and its base are numbers of 32 bits
pub record IsBlock (block : Block) : Type 0 where
  pub size : block.size < 2 ^ 32
  pub base : block.base < 2 ^ 32
  pub filled : is_live_object block ≡ true → IsFilled block

-- each block is one, and each of the 30 classes has its number
pub record IsHeap (heap : Heap) : Type 0 where
  pub blocks : (b : ℕ) (block : Block) → block_at heap b ≡ Some block → IsBlock block
  pub greatest : length heap.greatest ≡ 30
