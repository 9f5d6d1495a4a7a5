-- What the counts beside the blocks say. A class is known by its place among the classes.
use Rattle.std.specs.Prelude.{◌≡◌, ℕ, ◌-◌, ◌^◌, ◌<◌, ◌≤◌, List, slice_index}
use Rattle.c_memory.specs.Blocks.{Block, Heap}
use Rattle.c_memory.specs.Storage.{live_in, next_base, stored_of}
use Rattle.byte_blocks.specs.declared.tally.Tally.{Tally}

-- the heap of these blocks
abbrev pub heap_of : List Block → Tally → Heap
heap_of blocks tally = record { blocks = blocks; greatest = tally.greatest }

-- They are those of these blocks; no more of a class are live than there were once.
pub record Counts (blocks : List Block) (tally : Tally) : Type 0 where
  pub live_is : (class : ℕ) → class < 30 → slice_index tally.live class ≡ live_in class blocks
  pub live_once : (class : ℕ) → class < 30 → slice_index tally.live class ≤ slice_index tally.greatest class
  pub stored_is : tally.stored ≡ stored_of (heap_of blocks tally)
  pub base_is : tally.next_base ≡ next_base (heap_of blocks tally)

-- no more is stored, and the next base lies no further, than any run may have
pub record IsWithinLimits (tally : Tally) : Type 0 where
  pub storage : tally.stored ≤ 2 ^ 29
  pub bases : tally.next_base ≤ 2 ^ 32 - 2 ^ 16
