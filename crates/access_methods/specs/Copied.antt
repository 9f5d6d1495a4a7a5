-- What a copy takes of its source.
use Rattle.std.specs.Prelude.{◌≡◌, ℕ, ◌/◌, drop, take, replicate, vec_len}
use Rattle.c_memory.specs.Access.{touched}
use Rattle.c_memory.specs.Blocks.{Block}
use Rattle.c_memory.specs.Copying.{copied_bases}
use Rattle.c_memory.specs.Sound.{IsFilled}
use Rattle.cell_store.specs.Layouts.{Layouts}
use Rattle.cell_store.specs.StandsFor.{Keeps}
use Rattle.cell_store.specs.Store.{Store, IsLiveIn, header_in, memory_of}
use Rattle.access_methods.specs.declared.locate.Spot.{Spot}
use Rattle.access_methods.specs.declared.taken.Taken.{Taken}

-- there are n bytes, and a base for each word that they touch from the offset `to` on
pub record IsReady (taken : Taken) (to n : ℕ) : Type 0 where
  pub bytes : vec_len taken.bytes ≡ n
  pub bases : vec_len taken.bases ≡ touched to n

-- they are those of this block
pub record AreTaken (taken : Taken) (to from n : ℕ) (block : Block) : Type 0 where
  pub bytes : taken.bytes.items ≡ take n (drop from block.bytes)
  pub bases : taken.bases.items ≡ copied_bases (touched to n) block.bases to from n (to / 4)

-- they are all zero
pub record AreZeros (taken : Taken) (to n : ℕ) : Type 0 where
  pub bytes : taken.bytes.items ≡ replicate n 0
  pub bases : taken.bases.items ≡ replicate (touched to n) 0

-- the store has the live object of a spot
pub record HasSpot (store : Store) (spot : Spot) : Type 0 where
  pub live : IsLiveIn store spot.block
  pub size : spot.size ≡ (header_in store spot.block).size

-- its cell keeps this block
pub record KeepsAt (store : Store) (layouts : Layouts) (spot : Spot) (block : Block) : Type 0 where
  pub size : block.size ≡ spot.size
  pub filled : IsFilled block
  pub keeps : Keeps (memory_of store.words) layouts spot.desc (header_in store spot.block).cell block
