-- Where the bytes of an access lie in a store.
use Rattle.std.specs.Prelude.{◌≡◌, ℕ, ◌+◌, ◌<◌, ◌≤◌, ◌⊎◌, Result, Ok, Err}
use Rattle.fsc_base.specs.declared.word.Word.{Word}
use Rattle.c_memory.specs.declared.access.Outside.{Outside}
use Rattle.c_memory.specs.Access.{distance}
use Rattle.cell_store.specs.Store.{Store, IsMade, IsLiveIn, header_in}
use Rattle.access_methods.specs.declared.locate.Spot.{Spot}

-- n bytes from a word on are within a live object; what its header says, and their offset
pub record IsSpot (store : Store) (at : Word) (n : ℕ) (spot : Spot) : Type 0 where
  pub live : IsLiveIn store at.block
  pub block : spot.block ≡ at.block
  pub desc : spot.desc ≡ (header_in store at.block).desc
  pub size : spot.size ≡ (header_in store at.block).size
  pub offset : spot.offset ≡ distance at.value (header_in store at.block).base
  pub within : spot.offset + n ≤ spot.size

-- no such block was made
pub record IsNowhere (store : Store) (at : Word) (n : ℕ) (refusal : Outside) : Type 0 where
  pub unmade : IsMade store at.block → ⊥
  pub is : refusal ≡ record { block = at.block; offset = at.value; width = n }

-- the block is no live object, or the bytes end behind it
pub record IsBeyond (store : Store) (at : Word) (n : ℕ) (refusal : Outside) : Type 0 where
  pub made : IsMade store at.block
  pub fails : ((header_in store at.block).desc < 2) ⊎ ((header_in store at.block).size < distance at.value (header_in store at.block).base + n)
  pub is : refusal ≡ record { block = at.block; offset = distance at.value (header_in store at.block).base; width = n }

abbrev pub Locates : Store → Word → (n : ℕ) → Result Spot Outside → Type 0
Locates store at n (Ok spot) = IsSpot store at n spot
Locates store at n (Err refusal) = IsNowhere store at n refusal ⊎ IsBeyond store at n refusal
