-- For which bytes a page was made: a store there asks for no memory.
use Rattle.std.specs.Prelude.{◌≡◌, ℕ, ◌+◌, ◌-◌, ◌<◌, List, length, All, IsTrue, false, slice_index_or}
use Rattle.guest_mem.specs.declared.right.Right.TheVariants.{Write}
use Rattle.guest_mem.specs.Regions.{Paged}
use Rattle.guest_mem.specs.Guest.{contains}

-- a page was made for the byte at an address of a region
abbrev pub HasPage : Paged → (at : ℕ) → Type 0
HasPage paged at = IsTrue (slice_index_or paged.made (at - paged.region.address) false)

-- what a page was made for in a region stays so
abbrev pub StaysMade : (old new : Paged) → Type 0
StaysMade old new = (i : ℕ) → IsTrue (slice_index_or old.made i false) → IsTrue (slice_index_or new.made i false)

-- a page was made for each of the n bytes from an address on, wherever they may be written
abbrev pub IsReady : List Paged → (at n : ℕ) → Type 0
IsReady memory at n = (k : ℕ) → k < n → All (λ (paged : Paged). IsTrue (contains paged.region Write (at + k) 1) → HasPage paged (at + k)) memory

-- what was ready stays so
abbrev pub StaysReady : (old new : List Paged) → Type 0
StaysReady old new = (at n : ℕ) → IsReady old at n → IsReady new at n
