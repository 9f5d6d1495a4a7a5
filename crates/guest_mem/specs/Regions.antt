-- Regions of memory.
use Rattle.std.specs.Prelude.{ℕ, ◌%◌, Bool, List, map}
use Rattle.guest_mem.specs.Pages.{bytes_from, made_from}

-- a range of memory: the address of its first byte, the sum of 4 (may be read), 2 (may be written) and 1 (may be
-- executed), and all its bytes
pub record Region : Type 0 where
  pub address : ℕ
  pub flags : ℕ
  pub bytes : List ℕ

-- a region whose bytes stand in pages: the region, and for each of its bytes whether a page was made for it
pub record Paged : Type 0 where
  pub region : Region
  pub made : List Bool

-- the regions of memory alone
abbrev pub regions_of : List Paged → List Region
regions_of memory = map (λ (paged : Paged). paged.region) memory

-- a region by its directory: the first page begins at a multiple of 4,096
abbrev pub paged_of : (address flags size : ℕ) → List (List (List ℕ)) → Paged
paged_of address flags size tables = record {
  region = record { address = address; flags = flags; bytes = bytes_from tables (address % 4096) size };
  made = made_from tables (address % 4096) size;
}
