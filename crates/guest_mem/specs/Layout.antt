-- What stays of memory in a run: where its regions lie and what may be done with them; and that it holds bytes.
use Rattle.std.specs.Prelude.{◌≡◌, ℕ, ◌+◌, ◌/◌, ◌%◌, ◌<◌, ◌≤◌, ◌⊎◌, List, [], ◌∷◌, length, map, All}
use Rattle.guest_mem.specs.Regions.{Region}
use Rattle.guest_mem.specs.Rights.{flag_of}
use Rattle.guest_mem.specs.declared.right.Right.TheVariants.{Execute, Write}

-- a region without its bytes: address, flags and size
pub record Extent : Type 0 where
  pub address : ℕ
  pub flags : ℕ
  pub size : ℕ

abbrev pub extent_of : Region → Extent
extent_of region = record { address = region.address; flags = region.flags; size = length region.bytes }

abbrev pub layout : List Region → List Extent
layout regions = map extent_of regions

-- one ends before the other begins
abbrev pub Apart : Region → Region → Type 0
Apart a b = (a.address + length a.bytes ≤ b.address) ⊎ (b.address + length b.bytes ≤ a.address)

-- no two of them overlap
abbrev pub AllApart : List Region → Type 0
AllApart [] = Unit {0}
AllApart (region ∷ others) = All (Apart region) others × AllApart others

-- each number is a byte
abbrev pub AreBytes : List ℕ → Type 0
AreBytes bytes = All (λ byte. byte < 256) bytes

-- each number in memory is a byte
abbrev pub HoldBytes : List Region → Type 0
HoldBytes regions = All (λ (region : Region). AreBytes region.bytes) regions

-- what may be executed may not be written
abbrev pub IsFixed : Extent → Type 0
IsFixed extent = extent.flags / flag_of Execute % 2 ≡ 1 → extent.flags / flag_of Write % 2 ≡ 0

-- no store can change code
abbrev pub KeepsCode : List Extent → Type 0
KeepsCode extents = All IsFixed extents
