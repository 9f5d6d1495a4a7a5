-- What a fill takes from the input, and what it leaves in memory.
use Rattle.std.specs.Prelude.{◌≡◌, ℕ, ◌<◌, ◌≤◌, List, ◌++◌, length, take, drop, Option, Some, None}
use Rattle.guest_mem.specs.Regions.{Region}
use Rattle.guest_mem.specs.Layout.{AreBytes}
use Rattle.guest_mem.specs.Guest.{part, with_part, bytes_at, with_bytes}
use Rattle.guest_mem.specs.declared.right.Right.TheVariants.{Write}
use Rattle.guest_mem.specs.declared.streams.Filled.{Filled}
use Rattle.guest_mem.specs.declared.streams.Filled.TheVariants as filled

-- ---- the input

-- the bytes were taken: all that there are up to n, where the source tells
abbrev pub TakesUpTo : (n : ℕ) (old new : Option (List ℕ)) (bytes : List ℕ) → Type 0
TakesUpTo n None new bytes = length bytes ≤ n
TakesUpTo n (Some left) new bytes = (bytes ≡ take n left) × (new ≡ Some (drop n left))

-- a front of what was left was taken, where the source tells
abbrev pub TakesFront : (bytes : List ℕ) (old new : Option (List ℕ)) → Type 0
TakesFront bytes None new = Unit {0}
TakesFront bytes (Some left) new = (bytes ≡ take (length bytes) left) × (new ≡ Some (drop (length bytes) left))

-- what a fill of n bytes took
abbrev pub TakesBy : Filled → (n : ℕ) (before after : Option (List ℕ)) (bytes : List ℕ) → Type 0
TakesBy (filled.Read count) n before after bytes = (length bytes ≡ count) × TakesUpTo n before after bytes
TakesBy (filled.Failed count) n before after bytes = (length bytes ≡ count) × (length bytes < n) × TakesFront bytes before after

-- ---- memory

-- these bytes, and then what was behind as many
abbrev pub over_front : List ℕ → List ℕ → List ℕ
over_front bytes all = bytes ++ drop (length bytes) all

-- memory whose n bytes from an address on begin with these bytes now, where they could be written
abbrev pub front_over : List Region → (at : ℕ) → List ℕ → Option (List ℕ) → Option (List Region)
front_over regions at bytes None = None
front_over regions at bytes (Some all) = with_bytes regions at (over_front bytes all)

abbrev pub with_front : List Region → (at n : ℕ) → List ℕ → Option (List Region)
with_front regions at n bytes = front_over regions at bytes (bytes_at regions Write at n)

-- ---- both

-- n bytes of a region from an address on begin with what was taken
abbrev pub FillsRegion : Filled → (old new : Region) (at n : ℕ) (before after : Option (List ℕ)) → Type 0
FillsRegion answer old new at n before after =
    (bytes : List ℕ) × (length bytes ≤ n) × (new ≡ with_part old at (over_front bytes (part old at n))) × TakesBy answer n before after bytes × AreBytes bytes

-- n bytes of memory from an address on begin with what was taken
abbrev pub Fills : Filled → (old new : List Region) (at n : ℕ) (before after : Option (List ℕ)) → Type 0
Fills answer old new at n before after =
    (bytes : List ℕ) × (length bytes ≤ n) × (with_front old at n bytes ≡ Some new) × TakesBy answer n before after bytes × AreBytes bytes
