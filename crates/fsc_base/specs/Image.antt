-- Sound images: what the machine can be started on.
use Rattle.std.specs.Prelude.{ℕ, ◌+◌, ◌^◌, ◌<◌, ◌≤◌, ◌⊎◌, List, [], ◌∷◌, length, sum_by, All}
use Rattle.fsc_base.specs.declared.image.Segment.{Segment}
use Rattle.fsc_base.specs.declared.image.Image.{Image}

-- a segment has room for its bytes, may be used for something, and ends within 32 bits of address
pub record IsSoundSegment (segment : Segment) : Type 0 where
  pub not_empty : 0 < segment.size
  pub roomy : length segment.bytes ≤ segment.size
  pub usable : (1 ≤ segment.flags) × (segment.flags ≤ 7)
  pub in_reach : segment.address + segment.size ≤ 2 ^ 32

-- one ends before the other begins
abbrev pub Apart : Segment → Segment → Type 0
Apart a b = (a.address + a.size ≤ b.address) ⊎ (b.address + b.size ≤ a.address)

-- no two of them overlap
abbrev pub AllApart : List Segment → Type 0
AllApart [] = Unit {0}
AllApart (segment ∷ others) = All (Apart segment) others × AllApart others

-- sizes in bytes
abbrev pub total_size : List Segment → ℕ
total_size segments = sum_by (λ (segment : Segment). segment.size) segments

-- an image that can be run
pub record IsSound (image : Image) : Type 0 where
  pub some : 0 < length image.segments
  pub few : length image.segments ≤ 64
  pub each : All IsSoundSegment image.segments
  pub apart : AllApart image.segments
  pub bounded : total_size image.segments ≤ 2 ^ 31
