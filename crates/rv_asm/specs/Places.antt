-- The table of places.
use Rattle.std.specs.Prelude.{◌≡◌, ℕ, ◌<◌, List, length, slice_index_or, Option, None}

-- the place of a label, where it has one
abbrev pub place_in : List (Option ℕ) → ℕ → Option ℕ
place_in places label = slice_index_or places label None

-- a label that is there and not bound
abbrev pub IsUnbound : List (Option ℕ) → ℕ → Type 0
IsUnbound places label = (label < length places) × (place_in places label ≡ None)
