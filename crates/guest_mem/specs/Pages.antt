-- The pages of a region. A page holds 4,096 bytes, a table 1,024 pages; an empty list stands for a page or a table that was
-- not made yet. Places are counted in bytes, from the start of the first page.
use Rattle.std.specs.Prelude.{◌≡◌, ℕ, ◌+◌, ◌/◌, ◌%◌, ◌<◌, ◌≤◌, ◌⊎◌, ◌==◌, not, Bool, IsTrue, List, [], length, map, replicate, slice_index_or, slice_set}
use Rattle.std.specs.List.{range_with_len}

-- ---- what was not made

-- so many zero bytes
unfoldable pub zeros : ℕ → List ℕ
zeros n = replicate n 0

-- so many pages or tables that were not made
unfoldable pub blanks : {X : Type 0} → ℕ → List (List X)
blanks {X} n = replicate n []

-- ---- what a place holds

-- the bytes of the page that has a place, none where it was not made
unfoldable pub page_at : List (List (List ℕ)) → (place : ℕ) → List ℕ
page_at tables place = slice_index_or (slice_index_or tables (place / 4194304) []) (place / 4096 % 1024) []

-- the byte at a place, zero where its page was not made
unfoldable pub byte_at : List (List (List ℕ)) → (place : ℕ) → ℕ
byte_at tables place = slice_index_or (page_at tables place) (place % 4096) 0

-- the page of a place was made
unfoldable pub is_made : List (List (List ℕ)) → (place : ℕ) → Bool
is_made tables place = not (length (page_at tables place) == 0)

-- the bytes at so many places from one on
unfoldable pub bytes_from : List (List (List ℕ)) → (place n : ℕ) → List ℕ
bytes_from tables place n = map (byte_at tables) (range_with_len place n)

-- of which of these a page was made
unfoldable pub made_from : List (List (List ℕ)) → (place n : ℕ) → List Bool
made_from tables place n = map (is_made tables) (range_with_len place n)

-- ---- whole tables and pages

-- a table has all its pages or was not made
abbrev pub IsTable : List (List ℕ) → Type 0
IsTable pages = (length pages ≡ 0) ⊎ (length pages ≡ 1024)

-- a page has all its bytes or was not made
abbrev pub IsPage : List ℕ → Type 0
IsPage page = (length page ≡ 0) ⊎ (length page ≡ 4096)

-- each table and each page is whole or was not made
pub record IsDirectory (tables : List (List (List ℕ))) : Type 0 where
  pub each_table : (i : ℕ) → IsTable (slice_index_or tables i [])
  pub each_page : (place : ℕ) → IsPage (page_at tables place)

-- ---- what changes

-- a page was made where it was not: no byte changes
pub record KeepsPage (old new : List ℕ) : Type 0 where
  pub bytes : (offset : ℕ) → slice_index_or new offset 0 ≡ slice_index_or old offset 0
  pub made : 0 < length old → 0 < length new
  pub whole : IsPage old → IsPage new

-- the same of each page of a table
pub record KeepsTable (old new : List (List ℕ)) : Type 0 where
  pub each : (k : ℕ) → KeepsPage (slice_index_or old k []) (slice_index_or new k [])
  pub table : IsTable new

-- some pages were made: no byte changes, and what was made stays
pub record Keeps (old new : List (List (List ℕ))) : Type 0 where
  pub bytes : (place : ℕ) → byte_at new place ≡ byte_at old place
  pub made : (place : ℕ) → IsTrue (is_made old place) → IsTrue (is_made new place)
  pub long : length new ≡ length old

-- these bytes were put at a place and behind it: no other byte changes, and no page is made
pub record Writes (old new : List (List (List ℕ))) (place : ℕ) (bytes : List ℕ) : Type 0 where
  pub written : (k : ℕ) → k < length bytes → byte_at new (place + k) ≡ slice_index_or bytes k 0
  pub others : (other : ℕ) → (other < place) ⊎ (place + length bytes ≤ other) → byte_at new other ≡ byte_at old other
  pub made : (other : ℕ) → is_made new other ≡ is_made old other
  pub long : length new ≡ length old

-- a page was made for each of so many places from one on
abbrev pub AreMade : List (List (List ℕ)) → (place n : ℕ) → Type 0
AreMade tables place n = (k : ℕ) → k < n → IsTrue (is_made tables (place + k))
