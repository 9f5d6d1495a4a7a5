-- What a store keeps true of its words and its cells.
use Rattle.std.specs.Prelude.{◌≡◌, ◌≢◌, ℕ, ◌+◌, ◌*◌, ◌-◌, ◌%◌, ◌^◌, ◌<◌, ◌≤◌, ◌⊎◌, List, length, slice_index}
use Rattle.block_header.specs.Headers.{header_at}
use Rattle.c_memory.specs.Storage.{class_of, live_in, bytes_of_cells, next_base}
use Rattle.cell_store.specs.Pools.{Pool, cell_size, free_of}
use Rattle.cell_store.specs.Making.{told_in}

-- a block was made and has a cell: it isn't dead
pub record HasCell (words : List ℕ) (made block : ℕ) : Type 0 where
  pub positive : 1 ≤ block
  pub known : block ≤ made
  pub used : 1 ≤ (header_at words block).desc

-- a cell of a class lies among the cells
pub record IsCell (pool : Pool) (bytes class cell : ℕ) : Type 0 where
  pub known : class < 30
  pub aligned : cell % 4 ≡ 0
  pub above : pool.bottom ≤ cell
  pub within : cell + cell_size class ≤ bytes

-- two cells have no byte in common
abbrev pub Apart : (a m b n : ℕ) → Type 0
Apart a m b n = (a + m ≤ b) ⊎ (b + n ≤ a)

-- a class has a free cell at this place of its list
pub record IsFree (pool : Pool) (class place : ℕ) : Type 0 where
  pub known : class < 30
  pub within : place < length (free_of pool class).cells

abbrev pub free_cell : Pool → (class place : ℕ) → ℕ
free_cell pool class place = slice_index (free_of pool class).cells place

-- the size of the cell of a block
abbrev pub cell_size_in : (words : List ℕ) → (block : ℕ) → ℕ
cell_size_in words block = cell_size (class_of (header_at words block).size)

-- Headers stand in front of the cells; the cells fill the rest of the region; each cell is free or belongs to one block; and
-- a class has taken as many cells as it has blocks and free cells.
pub record Kept (words : List ℕ) (made : ℕ) (pool : Pool) (base : ℕ) : Type 0 where
  pub region : 4 * length words < 2 ^ 32
  pub front : 16 * made ≤ pool.bottom
  pub aligned : pool.bottom % 4 ≡ 0
  pub back : pool.bottom + bytes_of_cells pool.taken 16 ≡ 4 * length words
  pub classes : length pool.taken ≡ 30
  pub lists : length pool.free ≡ 30
  pub counted : (class : ℕ) → class < 30 →
      live_in class (told_in words made) + length (free_of pool class).cells ≡ slice_index pool.taken class
  pub room : (class : ℕ) → class < 30 → 4 * length words < cell_size class * ((free_of pool class).room + 1)
  pub sizes : (b : ℕ) → HasCell words made b → (header_at words b).size < 2 ^ 32
  pub cells : (b : ℕ) → HasCell words made b →
      IsCell pool (4 * length words) (class_of (header_at words b).size) (header_at words b).cell
  pub frees : (class place : ℕ) → IsFree pool class place → IsCell pool (4 * length words) class (free_cell pool class place)
  pub cells_apart : (b c : ℕ) → HasCell words made b → HasCell words made c → b ≢ c →
      Apart (header_at words b).cell (cell_size_in words b) (header_at words c).cell (cell_size_in words c)
  pub cell_free : (b class place : ℕ) → HasCell words made b → IsFree pool class place →
      Apart (header_at words b).cell (cell_size_in words b) (free_cell pool class place) (cell_size class)
  pub frees_apart : (x i y j : ℕ) → IsFree pool x i → IsFree pool y j → (x ≢ y) ⊎ (i ≢ j) →
      Apart (free_cell pool x i) (cell_size x) (free_cell pool y j) (cell_size y)
  pub reach : base ≤ 2 ^ 32 - 2 ^ 16
  pub next : base ≡ next_base (record { blocks = told_in words made; greatest = pool.taken })
