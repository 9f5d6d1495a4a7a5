-- The part of a region that has cells, and the cells in it that are free.
use Rattle.std.specs.Prelude.{◌≡◌, ℕ, ◌+◌, ◌*◌, ◌^◌, ◌⊎◌, List, [], ◌∷◌, ◌++◌, slice_set, slice_index, slice_index_or}

-- Free cells by address, the next to be used at the end, and for how many there is room.
pub record FreeList : Type 0 where
  pub cells : List ℕ
  pub room : ℕ

-- Cells lie from an address on. For each class: how many were ever taken from the region, and which of them are free.
pub record Pool : Type 0 where
  pub bottom : ℕ
  pub taken : List ℕ
  pub free : List FreeList

-- how many bytes a cell of a class has
abbrev pub cell_size : (class : ℕ) → ℕ
cell_size class = 16 * 2 ^ class

abbrev pub no_list : FreeList
no_list = record { cells = []; room = 0 }

-- what is free of a class
abbrev pub free_of : Pool → (class : ℕ) → FreeList
free_of pool class = slice_index_or pool.free class no_list

-- the list with these cells in place of its own
abbrev pub with_cells : FreeList → List ℕ → FreeList
with_cells list cells = record list { cells = cells }

-- the pool with these cells free of a class
abbrev pub with_free : Pool → (class : ℕ) → List ℕ → Pool
with_free pool class cells = record pool { free = slice_set pool.free class (with_cells (free_of pool class) cells) }

-- a class has a free cell, which is taken
pub record TakesFree (old : Pool) (class cell : ℕ) (new : Pool) : Type 0 where
  pub rest : List ℕ
  pub were : (free_of old class).cells ≡ rest ++ cell ∷ []
  pub left : new ≡ with_free old class rest

-- it has none, and a new one is taken, right below all cells
pub record TakesNew (old : Pool) (class cell : ℕ) (new : Pool) : Type 0 where
  pub none : (free_of old class).cells ≡ []
  pub below : cell + cell_size class ≡ old.bottom
  pub left : new ≡ record old { bottom = cell; taken = slice_set old.taken class (slice_index old.taken class + 1) }

-- a class gives a cell
abbrev pub TakesCell : (old : Pool) (class cell : ℕ) (new : Pool) → Type 0
TakesCell old class cell new = TakesFree old class cell new ⊎ TakesNew old class cell new

-- the pool with one more free cell
abbrev pub with_freed : Pool → (class cell : ℕ) → Pool
with_freed pool class cell = with_free pool class ((free_of pool class).cells ++ cell ∷ [])
