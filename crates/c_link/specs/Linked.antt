-- What linking gives: the numbers of all blocks, memory at the start, and where the run begins.
use Rattle.std.specs.Prelude.{◌≡◌, ℕ, List}
use Rattle.c_memory.specs.Blocks.{Heap}
use Rattle.c_link.specs.Views.{LinkView}
use Rattle.c_link.specs.Library.{all_units}
use Rattle.c_link.specs.Blocks.{placed_units, functions_of, symbols_of, objects_of, entry_of}
use Rattle.c_link.specs.Start.{start_of}

-- For each unit the blocks of its functions, of its symbols, 0 for one without a block, and of its objects; memory at the
-- start; and the block of main.
pub record LinkProgram : Type 0 where
  pub functions : List (List ℕ)
  pub symbols : List (List ℕ)
  pub objects : List (List ℕ)
  pub heap : Heap
  pub entry : ℕ

-- the program of units in link order
abbrev pub program_of : List LinkView → LinkProgram
program_of units = record {
  functions = functions_of (placed_units units);
  symbols = symbols_of (placed_units units);
  objects = objects_of (placed_units units);
  heap = start_of units;
  entry = entry_of (placed_units units);
}

-- This is the program of the user's units and of those of the library that they want. It is one where no rule of linking is
-- broken.
abbrev pub Linked : (users library : List LinkView) → LinkProgram → Type 0
Linked users library program = program ≡ program_of (all_units users library)
