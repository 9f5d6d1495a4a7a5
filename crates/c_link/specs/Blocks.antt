-- The numbers of the blocks that are there from the start: from 1 on, for each unit in link order its functions and then its
-- objects.
use Rattle.std.specs.Prelude.{ℕ, zero, suc, ◌+◌, ◌&&◌, Bool, if◌then◌else◌, List, [], ◌∷◌, length, map, filter, flat_map, slice_index_or, codes}
use Rattle.c_ops.specs.declared.linkage.Definition.{Definition}
use Rattle.c_ops.specs.declared.linkage.Definition.TheVariants.{Missing, Function, Object}
use Rattle.c_link.specs.Views.{LinkSymbol, LinkView}
use Rattle.c_link.specs.Names.{names, is_external, is_defined, is_function, is_definition_of}

-- a unit with the numbers of its functions' and its objects' blocks
pub record Placed : Type 0 where
  pub unit : LinkView
  pub functions : List ℕ
  pub objects : List ℕ

-- so many numbers from one on
abbrev pub numbers_from : (first count : ℕ) → List ℕ
numbers_from first zero = []
numbers_from first (suc count) = first ∷ numbers_from (first + 1) count

-- a unit whose first block has this number
abbrev pub placed_at : (first : ℕ) → LinkView → Placed
placed_at first unit = record {
  unit = unit;
  functions = numbers_from first unit.functions;
  objects = numbers_from (first + unit.functions) (length unit.objects);
}

-- how many blocks a unit has
abbrev pub blocks_in : LinkView → ℕ
blocks_in unit = unit.functions + length unit.objects

-- units, one behind the other, from a number on
abbrev pub placed_from : (first : ℕ) → List LinkView → List Placed
placed_from first [] = []
placed_from first (unit ∷ units) = placed_at first unit ∷ placed_from (first + blocks_in unit) units

-- the units of a program
abbrev pub placed_units : List LinkView → List Placed
placed_units units = placed_from 1 units

-- ---- symbols

-- the block that a definition of a unit has; 0 for none
abbrev pub block_of : Placed → Definition → ℕ
block_of own Missing = 0
block_of own (Function i) = slice_index_or own.functions i 0
block_of own (Object i) = slice_index_or own.objects i 0

-- the blocks of the symbols of a unit that a test picks out
abbrev pub blocks_where : (LinkSymbol → Bool) → Placed → List ℕ
blocks_where test own = map (λ (symbol : LinkSymbol). block_of own symbol.definition) (filter test own.unit.symbols)

-- the first of these blocks in link order; 0 where there is none
abbrev pub first_where : (LinkSymbol → Bool) → List Placed → ℕ
first_where test units = slice_index_or (flat_map (blocks_where test) units) 0 0

-- the block that a symbol means which its own unit does not define: with external linkage what some unit defines under its
-- name
abbrev pub block_elsewhere : List Placed → LinkSymbol → ℕ
block_elsewhere units symbol = if is_external symbol.linkage then first_where (is_definition_of symbol.name) units else 0

-- the block that a symbol of a unit means; 0 for none
abbrev pub block_of_symbol : List Placed → Placed → LinkSymbol → ℕ
block_of_symbol units own symbol = if is_defined symbol.definition then block_of own symbol.definition else block_elsewhere units symbol

-- the blocks of the symbols of a unit
abbrev pub symbols_in : List Placed → Placed → List ℕ
symbols_in units own = map (block_of_symbol units own) own.unit.symbols

-- the same for each unit
abbrev pub symbols_of : List Placed → List (List ℕ)
symbols_of units = map (symbols_in units) units

-- the blocks of the functions of each unit, and of its objects
abbrev pub functions_of : List Placed → List (List ℕ)
functions_of units = map (λ (own : Placed). own.functions) units

abbrev pub objects_of : List Placed → List (List ℕ)
objects_of units = map (λ (own : Placed). own.objects) units

-- ---- main

-- the name main
abbrev pub main_name : List ℕ
main_name = codes "main"

-- the symbol is a function main with external linkage
abbrev pub is_main : LinkSymbol → Bool
is_main symbol = names main_name symbol && is_function symbol.definition

-- its block; 0 where there is none
abbrev pub entry_of : List Placed → ℕ
entry_of units = first_where is_main units
