-- The rules of linking but for types. A fault has the broken rule, the name for which it is broken, and up to two texts.
use Rattle.std.specs.Prelude.{◌≡◌, ℕ, ◌+◌, ◌-◌, ◌^◌, ◌<◌, ◌≤◌, ◌&&◌, ◌||◌, not, Bool, IsTrue, List, [], ◌∷◌, ◌++◌, map, slice_get, sum_by, Some}
use Rattle.std.specs.List.{list_any}
use Rattle.std.specs.Fmt.{decimal}
use Rattle.fsc_base.specs.declared.rule.Rule.{Rule}
use Rattle.fsc_base.specs.declared.rule.Rule.TheVariants.{M02, M03, M04, M05, M06}
use Rattle.c_memory.specs.Storage.{stored_of, next_base}
use Rattle.c_types.specs.declared.node.TypeNode.{TypeNode}
use Rattle.c_link.specs.declared.fault.LinkFault.{LinkFault}
use Rattle.c_link.specs.Views.{LinkSymbol, LinkView}
use Rattle.c_link.specs.Names.{is_external, is_defined, names, defines, defines_function}
use Rattle.c_link.specs.Blocks.{main_name}
use Rattle.c_link.specs.Start.{made_of}

-- ---- declarations

-- a symbol, with the number of its unit in link order, from 0, and the unit's types
pub record Declared : Type 0 where
  pub unit : ℕ
  pub types : List TypeNode
  pub symbol : LinkSymbol

abbrev pub declared_in : (number : ℕ) → LinkView → List Declared
declared_in number unit = map (λ (symbol : LinkSymbol). record { unit = number; types = unit.types; symbol = symbol }) unit.symbols

-- those of units from a number on, in link order
abbrev pub declared_from : (number : ℕ) → List LinkView → List Declared
declared_from number [] = []
declared_from number (unit ∷ units) = declared_in number unit ++ declared_from (number + 1) units

-- one of them
abbrev pub IsDeclared : List LinkView → Declared → Type 0
IsDeclared units one = (i : ℕ) × (slice_get (declared_from 0 units) i ≡ Some one)

-- one of them, and a later one
abbrev pub InOrder : List LinkView → (first second : Declared) → Type 0
InOrder units first second = (i j : ℕ) × (i < j) × (slice_get (declared_from 0 units) i ≡ Some first) × (slice_get (declared_from 0 units) j ≡ Some second)

-- both are the same name, with external linkage
abbrev pub AreOfName : (name : List ℕ) → (first second : Declared) → Type 0
AreOfName name first second = IsTrue (names name first.symbol) × IsTrue (names name second.symbol)

-- ---- definitions

-- it is used, and nothing defines it: with internal linkage its own unit alone can
abbrev pub has_definition : List LinkView → LinkSymbol → Bool
has_definition units symbol = is_defined symbol.definition || (is_external symbol.linkage && list_any (defines symbol.name) units)

abbrev pub is_undefined : List LinkView → LinkSymbol → Bool
is_undefined units symbol = symbol.is_used && not (has_definition units symbol)

-- ---- sums over all units

abbrev pub nodes_of : List LinkView → ℕ
nodes_of units = sum_by (λ (unit : LinkView). unit.nodes) units

abbrev pub records_of : List LinkView → ℕ
records_of units = sum_by (λ (unit : LinkView). unit.records) units

abbrev pub most_nodes : ℕ
most_nodes = 2 ^ 18

abbrev pub most_records : ℕ
most_records = 2 ^ 16

abbrev pub most_stored : ℕ
most_stored = 2 ^ 29

abbrev pub most_base : ℕ
most_base = 2 ^ 32 - 2 ^ 16

-- ---- the rules

abbrev pub fault : Rule → (name first second : List ℕ) → LinkFault
fault rule name first second = record { rule = rule; name = name; first = first; second = second }

-- a count is above its limit, which the program's function main answers for
abbrev pub above : Rule → (count limit : ℕ) → LinkFault
above rule count limit = fault rule main_name (decimal count) (decimal limit)

-- One row for each rule on names, definitions and counts, over all units in link order.
pub data BrokenProgram (units : List LinkView) : LinkFault → Type 0 where
  -- M02: a name has two definitions
  defined_twice : {name : List ℕ} {first second : Declared} → InOrder units first second → AreOfName name first second
      → IsTrue (is_defined first.symbol.definition) → IsTrue (is_defined second.symbol.definition)
      → BrokenProgram units (fault M02 name (decimal first.unit) (decimal second.unit))
  -- M03: a used name has no definition
  undefined : {one : Declared} → IsDeclared units one → IsTrue (is_undefined units one.symbol) → BrokenProgram units (fault M03 one.symbol.name [] [])
  -- M04: there is no function main
  no_main : IsTrue (not (list_any (defines_function main_name) units)) → BrokenProgram units (fault M04 main_name [] [])
  -- M05: too many nodes, or, where these are within their limit, too many struct and union types
  many_nodes : most_nodes < nodes_of units → BrokenProgram units (above M05 (nodes_of units) most_nodes)
  many_records : nodes_of units ≤ most_nodes → most_records < records_of units → BrokenProgram units (above M05 (records_of units) most_records)
  -- M06: the blocks don't fit the storage, or, where they do, the virtual bases. Both are counted as if each block had been made.
  much_stored : most_stored < stored_of (made_of units) → BrokenProgram units (above M06 (stored_of (made_of units)) most_stored)
  high_base : stored_of (made_of units) ≤ most_stored → most_base < next_base (made_of units)
      → BrokenProgram units (above M06 (next_base (made_of units)) most_base)
