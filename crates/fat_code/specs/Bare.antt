-- Types without their qualifiers, as tables.
use Rattle.std.specs.Prelude.{◌≡◌, ℕ, ◌+◌, ◌*◌, ◌<◌, List, length, get_or}
use Rattle.c_types.specs.declared.node.TypeNode.{TypeNode}
use Rattle.c_types.specs.Nodes.{unqualified, unqualified_in, unqualified_by}
use Rattle.fat_code.specs.declared.bare.Stripped.{Stripped}

-- the type that a qualified type qualifies; every other is itself
abbrev pub stepped : TypeNode → (id : ℕ) → ℕ
stepped node id = unqualified_in (λ of. of) id node

-- what a table says of a type
abbrev pub followed : (table : List ℕ) → (id : ℕ) → ℕ
followed table id = get_or table id id

-- a table has the first so many types without so many of their qualifiers
pub record IsAfter (nodes : List TypeNode) (steps count : ℕ) (table : List ℕ) : Type 0 where
  pub many : length table ≡ count
  pub each : (id : ℕ) → id < count → get_or table id 0 ≡ unqualified_by steps nodes id

-- all types, without any
pub record AreBare (nodes : List TypeNode) (table : List ℕ) : Type 0 where
  pub many : length table ≡ length nodes
  pub each : (id : ℕ) → id < length nodes → get_or table id 0 ≡ unqualified nodes id

-- So many were taken off, and so many more times a step, a power of 2, are as many as there are types.
pub record AreComing (nodes : List TypeNode) (stripped : Stripped) (left : ℕ) : Type 0 where
  pub done : ℕ
  pub step : ℕ
  pub sum : done + step * left ≡ length nodes
  pub done_is : IsAfter nodes done (length nodes) stripped.done.items
  pub step_is : IsAfter nodes step (length nodes) stripped.step.items
