-- The rule of linking on types, and all rules together.
use Rattle.std.specs.Prelude.{ℕ, ◌⊎◌, ◌&&◌, not, Bool, false, IsTrue, List}
use Rattle.std.specs.List.{list_any}
use Rattle.fsc_base.specs.declared.rule.Rule.TheVariants.{M01}
use Rattle.c_types.specs.declared.node.TypeNode.{TypeNode}
use Rattle.c_types.specs.declared.node.TypeNode.TheVariants as node
use Rattle.c_types.specs.Agreeing.{Agrees}
use Rattle.c_types.specs.Nodes.{node_at, unqualified}
use Rattle.c_types.specs.Texts.{text_of}
use Rattle.c_link.specs.declared.fault.LinkFault.{LinkFault}
use Rattle.c_link.specs.Views.{LinkView}
use Rattle.c_link.specs.Names.{defines_function}
use Rattle.c_link.specs.Library.{added_units, all_units}
use Rattle.c_link.specs.Broken.{Declared, InOrder, AreOfName, BrokenProgram, fault}

-- ---- declarations that are compared

abbrev pub is_unknown_function : TypeNode → Bool
is_unknown_function (node.Function returns is_known parameters is_variadic) = not is_known
is_unknown_function _ = false

-- it declares a function without a prototype
abbrev pub lacks_prototype : Declared → Bool
lacks_prototype one = is_unknown_function (node_at one.types (unqualified one.types one.symbol.kind))

-- So old code may call the library without its headers: a declaration without a prototype of a function that an added unit
-- of the library defines is compared with no other one.
abbrev pub is_exempt : (users library : List LinkView) → Declared → Bool
is_exempt users library one = lacks_prototype one && list_any (defines_function one.symbol.name) (added_units users library)

abbrev pub AreCompared : (users library : List LinkView) → (first second : Declared) → Type 0
AreCompared users library first second = IsTrue (not (is_exempt users library first)) × IsTrue (not (is_exempt users library second))

-- ---- the rules

abbrev pub AreCompatible : (first second : Declared) → Type 0
AreCompatible first second = Agrees first.types first.symbol.kind second.types second.symbol.kind

abbrev pub type_text : Declared → List ℕ
type_text one = text_of one.types one.symbol.kind

-- M01: two declarations of a name that are compared have incompatible types. The texts are theirs, that of the earlier one first.
pub data BrokenTypes (users library : List LinkView) : LinkFault → Type 0 where
  incompatible : {name : List ℕ} {first second : Declared} → InOrder (all_units users library) first second → AreOfName name first second
      → AreCompared users library first second → (AreCompatible first second → ⊥)
      → BrokenTypes users library (fault M01 name (type_text first) (type_text second))

-- a rule of linking is broken so
abbrev pub BrokenLink : (users library : List LinkView) → LinkFault → Type 0
BrokenLink users library broken = BrokenTypes users library broken ⊎ BrokenProgram (all_units users library) broken
