-- What linking sees of a unit, whether it is a typed tree or fat code.
use Rattle.std.specs.Prelude.{ℕ, Bool, List}
use Rattle.fsc_base.specs.declared.word.Width.{Width}
use Rattle.c_ops.specs.declared.linkage.Linkage.{Linkage}
use Rattle.c_ops.specs.declared.linkage.Definition.{Definition}
use Rattle.c_types.specs.declared.node.TypeNode.{TypeNode}

-- What a piece of an object holds at the start: a number, or the address of what a symbol of the unit names, or of an object
-- of the unit, and so many bytes behind it.
pub data LinkValue : Type 0 where
  Number : (value : ℕ) → LinkValue
  Symbol : (symbol offset : ℕ) → LinkValue
  Object : (object offset : ℕ) → LinkValue

-- a value that stands in an object, at an offset from its start
pub record LinkPiece : Type 0 where
  pub offset : ℕ
  pub width : Width
  pub value : LinkValue

-- an object that is there from the start: its size in bytes, whether it is sealed, and what stands in it
pub record LinkObject : Type 0 where
  pub size : ℕ
  pub is_sealed : Bool
  pub pieces : List LinkPiece

-- A name with linkage: its type, by its index among the unit's types; whether an expression outside sizeof uses it; and what
-- defines it in its unit.
pub record LinkSymbol : Type 0 where
  pub name : List ℕ
  pub linkage : Linkage
  pub kind : ℕ
  pub is_used : Bool
  pub definition : Definition

-- A unit: its symbols, in order of their first declarations; how many functions it defines; its objects, in order of their
-- first tokens; its types; and its numbers of nodes and of struct and union types, which a program may have so many of.
pub record LinkView : Type 0 where
  pub symbols : List LinkSymbol
  pub functions : ℕ
  pub objects : List LinkObject
  pub types : List TypeNode
  pub nodes : ℕ
  pub records : ℕ
