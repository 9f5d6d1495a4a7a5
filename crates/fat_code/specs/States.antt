-- The states of the fat machine, and what a program says to them.
use Rattle.std.specs.Prelude.{ℕ, ◌==◌, Bool, false, List, [], ◌∷◌, ◌++◌, length, map, flat_map, replicate, find, zip, slice_get, slice_index_or, Option, Some, None}
use Rattle.std.specs.List.{enumerate_from}
use Rattle.fsc_base.specs.declared.word.Word.{Word}
use Rattle.fsc_base.specs.declared.word.WordKind.{WordKind}
use Rattle.c_memory.specs.Blocks.{Heap}
use Rattle.c_memory.specs.Addresses.{address_of}
use Rattle.c_ops.specs.declared.primitive.Primitive.TheVariants as primitive
use Rattle.c_shapes.specs.Runs.{Seen}
use Rattle.c_shapes.specs.Watch.{Watch}
use Rattle.fat_code.specs.declared.op.Op.{Op}
use Rattle.fat_code.specs.declared.op.Op.TheVariants as op
use Rattle.fat_code.specs.declared.program.ProgramParts.{ProgramParts}
use Rattle.fat_code.specs.declared.unit.FatFunction.{FatFunction}
use Rattle.fat_code.specs.declared.unit.FatObject.{FatObject}
use Rattle.fat_code.specs.declared.unit.FatParts.{FatParts}

-- ---- states

-- a block that an activation has still to make: that of its extra words, or an entry block of a size and shape
pub data Making : Type 0 where
  Extra : List Word → Making
  Entry : (size : ℕ) → (kinds : List WordKind) → Making

-- An activation: its unit, whether it has a block of extra words, its operations, the index of the next one, its slots, the number
-- of the first of its blocks that is alive, how many are, and those that are still to be made. Its blocks have numbers in a row,
-- that of the extra words first.
pub record FatFrame : Type 0 where
  pub unit : ℕ
  pub is_variadic : Bool
  pub ops : List Op
  pub pc : ℕ
  pub slots : List Word
  pub first : ℕ
  pub live : ℕ
  pub making : List Making

-- an activation that waits for a call to return, with its words
pub record FatCaller : Type 0 where
  pub frame : FatFrame
  pub words : List Word

-- a state: the activation, its words, the last one first, those that wait, the latest first, and memory
pub record FatState : Type 0 where
  pub frame : FatFrame
  pub words : List Word
  pub callers : List FatCaller
  pub heap : Heap

-- ---- blocks and shapes

-- the block with an index in the list of a unit; 0 where there is none
abbrev pub block_in : List (List ℕ) → (unit index : ℕ) → ℕ
block_in lists unit index = slice_index_or (slice_index_or lists unit []) index 0

-- the address of what a symbol of a unit means, and of an object
abbrev pub symbol_address : ProgramParts → Heap → (unit symbol : ℕ) → Word
symbol_address program heap unit symbol = address_of heap (block_in program.symbols unit symbol)

abbrev pub object_address : ProgramParts → Heap → (unit object : ℕ) → Word
object_address program heap unit object = address_of heap (block_in program.objects unit object)

-- the kinds of a shape of a unit
abbrev pub kinds_in : FatParts → (shape : ℕ) → List WordKind
kinds_in unit shape = slice_index_or unit.shapes shape []

abbrev pub kinds_at : Option FatParts → (shape : ℕ) → List WordKind
kinds_at None shape = []
kinds_at (Some unit) shape = kinds_in unit shape

abbrev pub kinds_of : ProgramParts → (unit shape : ℕ) → List WordKind
kinds_of program unit shape = kinds_at (slice_get program.units unit) shape

-- ---- functions

-- a function with its unit, and with its block
pub record Callee : Type 0 where
  pub block : ℕ
  pub unit : ℕ
  pub function : FatFunction

abbrev pub callee_of : (unit : ℕ) → (ℕ × FatFunction) → Callee
callee_of unit pair = record { block = pair.0; unit = unit; function = pair.1 }

-- the functions of a unit
abbrev pub callees_in : ProgramParts → (ℕ × FatParts) → List Callee
callees_in program unit = map (callee_of unit.0) (zip (slice_index_or program.functions unit.0 []) unit.1.functions)

-- those of all units
abbrev pub callees_of : ProgramParts → List Callee
callees_of program = flat_map (callees_in program) (enumerate_from 0 program.units)

-- the function that a block is
unfoldable pub function_at : ProgramParts → (block : ℕ) → Option Callee
function_at program block = find (λ (callee : Callee). callee.block == block) (callees_of program)

-- ---- the start

-- The run begins with a call of main, without arguments, and exits with what it gives. What calls it is no activation.
abbrev pub first_frame : FatFrame
first_frame = record {
  unit = 0;
  is_variadic = false;
  ops = op.Call 0 ∷ op.Primitive primitive.Exit ∷ [];
  pc = 0;
  slots = [];
  first = 0;
  live = 0;
  making = [];
}

abbrev pub start_of : ProgramParts → FatState
start_of program =
    record { frame = first_frame; words = address_of program.heap program.entry ∷ []; callers = []; heap = program.heap }

-- functions have no shape, and objects that of their declared type
abbrev pub shapes_in : FatParts → List (Option (List WordKind))
shapes_in unit = replicate (length unit.functions) None ++ map (λ (object : FatObject). Some (kinds_in unit object.shape)) unit.objects

abbrev pub start_watch : ProgramParts → Watch
start_watch program = record { shapes = flat_map shapes_in program.units; away = 0 }

abbrev pub start_seen : ProgramParts → Seen FatState
start_seen program = record { state = start_of program; watch = start_watch program }
