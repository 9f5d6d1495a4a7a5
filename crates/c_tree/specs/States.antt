-- What a run goes through, and what a program is to it.
use Rattle.std.specs.Prelude.{ℕ, List, [], ◌∷◌, drop, slice_set, slice_index_or, Option, Bool}
use Rattle.fsc_base.specs.declared.word.Word.{Word}
use Rattle.fsc_base.specs.declared.word.WordKind.{WordKind}
use Rattle.c_memory.specs.Blocks.{Heap}
use Rattle.c_memory.specs.Addresses.{address_of}
use Rattle.c_ops.specs.Words.{plain}
use Rattle.c_ops.specs.Runs.{Action, Steps}
use Rattle.c_tree.specs.declared.expression.Symbol.{Symbol}
use Rattle.c_tree.specs.declared.expression.Symbol.TheVariants.{Named, Object}
use Rattle.c_tree.specs.Rows.{Todo}

-- ---- states

-- An activation: its unit, all rows of its function, its slots, the numbers of its entry blocks that are alive, in the order in
-- which they were made, and the number of the block of its extra words, or 0.
pub record Frame : Type 0 where
  pub unit : ℕ
  pub code : Todo
  pub slots : List Word
  pub blocks : List ℕ
  pub extra : ℕ

-- An activation that waits for a call to return: what it does then, and the words that are still wanted.
pub record Waiting : Type 0 where
  pub frame : Frame
  pub todo : Todo
  pub words : List Word

-- A moment of a run: what is to be done next, with the words that it finds, the last one first; the activation, those that wait,
-- the latest first, and memory.
pub record State : Type 0 where
  pub todo : Todo
  pub words : List Word
  pub frame : Frame
  pub callers : List Waiting
  pub heap : Heap

-- ---- programs

-- A function as a call sees it: its unit, how many parameters it has, whether it is variadic, what its arguments become in its
-- slots, what its entry does, and what it does itself.
pub record Callee : Type 0 where
  pub unit : ℕ
  pub parameters : ℕ
  pub is_variadic : Bool
  pub slots : List Word → List Word
  pub entry : Todo
  pub code : Todo

-- A program as a run sees it: the function that a block is, the blocks of the symbols and of the objects of each unit, and the
-- shape of each unit's types.
pub record Program : Type 0 where
  pub function_of : (block : ℕ) → Option Callee
  pub symbol_block : (unit symbol : ℕ) → ℕ
  pub object_block : (unit object : ℕ) → ℕ
  pub kinds : (unit kind : ℕ) → List WordKind

-- ---- words

abbrev pub zero_word : Word
zero_word = plain 0

abbrev pub head_or : {T : Type 0} → T → List T → T
head_or other [] = other
head_or other (x ∷ xs) = x

-- the word at a place, counted from 0; there always is one
abbrev pub word_at : List Word → ℕ → Word
word_at words i = head_or zero_word (drop i words)

abbrev pub slot_of : State → (slot : ℕ) → Word
slot_of s slot = word_at s.frame.slots slot

abbrev pub with_slot : State → (slot : ℕ) → Word → State
with_slot s slot word = record s { frame = record s.frame { slots = slice_set s.frame.slots slot word } }

-- the address of an entry block
abbrev pub entry_address : State → (entry : ℕ) → Word
entry_address s entry = address_of s.heap (slice_index_or s.frame.blocks entry 0)

-- the address of what a name with linkage stands for in the activation's unit
abbrev pub symbol_address : Program → State → Symbol → Word
symbol_address p s (Named i) = address_of s.heap (p.symbol_block s.frame.unit i)
symbol_address p s (Object i) = address_of s.heap (p.object_block s.frame.unit i)

-- ---- steps

-- it goes on with these rows and words
abbrev pub steps : State → Todo → List Word → Action State
steps s todo words = Steps 0 (record s { todo = todo; words = words })

-- it goes on with this memory, at so much besides the cost of a step
abbrev pub changes : (besides : ℕ) → State → Todo → List Word → Heap → Action State
changes besides s todo words heap = Steps besides (record s { todo = todo; words = words; heap = heap })
