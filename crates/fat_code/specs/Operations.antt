-- How operations go on: with other words, with other memory, or with the end of the run.
use Rattle.std.specs.Prelude.{ℕ, ◌==◌, if◌then◌else◌, List, [], ◌∷◌, slice_index_or, slice_set, Option, Some, None, Result, Ok, Err}
use Rattle.fsc_base.specs.declared.word.Word.{Word}
use Rattle.fsc_base.specs.declared.end.End.TheVariants as end
use Rattle.c_memory.specs.declared.access.CopyNo.{CopyNo}
use Rattle.c_memory.specs.declared.access.Outside.{Outside}
use Rattle.c_memory.specs.declared.access.WriteNo.{WriteNo}
use Rattle.c_memory.specs.Blocks.{Heap, words_of}
use Rattle.c_memory.specs.Access.{clear_of}
use Rattle.c_memory.specs.Copying.{copy_of}
use Rattle.c_memory.specs.Ends.{outside_end, write_end, copy_end}
use Rattle.c_ops.specs.Words.{plain}
use Rattle.c_ops.specs.Runs.{Action, Steps, Stops}
use Rattle.fat_code.specs.States.{FatState}

-- ---- words

-- What an operation does with the last word, and with those below it. In a unit without faults there always is one.
abbrev pub popped : List Word → (Word → List Word → Action FatState) → Action FatState
popped [] act = Stops end.Abort
popped (word ∷ words) act = act word words

-- the same with the last two, the last one first
abbrev pub popped_two : List Word → (Word → Word → List Word → Action FatState) → Action FatState
popped_two words act = popped words (λ last rest. popped rest (act last))

-- ---- going on

-- it goes on with these words
abbrev pub goes : FatState → List Word → Action FatState
goes s words = Steps 0 (record s { words = words })

-- it goes on with this memory, at so much besides the cost of an operation
abbrev pub changes : (besides : ℕ) → FatState → List Word → Heap → Action FatState
changes besides s words heap = Steps besides (record s { words = words; heap = heap })

-- the next operation is another one of the function
abbrev pub at_op : (index : ℕ) → FatState → FatState
at_op index s = record s { frame = record s.frame { pc = index } }

-- a word is put into a slot
abbrev pub with_slot : (slot : ℕ) → Word → FatState → FatState
with_slot slot word s = record s { frame = record s.frame { slots = slice_set s.frame.slots slot word } }

abbrev pub slot_of : FatState → (slot : ℕ) → Word
slot_of s slot = slice_index_or s.frame.slots slot (plain 0)

-- ---- operators

-- what an operator gives; without it the divisor was 0
abbrev pub operates : FatState → List Word → Option Word → Action FatState
operates s words (Some word) = goes s (word ∷ words)
operates s words None = Stops end.Divide

-- ---- memory

-- a read, extended to a word
abbrev pub loads : FatState → List Word → (fit : Word → Word) → Result Word Outside → Action FatState
loads s words fit (Ok word) = goes s (fit word ∷ words)
loads s words fit (Err at) = Stops (outside_end at)

-- a write, at so much besides
abbrev pub stores : (besides : ℕ) → FatState → List Word → Result Heap WriteNo → Action FatState
stores besides s words (Ok heap) = changes besides s words heap
stores besides s words (Err refusal) = Stops (write_end refusal)

-- zero bytes, written as one write; without any nothing is tested. It costs their words besides.
abbrev pub clears : FatState → List Word → (at : Word) → (n : ℕ) → Action FatState
clears s words at n = if n == 0 then goes s words else stores (words_of n) s words (clear_of s.heap at n)

-- a copy, which costs its bytes besides
abbrev pub copies_to : (besides : ℕ) → FatState → List Word → Result Heap CopyNo → Action FatState
copies_to besides s words (Ok heap) = changes besides s words heap
copies_to besides s words (Err refusal) = Stops (copy_end refusal)

abbrev pub copies : FatState → List Word → (to from : Word) → (n : ℕ) → Action FatState
copies s words to from n = copies_to n s words (copy_of s.heap to from n)
