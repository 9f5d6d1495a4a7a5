-- Blocks that a run makes and ends: which fit, what a block of extra words holds, and which block a word gives back.
use Rattle.std.specs.Prelude.{ℕ, ◌+◌, ◌-◌, ◌%◌, ◌^◌, ◌==◌, nat_le, ◌&&◌, if◌then◌else◌, Bool, true, false, List, [], ◌∷◌, Option, Some, None, Result, Ok, Err}
use Rattle.fsc_base.specs.declared.word.Word.{Word}
use Rattle.fsc_base.specs.declared.word.Width.TheVariants as width
use Rattle.c_memory.specs.declared.access.WriteNo.{WriteNo}
use Rattle.c_memory.specs.declared.kind.BlockKind.{BlockKind}
use Rattle.c_memory.specs.declared.kind.BlockKind.TheVariants as maker
use Rattle.c_memory.specs.Blocks.{Block, Heap, block_at}
use Rattle.c_memory.specs.Access.{offset_of, write_of}
use Rattle.c_memory.specs.Storage.{stored_of, next_base}

-- ---- which fit

-- a heap is within the limits of every run
abbrev pub is_fitting : Heap → Bool
is_fitting heap = nat_le (stored_of heap) (2 ^ 29) && nat_le (next_base heap) (2 ^ 32 - 2 ^ 16)

-- ---- extra words

-- the heap after a write that is not refused
abbrev pub unless_refused : Heap → Result Heap WriteNo → Heap
unless_refused heap (Ok after) = after
unless_refused heap (Err refusal) = heap

-- the word 4 bytes further on
abbrev pub next_word : Word → Word
next_word at = record at { value = (at.value + 4) % 2 ^ 32 }

-- words from an address on, one after the other, in a new block that is large enough for them
abbrev pub with_words : Heap → (at : Word) → List Word → Heap
with_words heap at [] = heap
with_words heap at (word ∷ words) = with_words (unless_refused heap (write_of heap at width.Four word)) (next_word at) words

-- ---- which block a word gives back

abbrev pub is_allocated : BlockKind → Bool
is_allocated maker.Alloc = true
is_allocated maker.Entry = false
is_allocated maker.Static = false
is_allocated maker.Function = false

-- the live block that the program asked for and whose first byte the word names
abbrev pub allocated_in : Option Block → (offset : ℕ) → Option Block
allocated_in None offset = None
allocated_in (Some block) offset = if is_allocated block.kind && (block.is_live && (offset == 0)) then Some block else None

abbrev pub allocated_at : Heap → Word → Option Block
allocated_at heap at = allocated_in (block_at heap at.block) (offset_of heap at)
