-- Reads and writes: which bytes an access touches, what it gives, and what it leaves.
use Rattle.std.specs.Prelude.{ℕ, ◌+◌, ◌-◌, ◌/◌, ◌%◌, ◌^◌, ◌==◌, nat_le, ◌&&◌, if◌then◌else◌, Bool, List, length, take, drop, replicate, slice_set, slice_index_or, Option, Some, None, Result, Ok, Err}
use Rattle.fsc_base.specs.declared.word.Word.{Word}
use Rattle.fsc_base.specs.declared.word.Width.{Width}
use Rattle.fsc_base.specs.declared.word.Width.TheVariants as width
use Rattle.c_memory.specs.declared.access.Outside.{Outside}
use Rattle.c_memory.specs.declared.access.WriteNo.{WriteNo}
use Rattle.c_memory.specs.declared.access.WriteNo.TheVariants as no
use Rattle.c_memory.specs.Bytes.{little_endian, little_endian_bytes, overwritten}
use Rattle.c_memory.specs.Blocks.{Block, Heap, block_at, is_live_object, with_block, words_of}

-- ---- which bytes

-- how many bytes an access of this width touches
abbrev pub bytes_of : Width → ℕ
bytes_of width.One = 1
bytes_of width.Two = 2
bytes_of width.Four = 4

-- how far a value lies behind a base, modulo 2 ^ 32
abbrev pub distance : (value base : ℕ) → ℕ
distance value base = (value + 2 ^ 32 - base) % 2 ^ 32

-- the offset of a word in its block; where no such block was made it is the value
abbrev pub offset_in : Option Block → (value : ℕ) → ℕ
offset_in None value = value
offset_in (Some block) value = distance value block.base

abbrev pub offset_of : Heap → Word → ℕ
offset_of heap at = offset_in (block_at heap at.block) at.value

-- n bytes from an offset on are within a live object
abbrev pub is_within : Block → (offset n : ℕ) → Bool
is_within block offset n = is_live_object block && nat_le (offset + n) block.size

-- the object that n bytes from a word on are within
abbrev pub object_around : Option Block → (value n : ℕ) → Option Block
object_around None value n = None
object_around (Some block) value n = if is_within block (distance value block.base) n then Some block else None

unfoldable pub within : Heap → Word → (n : ℕ) → Option Block
within heap at n = object_around (block_at heap at.block) at.value n

-- the access that is refused there
abbrev pub refused : Heap → Word → (n : ℕ) → Outside
refused heap at n = record { block = at.block; offset = offset_of heap at; width = n }

-- ---- reading

-- the base that an access gives: only a whole word at a multiple of 4 has one
abbrev pub base_in : Block → (offset n : ℕ) → ℕ
base_in block offset n = if (n == 4) && (offset % 4 == 0) then slice_index_or block.bases (offset / 4) 0 else 0

-- n bytes of a block as a word
abbrev pub word_in : Block → (offset n : ℕ) → Word
word_in block offset n = record { value = little_endian (take n (drop offset block.bytes)); block = base_in block offset n }

-- what a read gives
abbrev pub read_in : Heap → Word → (n : ℕ) → Option Block → Result Word Outside
read_in heap at n None = Err (refused heap at n)
read_in heap at n (Some block) = Ok (word_in block (distance at.value block.base) n)

unfoldable pub read_of : Heap → Word → Width → Result Word Outside
read_of heap at width = read_in heap at (bytes_of width) (within heap at (bytes_of width))

-- ---- writing

-- how many words n bytes from an offset on touch
abbrev pub touched : (offset n : ℕ) → ℕ
touched offset n = words_of (offset + n) - offset / 4

-- bases when those of all touched words are lost
abbrev pub cleared : List ℕ → (offset n : ℕ) → List ℕ
cleared bases offset n = overwritten bases (offset / 4) (replicate (touched offset n) 0)

-- a block with these bytes in it; each word that they touch loses its base
abbrev pub with_bytes : Block → (offset : ℕ) → List ℕ → Block
with_bytes block offset bytes =
    record block { bytes = overwritten block.bytes offset bytes; bases = cleared block.bases offset (length bytes) }

-- bases when a write of n bytes at an offset writes this one
abbrev pub with_base : List ℕ → (offset n base : ℕ) → List ℕ
with_base bases offset n base = if (n == 4) && (offset % 4 == 0) then slice_set bases (offset / 4) base else bases

-- a block with the n lowest bytes of a word in it, and its base where it is written whole at a multiple of 4
abbrev pub with_word : Block → (offset n : ℕ) → Word → Block
with_word block offset n what = let new = with_bytes block offset (little_endian_bytes n what.value) in
    record new { bases = with_base new.bases offset n what.block }

-- the heap after a change of the object around n bytes, unless it is sealed
abbrev pub written_in : Heap → Word → (n : ℕ) → (Block → Block) → Option Block → Result Heap WriteNo
written_in heap at n change None = Err (no.Outside (refused heap at n))
written_in heap at n change (Some block) =
    if block.is_sealed then Err (no.ReadOnly (refused heap at n)) else Ok (with_block heap at.block (change block))

-- what a write leaves
unfoldable pub write_of : Heap → Word → Width → Word → Result Heap WriteNo
write_of heap at width what = written_in heap at (bytes_of width)
    (λ (block : Block). with_word block (distance at.value block.base) (bytes_of width) what) (within heap at (bytes_of width))

-- what clearing n bytes, more than none, leaves
unfoldable pub clear_of : Heap → Word → (n : ℕ) → Result Heap WriteNo
clear_of heap at n = written_in heap at n
    (λ (block : Block). with_bytes block (distance at.value block.base) (replicate n 0)) (within heap at n)
