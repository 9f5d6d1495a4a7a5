-- Addresses of blocks.
use Rattle.std.specs.Prelude.{ℕ, Option, Some, None}
use Rattle.fsc_base.specs.declared.word.Word.{Word}
use Rattle.c_memory.specs.Blocks.{Block, Heap, block_at}

-- the address of a block is the word of its virtual base and its number; where none was made it is null
abbrev pub address_in : Option Block → (number : ℕ) → Word
address_in None number = record { value = 0; block = 0 }
address_in (Some block) number = record { value = block.base; block = number }

abbrev pub address_of : Heap → (number : ℕ) → Word
address_of heap number = address_in (block_at heap number) number
