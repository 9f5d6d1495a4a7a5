-- What is asked about a block by its number.
use Rattle.std.specs.Prelude.{◌≡◌, ℕ, ◌&&◌, not, if◌then◌else◌, Bool, false, Option, Some, None, is_some}
use Rattle.c_memory.specs.declared.kind.BlockKind.{BlockKind}
use Rattle.c_memory.specs.declared.kind.BlockKind.TheVariants as kind
use Rattle.c_memory.specs.Blocks.{Block, Heap, block_at, is_live_object, is_object}

-- a block was made under a number
abbrev pub is_made : Heap → ℕ → Bool
is_made heap number = is_some (block_at heap number)

-- it is a live object
abbrev pub lives_in : Option Block → Bool
lives_in None = false
lives_in (Some block) = is_live_object block

abbrev pub lives : Heap → ℕ → Bool
lives heap number = lives_in (block_at heap number)

-- what a block is; a dead object is nothing
abbrev pub kind_of : Block → Option BlockKind
kind_of block = if is_object block.kind && not block.is_live then None else Some block.kind

-- what the block with a number is, where one was made
abbrev pub kind_in : Option Block → Option BlockKind
kind_in None = None
kind_in (Some block) = kind_of block

abbrev pub kind_at : Heap → ℕ → Option BlockKind
kind_at heap number = kind_in (block_at heap number)

-- a block was made under a number, and refuses writes
abbrev pub is_sealed_in : Option Block → Bool
is_sealed_in None = false
is_sealed_in (Some block) = block.is_sealed

abbrev pub is_sealed_at : Heap → ℕ → Bool
is_sealed_at heap number = is_sealed_in (block_at heap number)

-- a function has no bytes
abbrev pub HasSizeOfKind : (size : ℕ) → BlockKind → Type 0
HasSizeOfKind size kind.Function = size ≡ 0
HasSizeOfKind size kind.Static = Unit {0}
HasSizeOfKind size kind.Entry = Unit {0}
HasSizeOfKind size kind.Alloc = Unit {0}
