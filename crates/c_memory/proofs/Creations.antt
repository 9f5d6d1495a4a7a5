-- What a creation leaves of other blocks, and what stands under the new number.
use Rattle.std.proofs.Common.{◌≡◌, ℕ, zero, suc, ◌+◌, ◌<◌, ◌≤◌, Some, List, [], ◌∷◌, ◌++◌, length, refl, arith}
use Rattle.std.proofs.lemmas.List.{length_push}
use Rattle.fsc_base.specs.declared.word.Word.{Word}
use Rattle.fsc_base.specs.declared.word.Width.{Width}
use Rattle.c_memory.specs.Access.{read_of, within}
use Rattle.c_memory.specs.Blocks.{Block, Heap, block_at, block_in}
use Rattle.c_memory.specs.Storage.{created, new_block, next_base}
use Rattle.c_memory.specs.declared.kind.BlockKind.{BlockKind}
use Rattle.c_memory.proofs.Accesses.{read_of-same, within-same}

block_in_push : (blocks : List Block) (block : Block) (place : ℕ) → place < length blocks → block_in (blocks ++ block ∷ []) place ≡ block_in blocks place
block_in_push [] block place h = absurd (omega arith)
block_in_push (first ∷ blocks) block zero h = refl
block_in_push (first ∷ blocks) block (suc place) h = block_in_push blocks block place (omega arith)

block_in_pushed : (blocks : List Block) (block : Block) → block_in (blocks ++ block ∷ []) (length blocks) ≡ Some block
block_in_pushed [] block = refl
block_in_pushed (first ∷ blocks) block = block_in_pushed blocks block

-- there is one block more
pub length-created : (heap : Heap) (size : ℕ) (kind : BlockKind) → length (created heap size kind).blocks ≡ length heap.blocks + 1
unfolding created
length-created heap size kind = length_push heap.blocks (new_block (next_base heap) size kind)

-- every other number has the block that it had
pub block_at-created : (heap : Heap) (size : ℕ) (kind : BlockKind) (number : ℕ) → number ≤ length heap.blocks
    → block_at (created heap size kind) number ≡ block_at heap number
unfolding created
block_at-created heap size kind zero h = refl
block_at-created heap size kind (suc place) h = block_in_push heap.blocks (new_block (next_base heap) size kind) place (omega arith)

-- the new number has the new block
pub block_at-created_new : (heap : Heap) (size : ℕ) (kind : BlockKind)
    → block_at (created heap size kind) (suc (length heap.blocks)) ≡ Some (new_block (next_base heap) size kind)
unfolding created
block_at-created_new heap size kind = block_in_pushed heap.blocks (new_block (next_base heap) size kind)

-- an access of another block finds it where it was
pub within-created : (heap : Heap) (size : ℕ) (kind : BlockKind) (at : Word) (n : ℕ) → at.block ≤ length heap.blocks
    → within (created heap size kind) at n ≡ within heap at n
within-created heap size kind at n h = within-same (created heap size kind) heap at n (block_at-created heap size kind at.block h)

-- and reads what it read
pub read_of-created : (heap : Heap) (size : ℕ) (kind : BlockKind) (at : Word) (width : Width) → at.block ≤ length heap.blocks
    → read_of (created heap size kind) at width ≡ read_of heap at width
read_of-created heap size kind at width h = read_of-same (created heap size kind) heap at width (block_at-created heap size kind at.block h)
