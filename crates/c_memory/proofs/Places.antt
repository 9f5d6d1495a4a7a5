-- Blocks by their numbers, and what stands under a number after a change.
use Rattle.std.proofs.Common.{◌⊎◌, inl, inr, ◌≡◌, ℕ, zero, suc, ◌-◌, ◌<◌, ◌≤◌, Some, None, List, [], ◌∷◌, length, get_or, refl, sym, ◌∙◌, arith}
use Rattle.std.specs.List.{slice_get}
use Rattle.std.proofs.lemmas.Option.{slice_get_read, slice_get_within, get_or_from_slice_get, slice_get_past}
use Rattle.c_memory.specs.Blocks.{Block, Heap, block_at, block_in, with_block, changed_at}

pub block_in-slice_get : (blocks : List Block) (place : ℕ) → block_in blocks place ≡ slice_get blocks place
block_in-slice_get [] place = refl
block_in-slice_get (block ∷ blocks) zero = refl
block_in-slice_get (block ∷ blocks) (suc place) = block_in-slice_get blocks place

-- the block with a number
pub block_at-place : (heap : Heap) (number : ℕ) → 0 < number → block_at heap number ≡ slice_get heap.blocks (number - 1)
block_at-place heap zero h = absurd (omega arith)
block_at-place heap (suc place) h = let e : suc place - 1 ≡ place = omega arith in rw e (block_in-slice_get heap.blocks place)

-- a block that stands at a place has the number behind it
pub block_at-read : (heap : Heap) (number : ℕ) (block : Block) → 0 < number → number ≤ length heap.blocks → block ≡ get_or heap.blocks (number - 1) block
    → block_at heap number ≡ Some block
block_at-read heap number block h within read =
    block_at-place heap number h ∙ slice_get_read heap.blocks (length heap.blocks) (number - 1) block refl (omega arith) read

-- where a block has a number
pub record Stands (heap : Heap) (number : ℕ) (block : Block) : Type 0 where
  pub above : 0 < number
  pub within : number - 1 < length heap.blocks
  pub is_there : (other : Block) → get_or heap.blocks (number - 1) other ≡ block

pub stands : (heap : Heap) (number : ℕ) (block : Block) → block_at heap number ≡ Some block → Stands heap number block
stands heap zero block e = cc
stands heap (suc place) block e =
    let same : suc place - 1 ≡ place = omega arith in
    let found : slice_get heap.blocks place ≡ Some block = sym (block_in-slice_get heap.blocks place) ∙ e in
    let inside = slice_get_within heap.blocks place block found in
    record {
      above = omega arith;
      within = rw same inside;
      is_there = λ other. rw same (get_or_from_slice_get heap.blocks place block other found);
    }

pub block_at-past : (heap : Heap) (number : ℕ) → (number ≡ 0) ⊎ (length heap.blocks < number) → block_at heap number ≡ None
block_at-past heap zero h = refl
block_at-past heap (suc place) h =
    let past : length heap.blocks ≤ place = elim h [ inl none ↦ omega arith | inr above ↦ omega arith ] in
    block_in-slice_get heap.blocks place ∙ slice_get_past heap.blocks place past

-- ---- a block is changed

-- what a read of its place gives
pub read_there : (heap : Heap) (number : ℕ) (block read : Block) → Stands heap number block → read ≡ get_or heap.blocks (number - 1) read → read ≡ block
read_there heap number block read there h = h ∙ there.is_there read

-- what a write of its place leaves
pub changed_there : (heap : Heap) (number : ℕ) (block new : Block) (change : Block → Block) → block_at heap number ≡ Some block → new ≡ change block
    → with_block heap number new ≡ changed_at heap number change (block_at heap number)
changed_there heap number block new change found h = rw (found, h) refl
