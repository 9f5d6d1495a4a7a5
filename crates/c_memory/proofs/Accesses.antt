-- What an access is within, and what a change there leaves.
use Rattle.std.proofs.Common.{◌≡◌, ℕ, Option, Some, None, Ok, Err, true, false, refl, sym, ap, ◌∙◌}
use Rattle.std.proofs.lemmas.Bool.{cond-false}
use Rattle.std.proofs.lemmas.Option.{cond_some}
use Rattle.fsc_base.specs.declared.word.Word.{Word}
use Rattle.fsc_base.specs.declared.word.Width.{Width}
use Rattle.c_memory.specs.declared.access.WriteNo.TheVariants as write_no
use Rattle.c_memory.specs.declared.access.CopyNo.TheVariants as copy_no
use Rattle.c_memory.specs.Access.{bytes_of, distance, is_within, object_around, read_in, read_of, refused, within, written_in}
use Rattle.c_memory.specs.Blocks.{Block, Heap, block_at, with_block}
use Rattle.c_memory.specs.Copying.{copied_in, with_copy}

-- n bytes from a word on are within an object
pub record Around (heap : Heap) (at : Word) (n : ℕ) (block : Block) : Type 0 where
  pub found : block_at heap at.block ≡ Some block
  pub fits : is_within block (distance at.value block.base) n ≡ true

around_in : (heap : Heap) (at : Word) (n : ℕ) (block : Block) (there : Option Block) → block_at heap at.block ≡ there → object_around there at.value n ≡ Some block
    → Around heap at n block
around_in heap at n block None e h = cc
around_in heap at n block (Some other) e h =
    let parts = cond_some (is_within other (distance at.value other.base) n) other block h in
    record {
      found = e ∙ ap (λ (b : Block). Some b) parts.1;
      fits = ap (λ (b : Block). is_within b (distance at.value b.base) n) (sym parts.1) ∙ parts.0;
    }

pub around : (heap : Heap) (at : Word) (n : ℕ) (block : Block) → within heap at n ≡ Some block → Around heap at n block
unfolding within
around heap at n block h = around_in heap at n block (block_at heap at.block) refl h

-- what a write leaves
pub written_there : (heap : Heap) (at : Word) (n : ℕ) (change : Block → Block) (block new : Block) → within heap at n ≡ Some block → block.is_sealed ≡ false
    → new ≡ change block → written_in heap at n change (within heap at n) ≡ Ok (with_block heap at.block new)
written_there heap at n change block new found open_there h =
    rw (found, h) (cond-false block.is_sealed (Err (write_no.ReadOnly (refused heap at n))) (Ok (with_block heap at.block (change block))) open_there)

-- what a copy leaves
pub copied_there : (heap : Heap) (to from : Word) (n : ℕ) (source target new : Block) → within heap from n ≡ Some source → within heap to n ≡ Some target
    → target.is_sealed ≡ false → new ≡ with_copy target source (distance to.value target.base) (distance from.value source.base) n
    → copied_in heap to from n (within heap from n) (within heap to n) ≡ Ok (with_block heap to.block new)
copied_there heap to from n source target new from_there to_there open_there h =
    rw (from_there, to_there, h)
    (
    cond-false target.is_sealed
    (Err (copy_no.ReadOnly (refused heap to n)))
    (Ok (with_block heap to.block (with_copy target source (distance to.value target.base) (distance from.value source.base) n)))
    open_there
    )

-- ---- the same block

-- an access finds what it found where the block of its word is the same
pub within-same : (new heap : Heap) (at : Word) (n : ℕ) → block_at new at.block ≡ block_at heap at.block → within new at n ≡ within heap at n
unfolding within
within-same new heap at n h = rw h refl

read_in-same : (new heap : Heap) (at : Word) (n : ℕ) (found : Option Block) → block_at new at.block ≡ block_at heap at.block
    → read_in new at n found ≡ read_in heap at n found
read_in-same new heap at n None h = rw h refl
read_in-same new heap at n (Some block) h = refl

-- and reads what it read
pub read_of-same : (new heap : Heap) (at : Word) (width : Width) → block_at new at.block ≡ block_at heap at.block → read_of new at width ≡ read_of heap at width
unfolding read_of
read_of-same new heap at width h =
    ap (λ (found : Option Block). read_in new at (bytes_of width) found) (within-same new heap at (bytes_of width) h)
    ∙ read_in-same new heap at (bytes_of width) (within heap at (bytes_of width)) h
