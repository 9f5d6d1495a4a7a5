-- What a change of one block leaves of the others: writes, copies, ends of life, seals.
use Rattle.std.proofs.Common.{cond, replicate, ne_eqb, ◌≡◌, ℕ, zero, suc, ◌-◌, ◌<◌, Option, Some, None, Ok, Err, List, [], ◌∷◌, Bool, true, false, refl, ap, arith}
use Rattle.std.proofs.Math.ListN.{set}
use Rattle.fsc_base.specs.declared.word.Word.{Word}
use Rattle.fsc_base.specs.declared.word.Width.{Width}
use Rattle.c_memory.specs.declared.access.WriteNo.TheVariants as write_no
use Rattle.c_memory.specs.declared.access.CopyNo.TheVariants as copy_no
use Rattle.c_memory.specs.Access.{bytes_of, clear_of, distance, refused, with_bytes, with_word, within, write_of, written_in}
use Rattle.c_memory.specs.Blocks.{Block, Heap, block_at, block_in, changed_at, ended, killed, sealed, sealed_at, with_block}
use Rattle.c_memory.proofs.Accesses.{around}
use Rattle.c_memory.specs.Copying.{copied_in, copy_of, with_copy}

block_in-set_other : (blocks : List Block) (place other : ℕ) (block : Block) → (other ≡ place → ⊥) → block_in (set blocks place block) other ≡ block_in blocks other
block_in-set_other [] place other block h = refl
block_in-set_other (first ∷ blocks) zero zero block h = absurd (h refl)
block_in-set_other (first ∷ blocks) zero (suc other) block h = refl
block_in-set_other (first ∷ blocks) (suc place) zero block h = refl
block_in-set_other (first ∷ blocks) (suc place) (suc other) block h = block_in-set_other blocks place other block (λ e. h (ap suc e))

block_in-set_same : (blocks : List Block) (place : ℕ) (old block : Block) → block_in blocks place ≡ Some old → block_in (set blocks place block) place ≡ Some block
block_in-set_same [] place old block h = cc
block_in-set_same (first ∷ blocks) zero old block h = refl
block_in-set_same (first ∷ blocks) (suc place) old block h = block_in-set_same blocks place old block h

-- every other number has the block that it had
pub block_at-with_block_other : (heap : Heap) (number other : ℕ) (block : Block) → 0 < number → (other ≡ number → ⊥)
    → block_at (with_block heap number block) other ≡ block_at heap other
block_at-with_block_other heap zero other block h apart = absurd (omega arith)
block_at-with_block_other heap (suc place) zero block h apart = refl
block_at-with_block_other heap (suc place) (suc other) block h apart =
    let e : suc place - 1 ≡ place = omega arith in rw e (block_in-set_other heap.blocks place other block (λ same. apart (ap suc same)))

-- the number itself has the new one
pub block_at-with_block_same : (heap : Heap) (number : ℕ) (old block : Block) → block_at heap number ≡ Some old → block_at (with_block heap number block) number ≡ Some block
block_at-with_block_same heap zero old block h = cc
block_at-with_block_same heap (suc place) old block h =
    let e : suc place - 1 ≡ place = omega arith in rw e (block_in-set_same heap.blocks place old block h)

-- a block that was found has a number
found_above : (heap : Heap) (number : ℕ) (block : Block) → block_at heap number ≡ Some block → 0 < number
found_above heap zero block h = cc
found_above heap (suc place) block h = omega arith

-- ---- ends of life and seals

changed_other : (heap : Heap) (number other : ℕ) (change : Block → Block) (found : Option Block) → block_at heap number ≡ found → (other ≡ number → ⊥)
    → block_at (changed_at heap number change found) other ≡ block_at heap other
changed_other heap number other change None e apart = refl
changed_other heap number other change (Some block) e apart =
    block_at-with_block_other heap number other (change block) (found_above heap number block e) apart

pub block_at-killed_other : (heap : Heap) (number other : ℕ) → (other ≡ number → ⊥) → block_at (killed heap number) other ≡ block_at heap other
unfolding killed
block_at-killed_other heap number other apart = changed_other heap number other ended (block_at heap number) refl apart

pub block_at-sealed_other : (heap : Heap) (number other : ℕ) → (other ≡ number → ⊥) → block_at (sealed_at heap number) other ≡ block_at heap other
unfolding sealed_at
block_at-sealed_other heap number other apart = changed_other heap number other sealed (block_at heap number) refl apart

pub block_at-killed : (heap : Heap) (number : ℕ) (block : Block) → block_at heap number ≡ Some block → block_at (killed heap number) number ≡ Some (ended block)
unfolding killed
block_at-killed heap number block h = rw h (block_at-with_block_same heap number block (ended block) h)

pub block_at-sealed : (heap : Heap) (number : ℕ) (block : Block) → block_at heap number ≡ Some block → block_at (sealed_at heap number) number ≡ Some (sealed block)
unfolding sealed_at
block_at-sealed heap number block h = rw h (block_at-with_block_same heap number block (sealed block) h)

-- ---- writes, clearing and copies

-- one object was changed, which is not sealed
pub record Changes (heap new : Heap) (at : Word) (n : ℕ) (change : Block → Block) : Type 0 where
  pub block : Block
  pub found : within heap at n ≡ Some block
  pub is_open : block.is_sealed ≡ false
  pub left : new ≡ with_block heap at.block (change block)

unsealed : (heap new : Heap) (at : Word) (n : ℕ) (change : Block → Block) (block : Block) (is_sealed : Bool) → block.is_sealed ≡ is_sealed
    → within heap at n ≡ Some block
    → cond is_sealed (Err (write_no.ReadOnly (refused heap at n))) (Ok (with_block heap at.block (change block))) ≡ Ok new → Changes heap new at n change
unsealed heap new at n change block true e found h = cc
unsealed heap new at n change block false e found h = record { block = block; found = found; is_open = e; left = cc }

written_changes : (heap new : Heap) (at : Word) (n : ℕ) (change : Block → Block) (found : Option Block) → within heap at n ≡ found
    → written_in heap at n change found ≡ Ok new → Changes heap new at n change
written_changes heap new at n change None e h = cc
written_changes heap new at n change (Some block) e h = unsealed heap new at n change block block.is_sealed refl e h

pub write_changes : (heap new : Heap) (at : Word) (width : Width) (what : Word) → write_of heap at width what ≡ Ok new
    → Changes heap new at (bytes_of width) (λ (block : Block). with_word block (distance at.value block.base) (bytes_of width) what)
unfolding write_of
write_changes heap new at width what h =
    written_changes heap new at (bytes_of width)
    (λ (block : Block). with_word block (distance at.value block.base) (bytes_of width) what)
    (within heap at (bytes_of width))
    refl
    h

pub clear_changes : (heap new : Heap) (at : Word) (n : ℕ) → clear_of heap at n ≡ Ok new
    → Changes heap new at n (λ (block : Block). with_bytes block (distance at.value block.base) (replicate n 0))
unfolding clear_of
clear_changes heap new at n h =
    written_changes heap new at n (λ (block : Block). with_bytes block (distance at.value block.base) (replicate n 0)) (within heap at n) refl h

-- a copy changes its target by its source
pub record Copies (heap new : Heap) (to from : Word) (n : ℕ) : Type 0 where
  pub source : Block
  pub from_there : within heap from n ≡ Some source
  pub changed : Changes heap new to n (λ (target : Block). with_copy target source (distance to.value target.base) (distance from.value source.base) n)

copied_unsealed : (heap new : Heap) (to from : Word) (n : ℕ) (source target : Block) (is_sealed : Bool) → target.is_sealed ≡ is_sealed
    → within heap from n ≡ Some source → within heap to n ≡ Some target
    → cond is_sealed (Err (copy_no.ReadOnly (refused heap to n)))
    (Ok (with_block heap to.block (with_copy target source (distance to.value target.base) (distance from.value source.base) n)))
    ≡ Ok new
    → Copies heap new to from n
copied_unsealed heap new to from n source target true e from_there to_there h = cc
copied_unsealed heap new to from n source target false e from_there to_there h = record {
  source = source;
  from_there = from_there;
  changed = record { block = target; found = to_there; is_open = e; left = cc };
}

copied_changes : (heap new : Heap) (to from : Word) (n : ℕ) (source target : Option Block) → within heap from n ≡ source → within heap to n ≡ target
    → copied_in heap to from n source target ≡ Ok new → Copies heap new to from n
copied_changes heap new to from n None target f t h = cc
copied_changes heap new to from n (Some source) None f t h = cc
copied_changes heap new to from n (Some source) (Some target) f t h = copied_unsealed heap new to from n source target target.is_sealed refl f t h

pub copy_changes : (heap new : Heap) (to from : Word) (n : ℕ) → 0 < n → copy_of heap to from n ≡ Ok new → Copies heap new to from n
unfolding copy_of
copy_changes heap new to from n some h =
    copied_changes heap new to from n (within heap from n) (within heap to n) refl refl (let some_bytes = ne_eqb n 0 (λ e. omega arith) in rw some_bytes at h)

-- every other number has the block that it had, and its own has the changed one
pub block_at-changes_other : (heap new : Heap) (at : Word) (n : ℕ) (change : Block → Block) (other : ℕ) → Changes heap new at n change
    → (other ≡ at.block → ⊥) → block_at new other ≡ block_at heap other
block_at-changes_other heap new at n change other changes apart =
    let there = around heap at n changes.block changes.found in
    rw changes.left (block_at-with_block_other heap at.block other (change changes.block) (found_above heap at.block changes.block there.found) apart)

pub block_at-changes : (heap new : Heap) (at : Word) (n : ℕ) (change : Block → Block) (changes : Changes heap new at n change)
    → block_at new at.block ≡ Some (change changes.block)
block_at-changes heap new at n change changes =
    let there = around heap at n changes.block changes.found in
    rw changes.left (block_at-with_block_same heap at.block changes.block (change changes.block) there.found)
