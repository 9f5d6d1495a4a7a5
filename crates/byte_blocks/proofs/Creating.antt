-- What a creation leaves, and whether it fits, by the counts.
use Rattle.std.proofs.Common.{◌≡◌, ℕ, ◌+◌, ◌-◌, ◌^◌, ◌<◌, ◌≤◌, List, [], ◌∷◌, ◌++◌, length, get_or, refl, sym, ap, ◌∙◌, subst, arith}
use Rattle.c_memory.specs.Blocks.{Block}
use Rattle.c_memory.specs.Storage.{class_of, created, live_in, new_block, next_base, raised, stored_of, Fits}
use Rattle.c_memory.specs.declared.kind.BlockKind.{BlockKind}
use Rattle.byte_blocks.specs.Counts.{Counts, IsWithinLimits, heap_of}
use Rattle.byte_blocks.specs.declared.tally.Tally.{Tally}
use Rattle.byte_blocks.proofs.Counting.{live_in-le-length}

-- so few blocks were made that their numbers are words
pub few_blocks : (blocks : List Block) (tally : Tally) → Counts blocks tally → IsWithinLimits tally → length blocks ≤ 2 ^ 25
unfolding stored_of
few_blocks blocks tally counts limits = let stored = counts.stored_is in let most = limits.storage in omega arith

pub few_live : (blocks : List Block) (tally : Tally) (class : ℕ) → class < 30 → Counts blocks tally → IsWithinLimits tally → get_or tally.live class 0 + 1 < 2 ^ 32
few_live blocks tally class below counts limits =
    let few = few_blocks blocks tally counts limits in
    let live = counts.live_is class below in
    let most = live_in-le-length class blocks in
    omega arith

-- the blocks and counts that a creation leaves are those of the heap with one more block
pub record IsNext (blocks : List Block) (tally new : Tally) (size : ℕ) (kind : BlockKind) : Type 0 where
  pub now_counts : Counts blocks tally
  pub then_counts : Counts (blocks ++ new_block tally.next_base size kind ∷ []) new
  pub then_greatest : new.greatest ≡ raised tally.greatest (class_of size) (live_in (class_of size) blocks + 1)

pub next_is : (blocks : List Block) (tally new : Tally) (size : ℕ) (kind : BlockKind) → IsNext blocks tally new size kind
    → heap_of (blocks ++ new_block tally.next_base size kind ∷ []) new ≡ created (heap_of blocks tally) size kind
unfolding created
next_is blocks tally new size kind next = rw (next.then_greatest, next.now_counts.base_is) refl

pub fits : (blocks : List Block) (tally new : Tally) (size : ℕ) (kind : BlockKind) → IsNext blocks tally new size kind → IsWithinLimits new
    → Fits (heap_of blocks tally) size kind
fits blocks tally new size kind next limits =
    let heap = next_is blocks tally new size kind next in
    record {
      storage = subst (λ (n : ℕ). n ≤ 2 ^ 29) (next.then_counts.stored_is ∙ ap stored_of heap) limits.storage;
      bases = subst (λ (n : ℕ). n ≤ 2 ^ 32 - 2 ^ 16) (next.then_counts.base_is ∙ ap next_base heap) limits.bases;
    }

pub limits : (blocks : List Block) (tally new : Tally) (size : ℕ) (kind : BlockKind) → IsNext blocks tally new size kind → Fits (heap_of blocks tally) size kind
    → IsWithinLimits new
limits blocks tally new size kind next fit =
    let heap = next_is blocks tally new size kind next in
    record {
      storage = subst (λ (n : ℕ). n ≤ 2 ^ 29) (sym (next.then_counts.stored_is ∙ ap stored_of heap)) fit.storage;
      bases = subst (λ (n : ℕ). n ≤ 2 ^ 32 - 2 ^ 16) (sym (next.then_counts.base_is ∙ ap next_base heap)) fit.bases;
    }
