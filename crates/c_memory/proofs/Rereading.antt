-- What is read after a write of a whole word at a multiple of 4.
use Rattle.std.proofs.Common.{None, replicate, ◌≡◌, ℕ, ◌+◌, ◌/◌, ◌%◌, ◌^◌, ◌<◌, ◌≤◌, Some, Ok, length, take, drop, eq-eqb, sym, ap, ◌∙◌, arith}
use Rattle.std.proofs.lemmas.Bool.{cond-true}
use Rattle.std.proofs.lemmas.List.{get_or-set_same, length-replicate}
use Rattle.std.proofs.lemmas.Option.{same_Some}
use Rattle.fsc_base.specs.declared.word.Word.{Word}
use Rattle.fsc_base.specs.declared.word.Width.TheVariants.{Four}
use Rattle.c_memory.specs.Access.{base_in, cleared, distance, is_within, read_of, touched, with_word, within, word_in, write_of}
use Rattle.c_memory.specs.Blocks.{Block, Heap, block_at}
use Rattle.c_memory.specs.Bytes.{little_endian, little_endian_bytes}
use Rattle.c_memory.proofs.Accesses.{around}
use Rattle.c_memory.proofs.Changes.{block_at-changes, write_changes}
use Rattle.c_memory.proofs.LittleEndian.{length-little_endian_bytes, little_endian-word}
use Rattle.c_memory.proofs.Whole.{IsWhole, offset_fits}
use Rattle.c_memory.proofs.Overwriting.{length-overwritten, part-overwritten_same}

-- the value that was written
value_back : (block : Block) (offset : ℕ) (what : Word) → IsWhole block → offset + 4 ≤ block.size → what.value < 2 ^ 32
    → little_endian (take 4 (drop offset (with_word block offset 4 what).bytes)) ≡ what.value
value_back block offset what whole fits low =
    let bytes = whole.byte_count in
    ap little_endian (part-overwritten_same block.bytes offset (little_endian_bytes 4 what.value) 4 (omega arith) (length-little_endian_bytes 4 what.value))
    ∙ little_endian-word what.value low

-- and its base
base_back : (block : Block) (offset : ℕ) (what : Word) → IsWhole block → offset + 4 ≤ block.size → offset % 4 ≡ 0
    → base_in (with_word block offset 4 what) offset 4 ≡ what.block
base_back block offset what whole fits aligned =
    let bases = whole.base_count in
    let zeros : length (replicate {A = ℕ} (touched offset 4) 0) ≡ touched offset 4 = length-replicate (touched offset 4) 0 in
    let same = length-overwritten block.bases (offset / 4) (replicate (touched offset 4) 0) (omega arith) in
    let room : offset / 4 < length (cleared block.bases offset 4) = omega arith in
    rw (eq-eqb (offset % 4) 0 aligned) (get_or-set_same (cleared block.bases offset 4) (offset / 4) what.block 0 room)

pub word_in-with_word : (block : Block) (offset : ℕ) (what : Word) → IsWhole block → offset + 4 ≤ block.size → offset % 4 ≡ 0 → what.value < 2 ^ 32
    → word_in (with_word block offset 4 what) offset 4 ≡ what
word_in-with_word block offset what whole fits aligned low =
    ap (λ (value : ℕ). record { value = value; block = base_in (with_word block offset 4 what) offset 4 }) (value_back block offset what whole fits low)
    ∙ ap (λ (base : ℕ). record { value = what.value; block = base }) (base_back block offset what whole fits aligned)

-- a word that was written at a multiple of 4 is read there
pub read_of-written : (heap new : Heap) (at what : Word) (block : Block) → within heap at 4 ≡ Some block → IsWhole block
    → distance at.value block.base % 4 ≡ 0 → what.value < 2 ^ 32 → write_of heap at Four what ≡ Ok new → read_of new at Four ≡ Ok what
unfolding read_of within
read_of-written heap new at what block found whole aligned low h =
    let changes = write_changes heap new at Four what h in
    let same : changes.block ≡ block = same_Some changes.block block (sym changes.found ∙ found) in
    let there = around heap at 4 block found in
    let offset = distance at.value block.base in
    let stands_there : block_at new at.block ≡ Some (with_word block offset 4 what) =
    block_at-changes heap new at 4 (λ (b : Block). with_word b (distance at.value b.base) 4 what) changes
    ∙ ap (λ (b : Block). Some (with_word b (distance at.value b.base) 4 what)) same in
    let inside = cond-true (is_within block offset 4) (Some (with_word block offset 4 what)) None there.fits in
    rw (stands_there, inside) (ap (λ (w : Word). Ok w) (word_in-with_word block offset what whole (offset_fits block offset 4 there.fits) aligned low))
