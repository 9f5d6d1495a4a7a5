-- A live object has as many bytes as its size, and a base for each of its words. Every change of a heap keeps that.
use Rattle.std.proofs.Common.{◌≡◌, ℕ, suc, ◌+◌, ◌/◌, ◌%◌, ◌==◌, ◌&&◌, cond, ◌<◌, ◌≤◌, inl, inr, nat_le, Bool, true, false, Option, Some, None, Ok, List, length, take, drop, replicate, leb-true, refl, sym, ap, ◌∙◌, subst, arith}
use Rattle.std.proofs.Math.ListN.{set}
use Rattle.std.proofs.lemmas.Bool.{and_parts, cases_eq, cases_lt}
use Rattle.std.proofs.lemmas.List.{length-drop, length-replicate, length-set, length-take-le}
use Rattle.std.proofs.lemmas.Option.{none-some, same_Some}
use Rattle.fsc_base.specs.declared.word.Word.{Word}
use Rattle.fsc_base.specs.declared.word.Width.{Width}
use Rattle.c_memory.specs.declared.kind.BlockKind.{BlockKind}
use Rattle.c_memory.specs.Access.{bytes_of, clear_of, cleared, distance, is_within, touched, with_bytes, with_word, write_of}
use Rattle.c_memory.specs.Blocks.{Block, Heap, block_at, changed_at, ended, is_live_object, is_object, killed, sealed, sealed_at, words_of}
use Rattle.c_memory.specs.Bytes.{little_endian_bytes}
use Rattle.c_memory.specs.Copying.{copied_bases, copy_of, with_copy}
use Rattle.c_memory.specs.Storage.{created, new_block, next_base}
use Rattle.c_memory.proofs.Accesses.{around}
use Rattle.c_memory.proofs.Changes.{Changes, block_at-changes, block_at-changes_other, block_at-killed, block_at-killed_other, block_at-sealed, block_at-sealed_other, clear_changes, copy_changes, write_changes}
use Rattle.c_memory.proofs.CopiedBases.{length-copied_bases}
use Rattle.c_memory.proofs.Creations.{block_at-created, block_at-created_new, length-created}
use Rattle.c_memory.proofs.LittleEndian.{length-little_endian_bytes}
use Rattle.c_memory.proofs.Overwriting.{length-overwritten}
use Rattle.c_memory.proofs.Places.{block_at-past}

-- ---- one block

-- as many bytes as its size, and a base for each of its words
pub record IsWhole (block : Block) : Type 0 where
  pub byte_count : length block.bytes ≡ block.size
  pub base_count : length block.bases ≡ words_of block.size

-- an access is within the block
pub offset_fits : (block : Block) (offset n : ℕ) → is_within block offset n ≡ true → offset + n ≤ block.size
offset_fits block offset n h = leb-true (offset + n) block.size (and_parts (is_live_object block) (nat_le (offset + n) block.size) h).1

-- and the block is alive
pub within_live : (block : Block) (offset n : ℕ) → is_within block offset n ≡ true → block.is_live ≡ true
within_live block offset n h =
    (and_parts (is_object block.kind) block.is_live (and_parts (is_live_object block) (nat_le (offset + n) block.size) h).0).1

pub IsWhole-new_block : (base size : ℕ) (kind : BlockKind) → IsWhole (new_block base size kind)
IsWhole-new_block base size kind = record { byte_count = length-replicate size 0; base_count = length-replicate (words_of size) 0 }

pub IsWhole-with_bytes : (block : Block) (offset : ℕ) (bytes : List ℕ) → offset + length bytes ≤ block.size → IsWhole block
    → IsWhole (with_bytes block offset bytes)
IsWhole-with_bytes block offset bytes fits whole =
    let count = whole.byte_count in
    let bases = whole.base_count in
    let zeros : length (replicate {A = ℕ} (touched offset (length bytes)) 0) ≡ touched offset (length bytes) = length-replicate (touched offset (length bytes)) 0 in
    record {
      byte_count = length-overwritten block.bytes offset bytes (omega arith) ∙ count;
      base_count = length-overwritten block.bases (offset / 4) (replicate (touched offset (length bytes)) 0) (omega arith) ∙ bases;
    }

length-with_base : (bases : List ℕ) (place base : ℕ) (test : Bool) → length (cond test (set bases place base) bases) ≡ length bases
length-with_base bases place base true = length-set bases place base
length-with_base bases place base false = refl

pub IsWhole-with_word : (block : Block) (offset n : ℕ) (what : Word) → offset + n ≤ block.size → IsWhole block → IsWhole (with_word block offset n what)
IsWhole-with_word block offset n what fits whole =
    let bytes : length (little_endian_bytes n what.value) ≡ n = length-little_endian_bytes n what.value in
    let put = IsWhole-with_bytes block offset (little_endian_bytes n what.value) (omega arith) whole in
    record {
      byte_count = put.byte_count;
      base_count = length-with_base (cleared block.bases offset (length (little_endian_bytes n what.value))) (offset / 4) what.block ((n == 4) && (offset % 4 == 0)) ∙ put.base_count;
    }

pub IsWhole-with_copy : (target source : Block) (to from n : ℕ) → to + n ≤ target.size → from + n ≤ source.size → IsWhole target → IsWhole source
    → IsWhole (with_copy target source to from n)
IsWhole-with_copy target source to from n fits there whole other =
    let count = whole.byte_count in
    let bases = whole.base_count in
    let behind = length-drop from source.bytes in
    let source_count = other.byte_count in
    let taken : length (take n (drop from source.bytes)) ≡ n = length-take-le n (drop from source.bytes) (omega arith) in
    let new = length-copied_bases (touched to n) source.bases to from n (to / 4) in
    record {
      byte_count = length-overwritten target.bytes to (take n (drop from source.bytes)) (omega arith) ∙ count;
      base_count = length-overwritten target.bases (to / 4) (copied_bases (touched to n) source.bases to from n (to / 4)) (omega arith) ∙ bases;
    }

-- ---- a heap

-- each of its live blocks is whole
abbrev pub AreWhole : Heap → Type 0
AreWhole heap = (number : ℕ) (block : Block) → block_at heap number ≡ Some block → block.is_live ≡ true → IsWhole block

pub AreWhole-created : (heap : Heap) (size : ℕ) (kind : BlockKind) → AreWhole heap → AreWhole (created heap size kind)
AreWhole-created heap size kind whole number block found alive =
    elim (cases_lt (length heap.blocks) number) [
      | inl above ↦
          elim (cases_eq number (suc (length heap.blocks))) [
            | inl same ↦
                let new : Some (new_block (next_base heap) size kind) ≡ Some block =
                sym (block_at-created_new heap size kind) ∙ ap (λ (k : ℕ). block_at (created heap size kind) k) (sym same) ∙ found in
                subst IsWhole (same_Some (new_block (next_base heap) size kind) block new) (IsWhole-new_block (next_base heap) size kind)
            | inr past ↦
                let count = length-created heap size kind in
                let none : block_at (created heap size kind) number ≡ None = block_at-past (created heap size kind) number (inr (omega arith)) in
                absurd (none-some block (sym none ∙ found))
          ]
      | inr there ↦ whole number block (sym (block_at-created heap size kind number there) ∙ found) alive
    ]

pub AreWhole-changes : (heap new : Heap) (at : Word) (n : ℕ) (change : Block → Block) → Changes heap new at n change
    → ((block : Block) → is_within block (distance at.value block.base) n ≡ true → IsWhole block → IsWhole (change block)) → AreWhole heap → AreWhole new
AreWhole-changes heap new at n change changes keeps whole number block found alive =
    elim (cases_eq number at.block) [
      | inl same ↦
          let there = around heap at n changes.block changes.found in
          let old = whole at.block changes.block there.found (within_live changes.block (distance at.value changes.block.base) n there.fits) in
          let is : change changes.block ≡ block =
          same_Some (change changes.block) block (sym (block_at-changes heap new at n change changes) ∙ ap (λ (k : ℕ). block_at new k) (sym same) ∙ found) in
          subst IsWhole is (keeps changes.block there.fits old)
      | inr apart ↦ whole number block (sym (block_at-changes_other heap new at n change number changes apart) ∙ found) alive
    ]

pub AreWhole-written : (heap new : Heap) (at : Word) (width : Width) (what : Word) → write_of heap at width what ≡ Ok new → AreWhole heap → AreWhole new
AreWhole-written heap new at width what h whole =
    AreWhole-changes heap new at (bytes_of width)
    (λ (block : Block). with_word block (distance at.value block.base) (bytes_of width) what)
    (write_changes heap new at width what h)
    (λ block fits old.
    IsWhole-with_word block (distance at.value block.base) (bytes_of width) what (offset_fits block (distance at.value block.base) (bytes_of width) fits) old)
    whole

pub AreWhole-cleared : (heap new : Heap) (at : Word) (n : ℕ) → clear_of heap at n ≡ Ok new → AreWhole heap → AreWhole new
AreWhole-cleared heap new at n h whole =
    let zeros : length (replicate {A = ℕ} n 0) ≡ n = length-replicate n 0 in
    AreWhole-changes heap new at n
    (λ (block : Block). with_bytes block (distance at.value block.base) (replicate n 0))
    (clear_changes heap new at n h)
    (λ block fits old.
    let inside = offset_fits block (distance at.value block.base) n fits in
    IsWhole-with_bytes block (distance at.value block.base) (replicate n 0) (rw zeros inside) old)
    whole

pub AreWhole-copied : (heap new : Heap) (to from : Word) (n : ℕ) → 0 < n → copy_of heap to from n ≡ Ok new → AreWhole heap → AreWhole new
AreWhole-copied heap new to from n some h whole =
    let copies = copy_changes heap new to from n some h in
    let source = copies.source in
    let there = around heap from n source copies.from_there in
    let source_whole = whole from.block source there.found (within_live source (distance from.value source.base) n there.fits) in
    AreWhole-changes heap new to n
    (λ (target : Block). with_copy target source (distance to.value target.base) (distance from.value source.base) n)
    copies.changed
    (λ target fits old.
    IsWhole-with_copy target source (distance to.value target.base) (distance from.value source.base) n
    (offset_fits target (distance to.value target.base) n fits)
    (offset_fits source (distance from.value source.base) n there.fits)
    old
    source_whole)
    whole

-- what stands under the number of a block whose life has ended is not alive
killed_one : (heap : Heap) (number : ℕ) (was : Option Block) → block_at heap number ≡ was → (block : Block) → block_at (killed heap number) number ≡ Some block
    → block.is_live ≡ true → IsWhole block
unfolding killed
killed_one heap number None e block found alive =
    let same : changed_at heap number ended (block_at heap number) ≡ heap = rw e refl in
    let there = rw same at found in
    absurd (none-some block (sym e ∙ there))
killed_one heap number (Some old) e block found alive =
    let is : ended old ≡ block = same_Some (ended old) block (sym (block_at-killed heap number old e) ∙ found) in
    let dead = ap (λ (b : Block). b.is_live) is in
    cc

sealed_one : (heap : Heap) (number : ℕ) → AreWhole heap → (was : Option Block) → block_at heap number ≡ was → (block : Block)
    → block_at (sealed_at heap number) number ≡ Some block → block.is_live ≡ true → IsWhole block
unfolding sealed_at
sealed_one heap number whole None e block found alive =
    let same : changed_at heap number sealed (block_at heap number) ≡ heap = rw e refl in
    let there = rw same at found in
    absurd (none-some block (sym e ∙ there))
sealed_one heap number whole (Some old) e block found alive =
    let is : sealed old ≡ block = same_Some (sealed old) block (sym (block_at-sealed heap number old e) ∙ found) in
    let live : old.is_live ≡ true = ap (λ (b : Block). b.is_live) is ∙ alive in
    let kept = whole number old e live in
    subst IsWhole is (record { byte_count = kept.byte_count; base_count = kept.base_count })

pub AreWhole-killed : (heap : Heap) (number : ℕ) → AreWhole heap → AreWhole (killed heap number)
AreWhole-killed heap number whole other block found alive =
    elim (cases_eq other number) [
      | inl same ↦ killed_one heap number (block_at heap number) refl block (ap (λ (k : ℕ). block_at (killed heap number) k) (sym same) ∙ found) alive
      | inr apart ↦ whole other block (sym (block_at-killed_other heap number other apart) ∙ found) alive
    ]

pub AreWhole-sealed_at : (heap : Heap) (number : ℕ) → AreWhole heap → AreWhole (sealed_at heap number)
AreWhole-sealed_at heap number whole other block found alive =
    elim (cases_eq other number) [
      | inl same ↦ sealed_one heap number whole (block_at heap number) refl block (ap (λ (k : ℕ). block_at (sealed_at heap number) k) (sym same) ∙ found) alive
      | inr apart ↦ whole other block (sym (block_at-sealed_other heap number other apart) ∙ found) alive
    ]
