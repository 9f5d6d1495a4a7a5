-- Copies: all bytes and bases are read first, then they are written.
use Rattle.std.specs.Prelude.{ℕ, zero, suc, ◌+◌, ◌*◌, ◌-◌, ◌/◌, ◌%◌, ◌==◌, nat_le, ◌&&◌, if◌then◌else◌, Bool, List, [], ◌∷◌, take, drop, slice_index_or, Option, Some, None, Result, Ok, Err}
use Rattle.fsc_base.specs.declared.word.Word.{Word}
use Rattle.c_memory.specs.declared.access.CopyNo.{CopyNo}
use Rattle.c_memory.specs.declared.access.CopyNo.TheVariants as no
use Rattle.c_memory.specs.Bytes.{overwritten}
use Rattle.c_memory.specs.Blocks.{Block, Heap, with_block}
use Rattle.c_memory.specs.Access.{distance, within, refused, touched}

-- word w of the target is covered whole by n bytes from an offset on, and the bytes that cover it come from a multiple of 4
abbrev pub is_whole : (to from n w : ℕ) → Bool
is_whole to from n w = nat_le to (4 * w) && (nat_le (4 * w + 4) (to + n) && ((from + (4 * w - to)) % 4 == 0))

-- the base that word w of the target gets: that of its source word where it is copied whole, else none
abbrev pub copied_base : List ℕ → (to from n w : ℕ) → ℕ
copied_base source to from n w = if is_whole to from n w then slice_index_or source ((from + (4 * w - to)) / 4) 0 else 0

-- the same for so many words from word w on
abbrev pub copied_bases : (count : ℕ) → List ℕ → (to from n w : ℕ) → List ℕ
copied_bases zero source to from n w = []
copied_bases (suc count) source to from n w = copied_base source to from n w ∷ copied_bases count source to from n (w + 1)

-- the target with n bytes of the source in it
abbrev pub with_copy : (target source : Block) → (to from n : ℕ) → Block
with_copy target source to from n = record target {
  bytes = overwritten target.bytes to (take n (drop from source.bytes));
  bases = overwritten target.bases (to / 4) (copied_bases (touched to n) source.bases to from n (to / 4));
}

-- what a copy of n bytes leaves, by the objects around its source and its target
abbrev pub copied_in : Heap → (to from : Word) → (n : ℕ) → (source target : Option Block) → Result Heap CopyNo
copied_in heap to from n None target = Err (no.Outside (refused heap from n))
copied_in heap to from n (Some source) None = Err (no.Outside (refused heap to n))
copied_in heap to from n (Some source) (Some target) =
    if target.is_sealed
    then Err (no.ReadOnly (refused heap to n))
    else Ok (with_block heap to.block (with_copy target source (distance to.value target.base) (distance from.value source.base) n))

-- a copy of no bytes does nothing and tests nothing
unfoldable pub copy_of : Heap → (to from : Word) → (n : ℕ) → Result Heap CopyNo
copy_of heap to from n = if n == 0 then Ok heap else copied_in heap to from n (within heap from n) (within heap to n)
