-- A store that holds a heap: what its headers tell, and which creation fits.
use Rattle.std.proofs.Common.{◌≡◌, ℕ, suc, ◌+◌, ◌*◌, ◌-◌, ◌<◌, ◌≤◌, Bool, true, false, eqb, not, length, get_or, Some, refl, sym, ap, ◌∙◌, arith}
use Rattle.std.specs.Prelude.{◌&&◌}
use Rattle.std.proofs.lemmas.Bool.Decides.{nat_tests}
use Rattle.std.proofs.lemmas.List.{length_push}
use Rattle.c_memory.specs.declared.kind.BlockKind.{BlockKind}
use Rattle.c_memory.specs.declared.kind.BlockKind.TheVariants as kind
use Rattle.c_memory.specs.Blocks.{Block, Heap, block_at, is_live_object, is_object}
use Rattle.c_memory.specs.Storage.{class_of, created, live_in, new_block, next_base, raised, span, stored_of, FitsIn}
use Rattle.cell_store.specs.Layouts.{Layouts}
use Rattle.cell_store.specs.StandsFor.{Describes, HeaderWords, header_of}
use Rattle.cell_store.specs.Store.{Holds, IsLiveIn, IsMade, Store, header_in, memory_of}
use Rattle.cell_store.specs.Making.{StoreFits, told, told_in}
use Rattle.cell_store.proofs.Headings.{desc_of, size_of}
use Rattle.cell_store.proofs.HeapBlocks.{block_at_get, block_at_some}
use Rattle.cell_store.proofs.Sums.{sum_by_alike}
use Rattle.cell_store.proofs.Told.{counts, length_told, next_push, spans, told_at}

-- ---- what a header tells of its block

alive_by : (object live : Bool) (desc : ℕ) → (live ≡ false → desc ≡ 0) → (object ≡ false → desc ≡ 1) → (object && live ≡ true → 2 ≤ desc)
    → not (eqb desc 0) ≡ live
alive_by object false desc dead function whole = let is = dead refl in grind (arith, nat_tests)
alive_by false true desc dead function whole = let is = function refl in grind (arith, nat_tests)
alive_by true true desc dead function whole = let is = whole refl in grind (arith, nat_tests)

pub alive_is : (header : HeaderWords) (block : Block) → Describes header block → not (eqb header.desc 0) ≡ block.is_live
alive_is header block is = alive_by (is_object block.kind) block.is_live header.desc (λ e. (is.dead e).0) is.function is.object

object_by : (object live : Bool) (desc : ℕ) → (live ≡ false → desc ≡ 0) → (object ≡ false → desc ≡ 1) → 2 ≤ desc → object && live ≡ true
object_by false live desc dead function some = absurd (let is = function refl in omega arith)
object_by true false desc dead function some = absurd (let is = dead refl in omega arith)
object_by true true desc dead function some = refl

-- a block to fill a place
abbrev pub nothing : Block
nothing = new_block 0 0 kind.Alloc

counts_alike : (class : ℕ) (x y : Block) → x.size ≡ y.size → x.is_live ≡ y.is_live → counts class x ≡ counts class y
counts_alike class x y size live = rw (size, live) refl

stored_by : (one other : Heap) → length one.blocks ≡ length other.blocks → one.greatest ≡ other.greatest → stored_of one ≡ stored_of other
unfolding stored_of
stored_by one other long greatest = rw (long, greatest) refl

pub long_created : (heap : Heap) (size : ℕ) (maker : BlockKind) → length (created heap size maker).blocks ≡ suc (length heap.blocks)
unfolding created
long_created heap size maker = length_push heap.blocks (new_block (next_base heap) size maker) ∙ omega arith

pub next_after : (heap : Heap) (size : ℕ) (maker : BlockKind) → next_base (created heap size maker) ≡ next_base heap + span size
unfolding created
next_after heap size maker = next_push heap.blocks (new_block (next_base heap) size maker) _ heap.greatest

module _ (store : Store) (heap : Heap) (layouts : Layouts) (holds : Holds store heap layouts) where
  -- a block was made exactly where the heap has one of this number
  pub made_is_known : (b : ℕ) (d : Block) → IsMade store b → block_at heap b ≡ Some (get_or heap.blocks (b - 1) d)
  made_is_known b d made = block_at_some heap b d made.positive (omega (arith, made.known, holds.made))

  pub known_is_made : (b : ℕ) (block : Block) → block_at heap b ≡ Some block → IsMade store b
  known_is_made b block at =
      let is = block_at_get heap b block at in
      record { positive = is.positive; known = omega (arith, is.known, holds.made) }

  pub describes : (b : ℕ) (block : Block) → block_at heap b ≡ Some block → Describes (header_in store b) block
  describes = holds.stands.headers

  -- and it is a live object exactly where its descriptor is at least 2
  pub live_is_object : (b : ℕ) (block : Block) → block_at heap b ≡ Some block → IsLiveIn store b → is_live_object block ≡ true
  live_is_object b block at live =
      let is = describes b block at in
      object_by (is_object block.kind) block.is_live (header_in store b).desc (λ e. (is.dead e).0) is.function live.object

  pub object_is_live : (b : ℕ) (block : Block) → block_at heap b ≡ Some block → is_live_object block ≡ true → IsLiveIn store b
  object_is_live b block at object =
      let is = describes b block at in
      record { made = known_is_made b block at; object = is.object object }

  -- ---- counts

  as_long : length (told_in store.words store.made) ≡ length heap.blocks
  as_long = length_told store.words store.made ∙ holds.made

  at_place : (k : ℕ) (d : Block) → k < length heap.blocks → Describes (header_of (memory_of store.words) 0 (suc k)) (get_or heap.blocks k d)
  at_place k d h =
      let place : suc k - 1 ≡ k = omega arith in
      let at = block_at_some heap (suc k) d (omega arith) (omega arith) in
      holds.stands.headers (suc k) (get_or heap.blocks k d) (at ∙ ap (λ i. Some (get_or heap.blocks i d)) place)

  size_alike : (k : ℕ) (d : Block) → k < length heap.blocks → (get_or (told_in store.words store.made) k d).size ≡ (get_or heap.blocks k d).size
  size_alike k d h =
      let is = at_place k d h in
      ap (λ (x : Block). x.size) (told_at store.words store.made k d (omega (arith, h, holds.made))) ∙ sym (size_of store.words (suc k)) ∙ is.size

  live_alike : (k : ℕ) (d : Block) → k < length heap.blocks → (get_or (told_in store.words store.made) k d).is_live ≡ (get_or heap.blocks k d).is_live
  live_alike k d h =
      ap (λ (x : Block). x.is_live) (told_at store.words store.made k d (omega (arith, h, holds.made)))
      ∙ ap (λ n. not (eqb n 0)) (sym (desc_of store.words (suc k)))
      ∙ alive_is (header_of (memory_of store.words) 0 (suc k)) (get_or heap.blocks k d) (at_place k d h)

  pub live_told : (class : ℕ) → live_in class (told_in store.words store.made) ≡ live_in class heap.blocks
  unfolding live_in
  live_told class =
      sum_by_alike (counts class) (told_in store.words store.made) heap.blocks nothing as_long
      (λ k h. counts_alike class (get_or (told_in store.words store.made) k nothing) (get_or heap.blocks k nothing)
      (size_alike k nothing (omega (arith, h, as_long))) (live_alike k nothing (omega (arith, h, as_long))))

  pub next_told : next_base (told store) ≡ next_base heap
  unfolding next_base
  next_told =
      ap (λ n. 65536 + n) (sum_by_alike spans (told_in store.words store.made) heap.blocks nothing as_long
      (λ k h. ap span (size_alike k nothing (omega (arith, h, as_long)))))

  -- ---- what fits

  pub greatest_created : (size : ℕ) (maker : BlockKind) → (created (told store) size kind.Alloc).greatest ≡ (created heap size maker).greatest
  unfolding created
  greatest_created size maker =
      ap (λ l. raised l (class_of size) (live_in (class_of size) (told_in store.words store.made) + 1)) holds.greatest
      ∙ ap (λ n. raised heap.greatest (class_of size) (n + 1)) (live_told (class_of size))

  pub stored_created : (size : ℕ) (maker : BlockKind) → stored_of (created (told store) size kind.Alloc) ≡ stored_of (created heap size maker)
  stored_created size maker =
      stored_by (created (told store) size kind.Alloc) (created heap size maker)
      (long_created (told store) size kind.Alloc ∙ ap suc as_long ∙ sym (long_created heap size maker)) (greatest_created size maker)

  pub next_created : (size : ℕ) (maker : BlockKind) → next_base (created (told store) size kind.Alloc) ≡ next_base (created heap size maker)
  next_created size maker = next_after (told store) size kind.Alloc ∙ ap (λ n. n + span size) next_told ∙ sym (next_after heap size maker)

  -- a creation fits the store exactly where it fits the heap in so many bytes
  pub fits_heap : (size : ℕ) (maker : BlockKind) → StoreFits store size → FitsIn (4 * length store.words) heap size maker
  fits_heap size maker fits =
      record { storage = rw (← stored_created size maker) fits.storage; bases = rw (← next_created size maker) fits.bases }

  pub heap_fits : (size : ℕ) (maker : BlockKind) → FitsIn (4 * length store.words) heap size maker → StoreFits store size
  heap_fits size maker fits =
      record { storage = rw (stored_created size maker) fits.storage; bases = rw (next_created size maker) fits.bases }
