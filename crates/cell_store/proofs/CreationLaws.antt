-- A store that holds a heap holds it with one more block after a creation.
use Rattle.std.proofs.Common.{◌≡◌, ◌≢◌, ℕ, suc, ◌+◌, ◌*◌, ◌^◌, ◌<◌, ◌≤◌, ◌⊎◌, inl, inr, Bool, true, false, length, replicate, Some, refl, sym, ap, ◌∙◌, arith, subst, lit<, max}
use Rattle.std.specs.Prelude.{◌&&◌, All, slice_index}
use Rattle.std.proofs.lemmas.List.{get_or-replicate, length-set, length-replicate}
use Rattle.c_memory.specs.declared.kind.BlockKind.{BlockKind}
use Rattle.c_memory.specs.declared.kind.BlockKind.TheVariants as kind
use Rattle.c_memory.specs.Blocks.{Block, Heap, block_at, is_live_object, is_object, words_of}
use Rattle.c_memory.specs.Sound.{IsBlock, IsFilled, IsHeap}
use Rattle.c_memory.specs.Storage.{class_of, created, live_in, new_block, next_base, raised}
use Rattle.cell_store.specs.Layouts.{AreLayouts, Layouts}
use Rattle.cell_store.specs.StandsFor.{Describes, HeaderWords, IsBlank, Keeps, LiesIn, StandsFor}
use Rattle.cell_store.specs.Store.{Holds, IsLiveIn, Store, header_in, memory_of}
use Rattle.cell_store.specs.Held.{MakesKind}
use Rattle.cell_store.specs.Making.{LiesApart, Makes}
use Rattle.cell_store.proofs.CellLaws.{blank_laid_out, cell_word, keeps_along}
use Rattle.cell_store.proofs.HeapBlocks.{block_at_pushed}
use Rattle.cell_store.proofs.HeldLaws.{greatest_created, known_is_made, long_created, next_told, object_is_live}

-- ---- the heap stays sound

all_zero : (n limit : ℕ) → 0 < limit → All (λ x. x < limit) (replicate n 0)
all_zero n limit h = λ k d lt. subst (λ x. x < limit) (sym (get_or-replicate n k 0 d (omega (arith, lt, length-replicate {A = ℕ} n 0)))) h

filled_new : (base size : ℕ) (maker : BlockKind) → IsFilled (new_block base size maker)
filled_new base size maker = record {
  bytes = length-replicate size 0;
  bases = length-replicate (words_of size) 0;
  are_bytes = all_zero size 256 (lit< tt);
  are_numbers = all_zero (words_of size) (2 ^ 32) (lit< tt);
}

sound_by : (heap : Heap) (size : ℕ) (maker : BlockKind) → IsHeap heap → size < 2 ^ 32 → next_base heap < 2 ^ 32 → (b : ℕ) (block : Block)
    → (block_at heap b ≡ Some block) ⊎ ((b ≡ suc (length heap.blocks)) × (block ≡ new_block (next_base heap) size maker)) → IsBlock block
sound_by heap size maker sound small reach b block (inl at) = sound.blocks b block at
sound_by heap size maker sound small reach b block (inr new) =
    subst IsBlock (sym new.1) (record { size = small; base = reach; filled = λ e. filled_new (next_base heap) size maker })

pub created_at : (heap : Heap) (size : ℕ) (maker : BlockKind) (b : ℕ) (block : Block) → block_at (created heap size maker) b ≡ Some block
    → (block_at heap b ≡ Some block) ⊎ ((b ≡ suc (length heap.blocks)) × (block ≡ new_block (next_base heap) size maker))
unfolding created
created_at heap size maker b block at = block_at_pushed heap.blocks (new_block (next_base heap) size maker)
    (raised heap.greatest (class_of size) (live_in (class_of size) heap.blocks + 1)) heap.greatest b block at

greatest_long : (heap : Heap) (size : ℕ) (maker : BlockKind) → length heap.greatest ≡ 30 → length (created heap size maker).greatest ≡ 30
unfolding created
greatest_long heap size maker h = length-set heap.greatest (class_of size) (max (slice_index heap.greatest (class_of size)) (live_in (class_of size) heap.blocks + 1)) ∙ h

pub created_sound : (heap : Heap) (size : ℕ) (maker : BlockKind) → IsHeap heap → size < 2 ^ 32 → next_base heap < 2 ^ 32 → IsHeap (created heap size maker)
created_sound heap size maker sound small reach = record {
  blocks = λ b block at. sound_by heap size maker sound small reach b block (created_at heap size maker b block at);
  greatest = greatest_long heap size maker sound.greatest;
}

-- ---- descriptors of kinds

not_object : (maker : BlockKind) → maker ≡ kind.Function → is_object maker ≡ true → ⊥
not_object maker is object = let no : false ≡ true = rw is at object in cc

object_by : (object : Bool) → object && true ≡ true → object ≡ true
object_by true h = refl
object_by false h = h

object_true : (maker : BlockKind) → is_object maker && true ≡ true → is_object maker ≡ true
object_true maker h = object_by (is_object maker) h

object_maker : (size base : ℕ) (maker : BlockKind) → is_live_object (new_block base size maker) ≡ true → is_object maker ≡ true
object_maker size base maker h = object_true maker h

apart_by : (cell words : ℕ) (header : HeaderWords) (size : ℕ) → header.size ≡ size → LiesApart cell (2 * words) header
    → (cell + 8 * words ≤ header.cell) ⊎ (header.cell + 8 * words_of size ≤ cell)
apart_by cell words header size is (inl before) = inl (omega (arith, before))
apart_by cell words header size is (inr behind) = inr (omega (arith, behind, ap words_of is))

-- the cells of two headers, of so many bytes, lie apart
abbrev pub ApartBy : (one other : HeaderWords) → (m n : ℕ) → Type 0
ApartBy one other m n = (one.cell + m ≤ other.cell) ⊎ (other.cell + n ≤ one.cell)

pub as_headers : (one other one2 other2 : HeaderWords) (m n : ℕ) → one ≡ one2 → other ≡ other2 → ApartBy one other m n → ApartBy one2 other2 m n
as_headers one other one2 other2 m n e f apart =
    subst (λ (h : HeaderWords). ApartBy h other2 m n) e (subst (λ (h : HeaderWords). ApartBy one h m n) f apart)

turn : (a m b n : ℕ) → (a + m ≤ b) ⊎ (b + n ≤ a) → (b + n ≤ a) ⊎ (a + m ≤ b)
turn a m b n (inl before) = inr before
turn a m b n (inr behind) = inl behind

function_desc : (desc : ℕ) (maker : BlockKind) (layouts : Layouts) → MakesKind layouts desc maker → is_object maker ≡ false → desc ≡ 1
function_desc desc maker layouts (inl is) h = is.0
function_desc desc maker layouts (inr (inl is)) h = absurd (let no : true ≡ false = sym is.1 ∙ h in cc)
function_desc desc maker layouts (inr (inr is)) h = absurd (let no : true ≡ false = sym is.object ∙ h in cc)

object_desc : (desc : ℕ) (maker : BlockKind) (layouts : Layouts) → MakesKind layouts desc maker → is_object maker && true ≡ true → 2 ≤ desc
object_desc desc maker layouts (inl is) h = absurd (not_object maker is.1 (object_true maker h))
object_desc desc maker layouts (inr (inl is)) h = omega (arith, is.0)
object_desc desc maker layouts (inr (inr is)) h = omega (arith, is.decided)

-- ---- the store stands for it

module _ (old new : Store) (heap : Heap) (layouts : Layouts) (holds : Holds old heap layouts) (all : AreLayouts layouts) (size desc block : ℕ)
    (made : Makes old size desc block new) (maker : BlockKind) (makes : MakesKind layouts desc maker) (reach : next_base heap < 2 ^ 32) where
  same_header : (b : ℕ) (x : Block) → block_at heap b ≡ Some x → header_in new b ≡ header_in old b
  same_header b x at = made.headers b (known_is_made old heap layouts holds b x at)

  number : block ≡ suc (length heap.blocks)
  number = made.number ∙ ap suc holds.made

  -- the new header
  new_describes : Describes (header_in new block) (new_block (next_base heap) size maker)
  new_describes = record {
    size = made.size_is;
    base = made.base_is ∙ next_told old heap layouts holds;
    dead = λ e. absurd (let no : true ≡ false = e in cc);
    function = λ e. made.desc_is ∙ function_desc desc maker layouts makes e;
    object = λ e. omega (arith, made.desc_is, object_desc desc maker layouts makes e);
  }

  describes : (b : ℕ) (x : Block) → (block_at heap b ≡ Some x) ⊎ ((b ≡ suc (length heap.blocks)) × (x ≡ new_block (next_base heap) size maker))
      → Describes (header_in new b) x
  describes b x (inl at) = subst (λ (h : HeaderWords). Describes h x) (sym (same_header b x at)) (holds.stands.headers b x at)
  describes b x (inr is) =
      subst (λ (y : Block). Describes (header_in new b) y) (sym is.1)
      (subst (λ n. Describes (header_in new n) (new_block (next_base heap) size maker)) (number ∙ sym is.0) new_describes)

  -- ---- cells

  new_blank : IsBlank (memory_of new.words) (header_in new block).cell (new_block (next_base heap) size maker)
  new_blank = record {
    words = λ i h. cell_word new.words (header_in new block).cell i ∙ made.cleared i h;
    bytes = refl;
    bases = refl;
  }

  new_keeps : MakesKind layouts desc maker → is_object maker ≡ true
      → Keeps (memory_of new.words) layouts (header_in new block).desc (header_in new block).cell (new_block (next_base heap) size maker)
  new_keeps (inl is) object = absurd (not_object maker is.1 object)
  new_keeps (inr (inl is)) object = inl (record { desc_is = made.desc_is ∙ is.0; unsealed = refl; blank = new_blank })
  new_keeps (inr (inr is)) object =
      inr (inl (record {
        layout = is.layout;
        found = ap layouts made.desc_is ∙ is.found;
        decided = omega (arith, made.desc_is, is.decided);
        unsealed = refl;
        laid_out = blank_laid_out (memory_of new.words) (header_in new block).cell is.layout (new_block (next_base heap) size maker) (all desc is.layout is.found) new_blank;
      }))

  old_live : (b : ℕ) (x : Block) → block_at heap b ≡ Some x → is_live_object x ≡ true → IsLiveIn old b
  old_live b x at object = object_is_live old heap layouts holds b x at object

  old_size : (b : ℕ) (x : Block) → block_at heap b ≡ Some x → (header_in old b).size ≡ x.size
  old_size b x at = let is = holds.stands.headers b x at in is.size

  old_agrees : (b : ℕ) (x : Block) → block_at heap b ≡ Some x → is_live_object x ≡ true → (i : ℕ) → i < 2 * words_of x.size
      → memory_of new.words ((header_in old b).cell + 4 * i) ≡ memory_of old.words ((header_in old b).cell + 4 * i)
  old_agrees b x at object i h =
      let sizes : words_of (header_in old b).size ≡ words_of x.size = ap words_of (old_size b x at) in
      cell_word new.words (header_in old b).cell i
      ∙ made.cells b i (old_live b x at object) (omega (arith, h, sizes))
      ∙ sym (cell_word old.words (header_in old b).cell i)

  kept : (b : ℕ) (x : Block) → (block_at heap b ≡ Some x) ⊎ ((b ≡ suc (length heap.blocks)) × (x ≡ new_block (next_base heap) size maker))
      → is_live_object x ≡ true → Keeps (memory_of new.words) layouts (header_in new b).desc (header_in new b).cell x
  kept b x (inl at) object =
      subst (λ (h : HeaderWords). Keeps (memory_of new.words) layouts h.desc h.cell x) (sym (same_header b x at))
      (keeps_along (memory_of old.words) (memory_of new.words) layouts (header_in old b).desc (header_in old b).cell x all (old_agrees b x at object)
      (holds.stands.kept b x at object))
  kept b x (inr is) object =
      subst (λ (y : Block). Keeps (memory_of new.words) layouts (header_in new b).desc (header_in new b).cell y) (sym is.1)
      (subst (λ n. Keeps (memory_of new.words) layouts (header_in new n).desc (header_in new n).cell (new_block (next_base heap) size maker)) (number ∙ sym is.0)
      (new_keeps makes (object_maker size (next_base heap) maker (subst (λ (y : Block). is_live_object y ≡ true) is.1 object))))

  long_new : length (created heap size maker).blocks ≡ new.made
  long_new = long_created heap size maker ∙ sym (made.made ∙ number)

  new_lies : LiesIn 0 (4 * length new.words) (length (created heap size maker).blocks) (header_in new block).cell (2 * words_of size)
  new_lies = record {
    aligned = omega (arith, made.aligned);
    behind = omega (arith, made.behind, long_new);
    within = omega (arith, made.within);
  }

  lies : (b : ℕ) (x : Block) → (block_at heap b ≡ Some x) ⊎ ((b ≡ suc (length heap.blocks)) × (x ≡ new_block (next_base heap) size maker))
      → is_live_object x ≡ true → LiesIn 0 (4 * length new.words) (length (created heap size maker).blocks) (header_in new b).cell (2 * words_of x.size)
  lies b x (inl at) object =
      let is = holds.stands.inside b x at object in
      subst (λ (h : HeaderWords). LiesIn 0 (4 * length new.words) (length (created heap size maker).blocks) h.cell (2 * words_of x.size)) (sym (same_header b x at))
      (record {
        aligned = is.aligned;
        behind = omega (arith, made.others_behind b (old_live b x at object), long_new);
        within = omega (arith, is.within, made.region);
      })
  lies b x (inr is) object =
      subst (λ (y : Block). LiesIn 0 (4 * length new.words) (length (created heap size maker).blocks) (header_in new b).cell (2 * words_of y.size)) (sym is.1)
      (subst (λ n. LiesIn 0 (4 * length new.words) (length (created heap size maker).blocks) (header_in new n).cell (2 * words_of size)) (number ∙ sym is.0) new_lies)

  -- the new cell and an old one
  new_apart : (b : ℕ) (x : Block) → block_at heap b ≡ Some x → is_live_object x ≡ true
      → ((header_in new block).cell + 8 * words_of size ≤ (header_in new b).cell) ⊎ ((header_in new b).cell + 8 * words_of x.size ≤ (header_in new block).cell)
  new_apart b x at object =
      subst (λ (h : HeaderWords). ((header_in new block).cell + 8 * words_of size ≤ h.cell) ⊎ (h.cell + 8 * words_of x.size ≤ (header_in new block).cell)) (sym (same_header b x at))
      (apart_by (header_in new block).cell (words_of size) (header_in old b) x.size (old_size b x at) (made.apart b (old_live b x at object)))

  apart : (b c : ℕ) (x y : Block)
      → (block_at heap b ≡ Some x) ⊎ ((b ≡ suc (length heap.blocks)) × (x ≡ new_block (next_base heap) size maker))
      → (block_at heap c ≡ Some y) ⊎ ((c ≡ suc (length heap.blocks)) × (y ≡ new_block (next_base heap) size maker))
      → is_live_object x ≡ true → is_live_object y ≡ true → b ≢ c
      → ((header_in new b).cell + 8 * words_of x.size ≤ (header_in new c).cell) ⊎ ((header_in new c).cell + 8 * words_of y.size ≤ (header_in new b).cell)
  apart b c x y (inl at) (inl also) object other differs =
      as_headers (header_in old b) (header_in old c) (header_in new b) (header_in new c) (8 * words_of x.size) (8 * words_of y.size)
      (sym (same_header b x at)) (sym (same_header c y also)) (holds.stands.apart b c x y at also object other differs)
  apart b c x y (inl at) (inr is) object other differs =
      subst (λ (z : Block). ApartBy (header_in new b) (header_in new c) (8 * words_of x.size) (8 * words_of z.size)) (sym is.1)
      (subst (λ n. ApartBy (header_in new b) (header_in new n) (8 * words_of x.size) (8 * words_of size)) (number ∙ sym is.0)
      (turn (header_in new block).cell (8 * words_of size) (header_in new b).cell (8 * words_of x.size) (new_apart b x at object)))
  apart b c x y (inr is) (inl also) object other differs =
      subst (λ (z : Block). ApartBy (header_in new b) (header_in new c) (8 * words_of z.size) (8 * words_of y.size)) (sym is.1)
      (subst (λ n. ApartBy (header_in new n) (header_in new c) (8 * words_of size) (8 * words_of y.size)) (number ∙ sym is.0) (new_apart c y also other))
  apart b c x y (inr is) (inr also) object other differs = absurd (differs (is.0 ∙ sym also.0))

  stands : StandsFor (memory_of new.words) 0 (4 * length new.words) (created heap size maker) layouts
  stands = record {
    headers = λ b x at. describes b x (created_at heap size maker b x at);
    kept = λ b x at object. kept b x (created_at heap size maker b x at) object;
    inside = λ b x at object. lies b x (created_at heap size maker b x at) object;
    apart = λ b c x y at also object other differs. apart b c x y (created_at heap size maker b x at) (created_at heap size maker c y also) object other differs;
  }

  -- after a creation the store holds the heap with one more block
  pub holds_created : Holds new (created heap size maker) layouts
  holds_created = record {
    sound = created_sound heap size maker holds.sound made.small reach;
    stands = stands;
    made = sym long_new;
    greatest = made.greatest ∙ greatest_created old heap layouts holds size maker;
  }
