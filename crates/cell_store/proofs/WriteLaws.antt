-- A store that holds a heap holds it with a word's value or base changed after that word of a cell is set.
use Rattle.std.proofs.Common.{◌≡◌, ◌≢◌, ℕ, ◌+◌, ◌*◌, ◌-◌, ◌/◌, ◌%◌, ◌<◌, ◌≤◌, ◌⊎◌, inl, inr, true, false, length, get_or, Option, Some, refl, sym, ap, ◌∙◌, arith, subst, get_or-set_other}
use Rattle.std.specs.Prelude.{◌&&◌, slice_set}
use Rattle.std.proofs.lemmas.List.{length-set}
use Rattle.c_memory.specs.Blocks.{Block, Heap, block_at, is_live_object, is_object, with_block, words_of}
use Rattle.c_memory.specs.Sound.{IsBlock}
use Rattle.cell_store.specs.Layouts.{AreLayouts, IsLayout, Layout, Layouts}
use Rattle.cell_store.specs.StandsFor.{Describes, HeaderWords, IsLaidOut, Keeps, Memory}
use Rattle.cell_store.specs.Store.{Holds, IsLiveIn, IsMade, Store, cell_place, header_in, memory_of, with_cell_word}
use Rattle.cell_store.proofs.CellLaws.{HasBase, HasValue, base_written, cell_word, value_written}
use Rattle.cell_store.proofs.ChangeLaws.{StaysBut, holds_changed}
use Rattle.cell_store.proofs.HeaderChanges.{cell_behind, cell_inside, describes_live}
use Rattle.cell_store.proofs.Headings.{same_headings}
use Rattle.cell_store.proofs.HeapBlocks.{block_at_get}
use Rattle.cell_store.proofs.HeldLaws.{live_is_object, made_is_known, nothing}
use Rattle.cell_store.proofs.Putting.{below}

-- a live object whose bytes and bases may be others
pub record IsLike (before after : Block) : Type 0 where
  pub size : after.size ≡ before.size
  pub base : after.base ≡ before.base
  pub kind : after.kind ≡ before.kind
  pub live : after.is_live ≡ before.is_live
  pub seal : after.is_sealed ≡ before.is_sealed

same_some : (x y : Layout) → ◌≡◌ {A = Option Layout} (Some x) (Some y) → x ≡ y
same_some x y e = cc

-- the layout of an object that is decided and not sealed
pub open_layout : (memory : Memory) (layouts : Layouts) (desc cell : ℕ) (layout : Layout) (block : Block) → layouts desc ≡ Some layout → 3 ≤ desc
    → block.is_sealed ≡ false → Keeps memory layouts desc cell block → IsLaidOut memory cell layout block
open_layout memory layouts desc cell layout block found some unsealed (inl is) = absurd (omega (arith, is.desc_is, some))
open_layout memory layouts desc cell layout block found some unsealed (inr (inl is)) =
    subst (λ (l : Layout). IsLaidOut memory cell l block) (same_some is.layout layout (sym is.found ∙ found)) is.laid_out
open_layout memory layouts desc cell layout block found some unsealed (inr (inr is)) =
    absurd (let no : true ≡ false = sym is.shut ∙ unsealed in cc)

module _ (store : Store) (heap : Heap) (layouts : Layouts) (holds : Holds store heap layouts) (b i value : ℕ) (before : Block)
    (at : block_at heap b ≡ Some before) (object : is_live_object before ≡ true) (within : i < 2 * words_of before.size) where
  front : 4 * store.made ≤ (header_in store b).cell / 4
  front = cell_behind store heap layouts holds b before at object

  -- all headers stay
  pub headers_stay : (c : ℕ) → IsMade store c → header_in (with_cell_word store b i value) c ≡ header_in store c
  headers_stay c known =
      same_headings store.words (slice_set store.words (cell_place store b i) value) c
      (below store.words (slice_set store.words (cell_place store b i) value) (4 * store.made) c known.positive (omega (arith, known.known))
      (λ k h. get_or-set_other store.words (cell_place store b i) k value 0 (omega (arith, front, h))))

  this_header : header_in (with_cell_word store b i value) b ≡ header_in store b
  this_header =
      let is = block_at_get heap b before at in
      headers_stay b (record { positive = is.positive; known = omega (arith, is.known, holds.made) })

  differs_by : (p q m n j : ℕ) → i < 2 * m → j < 2 * n → p % 4 ≡ 0 → q % 4 ≡ 0 → (p + 8 * m ≤ q) ⊎ (q + 8 * n ≤ p) → q / 4 + j ≢ p / 4 + i
  differs_by p q m n j h k one other (inl before) = omega arith
  differs_by p q m n j h k one other (inr behind) = omega arith

  cells_stay : (c j : ℕ) → IsLiveIn store c → c ≢ b → j < 2 * words_of (header_in store c).size
      → memory_of (slice_set store.words (cell_place store b i) value) ((header_in store c).cell + 4 * j) ≡ memory_of store.words ((header_in store c).cell + 4 * j)
  cells_stay c j live differs h =
      let x : Block = get_or heap.blocks (c - 1) nothing in
      let known : block_at heap c ≡ Some x = made_is_known store heap layouts holds c nothing live.made in
      let is_object : is_live_object x ≡ true = live_is_object store heap layouts holds c x known live in
      let here = holds.stands.inside b before at object in
      let there = holds.stands.inside c x known is_object in
      let sized = holds.stands.headers c x known in
      let sizes : words_of (header_in store c).size ≡ words_of x.size = ap words_of sized.size in
      let apart : (header_in store c).cell / 4 + j ≢ (header_in store b).cell / 4 + i =
      differs_by (header_in store b).cell (header_in store c).cell (words_of before.size) (words_of x.size) j within (omega (arith, h, sizes)) here.aligned there.aligned
      (holds.stands.apart b c before x at known object is_object (λ e. differs (sym e))) in
      cell_word (slice_set store.words (cell_place store b i) value) (header_in store c).cell j
      ∙ get_or-set_other store.words (cell_place store b i) ((header_in store c).cell / 4 + j) value 0 apart
      ∙ sym (cell_word store.words (header_in store c).cell j)

  stays_but : StaysBut store (with_cell_word store b i value) b
  stays_but = record {
    region = length-set store.words (cell_place store b i) value;
    made = refl;
    greatest = refl;
    headers = λ c known differs. headers_stay c known;
    cells = cells_stay;
  }

  module _ (all : AreLayouts layouts) (after : Block) (like : IsLike before after) (sound : IsBlock after)
      (keeps : Keeps (memory_of (slice_set store.words (cell_place store b i) value)) layouts (header_in store b).desc (header_in store b).cell after) where
    still : is_live_object after ≡ true
    still = ap (λ k. is_object k && after.is_live) like.kind ∙ ap (λ l. is_object before.kind && l) like.live ∙ object

    -- whatever the cell then keeps is the block
    pub holds_written : Holds (with_cell_word store b i value) (with_block heap b after) layouts
    holds_written =
        let is = holds.stands.headers b before at in
        holds_changed store (with_cell_word store b i value) heap layouts holds all b before after at stays_but sound
        (subst (λ (h : HeaderWords). Describes h after) (sym this_header)
        (describes_live (header_in store b) after still (is.size ∙ sym like.size) (is.base ∙ sym like.base) (is.object object)))
        (λ e. subst (λ (h : HeaderWords). Keeps (memory_of (slice_set store.words (cell_place store b i) value)) layouts h.desc h.cell after) (sym this_header) keeps)
        (λ e. record { object = object; cell = ap (λ (h : HeaderWords). h.cell) this_header; size = like.size })

-- ---- one word of a decided object that isn't sealed

module _ (store : Store) (heap : Heap) (layouts : Layouts) (holds : Holds store heap layouts) (all : AreLayouts layouts) (b w : ℕ) (before after : Block)
    (at : block_at heap b ≡ Some before) (object : is_live_object before ≡ true) (unsealed : before.is_sealed ≡ false)
    (layout : Layout) (found : layouts (header_in store b).desc ≡ Some layout) (some : 3 ≤ (header_in store b).desc) (within : w < words_of before.size)
    (like : IsLike before after) (sound : IsBlock after) where
  is_one : IsLayout layout
  is_one = all (header_in store b).desc layout found

  out : IsLaidOut (memory_of store.words) (header_in store b).cell layout before
  out = open_layout (memory_of store.words) layouts (header_in store b).desc (header_in store b).cell layout before found some unsealed (holds.stands.kept b before at object)

  room : (header_in store b).cell / 4 + 2 * words_of before.size ≤ length store.words
  room = cell_inside store heap layouts holds b before at object

  pub holds_value : (value : ℕ) → HasValue before after w value
      → Holds (with_cell_word store b (layout.value_at (words_of before.size) w) value) (with_block heap b after) layouts
  holds_value value has =
      holds_written store heap layouts holds b (layout.value_at (words_of before.size) w) value before at object (is_one.value_in (words_of before.size) w within) all after like sound
      (inr (inl (record {
        layout = layout;
        found = found;
        decided = some;
        unsealed = like.seal ∙ unsealed;
        laid_out = value_written store.words (header_in store b).cell layout before after w value is_one within room out has;
      })))

  pub holds_base : (base : ℕ) → HasBase before after w base
      → Holds (with_cell_word store b (layout.base_at (words_of before.size) w) base) (with_block heap b after) layouts
  holds_base base has =
      holds_written store heap layouts holds b (layout.base_at (words_of before.size) w) base before at object (is_one.base_in (words_of before.size) w within) all after like sound
      (inr (inl (record {
        layout = layout;
        found = found;
        decided = some;
        unsealed = like.seal ∙ unsealed;
        laid_out = base_written store.words (header_in store b).cell layout before after w base is_one within room out has;
      })))
