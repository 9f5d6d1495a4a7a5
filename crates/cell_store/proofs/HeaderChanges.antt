-- A store that holds a heap holds it after the end of a life, a seal and a decision: only words of one header change.
use Rattle.std.proofs.Common.{◌≡◌, ℕ, ◌+◌, ◌*◌, ◌-◌, ◌/◌, ◌%◌, ◌≤◌, inl, inr, Bool, true, false, length, get_or, set, Some, refl, sym, ap, ◌∙◌, arith, subst, get_or-set_other}
use Rattle.std.specs.Prelude.{◌&&◌, slice_set}
use Rattle.std.proofs.lemmas.List.{length-set, set-get_or}
use Rattle.block_header.specs.Headers.{first_word}
use Rattle.c_memory.specs.Blocks.{Block, Heap, block_at, changed_at, ended, is_live_object, is_object, killed, sealed, sealed_at, with_block, words_of}
use Rattle.c_memory.specs.Sound.{IsBlock, IsFilled}
use Rattle.cell_store.specs.Layouts.{AreAddresses, AreLayouts, Layout, Layouts}
use Rattle.cell_store.specs.StandsFor.{Describes, HeaderWords, Keeps, Memory}
use Rattle.cell_store.specs.Store.{Holds, IsLiveIn, Store, header_in, memory_of, with_desc}
use Rattle.cell_store.specs.Making.{without_cell}
use Rattle.cell_store.proofs.CellLaws.{cell_word, keeps_along, keeps_decided, keeps_sealed}
use Rattle.cell_store.proofs.ChangeLaws.{StaysBut, holds_changed}
use Rattle.cell_store.proofs.Dropping.{emptied_base, emptied_cell, emptied_desc, emptied_elsewhere, emptied_length, emptied_size}
use Rattle.cell_store.proofs.Headings.{base_of, cell_of, desc_of, same_headings, size_of}
use Rattle.cell_store.proofs.HeapBlocks.{block_at_get}
use Rattle.cell_store.proofs.HeldLaws.{live_is_object, made_is_known, nothing}
use Rattle.cell_store.proofs.Setting.{base_stays, cell_stays, desc_elsewhere, desc_is, size_stays}

-- ---- live objects

pub both_true : (x y : Bool) → x && y ≡ true → (x ≡ true) × (y ≡ true)
both_true true true h = (refl, refl)
both_true true false h = absurd (let no : false ≡ true = h in cc)
both_true false y h = absurd (let no : false ≡ true = h in cc)

pub live_is : (block : Block) → is_live_object block ≡ true → block.is_live ≡ true
live_is block h = (both_true (is_object block.kind) block.is_live h).1

pub describes_live : (header : HeaderWords) (block : Block) → is_live_object block ≡ true → header.size ≡ block.size → header.base ≡ block.base → 2 ≤ header.desc
    → Describes header block
describes_live header block object size base some = record {
  size = size;
  base = base;
  dead = λ e. absurd (let no : false ≡ true = sym e ∙ live_is block object in cc);
  function = λ e. absurd (let no : false ≡ true = sym e ∙ (both_true (is_object block.kind) block.is_live object).0 in cc);
  object = λ e. some;
}

-- ---- where live objects lie

module _ (store : Store) (heap : Heap) (layouts : Layouts) (holds : Holds store heap layouts) where
  -- headers stand in front of the cells of live objects
  pub cell_behind : (c : ℕ) (x : Block) → block_at heap c ≡ Some x → is_live_object x ≡ true → 4 * store.made ≤ (header_in store c).cell / 4
  cell_behind c x at object = let is = holds.stands.inside c x at object in omega (arith, is.behind, holds.made)

  pub cell_inside : (c : ℕ) (x : Block) → block_at heap c ≡ Some x → is_live_object x ≡ true → (header_in store c).cell / 4 + 2 * words_of x.size ≤ length store.words
  cell_inside c x at object = let is = holds.stands.inside c x at object in omega (arith, is.within, is.aligned)

  pub live_behind : (c : ℕ) (d : Block) → IsLiveIn store c → 4 * store.made ≤ (header_in store c).cell / 4
  live_behind c d live =
      let at = made_is_known store heap layouts holds c d live.made in
      cell_behind c _ at (live_is_object store heap layouts holds c _ at live)

  -- the words of headers are there, where there is a live object
  pub headers_inside : (c : ℕ) (x : Block) → block_at heap c ≡ Some x → is_live_object x ≡ true → 4 * c ≤ length store.words
  headers_inside c x at object =
      let known = block_at_get heap c x at in
      omega (arith, known.known, cell_behind c x at object, cell_inside c x at object, holds.made)

-- ---- a descriptor

module _ (store : Store) (heap : Heap) (layouts : Layouts) (holds : Holds store heap layouts) (b desc : ℕ) (before : Block)
    (at : block_at heap b ≡ Some before) (object : is_live_object before ≡ true) where
  low : 1 ≤ b
  low = let is = block_at_get heap b before at in is.positive

  high : b ≤ store.made
  high = let is = block_at_get heap b before at in omega (arith, is.known, holds.made)

  room : 4 * b ≤ length store.words
  room = headers_inside store heap layouts holds b before at object

  now_desc : (header_in (with_desc store b desc) b).desc ≡ desc
  now_desc = desc_of (slice_set store.words (first_word b) desc) b ∙ desc_is store.words b desc low room

  now_size : (header_in (with_desc store b desc) b).size ≡ before.size
  now_size =
      let is = holds.stands.headers b before at in
      size_of (slice_set store.words (first_word b) desc) b ∙ size_stays store.words b desc low room ∙ sym (size_of store.words b) ∙ is.size

  now_base : (header_in (with_desc store b desc) b).base ≡ before.base
  now_base =
      let is = holds.stands.headers b before at in
      base_of (slice_set store.words (first_word b) desc) b ∙ base_stays store.words b desc low room ∙ sym (base_of store.words b) ∙ is.base

  now_cell : (header_in (with_desc store b desc) b).cell ≡ (header_in store b).cell
  now_cell = cell_of (slice_set store.words (first_word b) desc) b ∙ cell_stays store.words b desc low room ∙ sym (cell_of store.words b)

  -- a word behind the headers stays
  behind_stays : (cell i : ℕ) → 4 * store.made ≤ cell / 4
      → memory_of (slice_set store.words (first_word b) desc) (cell + 4 * i) ≡ memory_of store.words (cell + 4 * i)
  behind_stays cell i h =
      cell_word (slice_set store.words (first_word b) desc) cell i
      ∙ get_or-set_other store.words (first_word b) (cell / 4 + i) desc 0 (omega (arith, h, low, high))
      ∙ sym (cell_word store.words cell i)

  stays_but : StaysBut store (with_desc store b desc) b
  stays_but = record {
    region = length-set store.words (first_word b) desc;
    made = refl;
    greatest = refl;
    headers = λ c known differs. same_headings store.words (slice_set store.words (first_word b) desc) c (desc_elsewhere store.words b c desc low known.positive differs);
    cells = λ c i live differs h. behind_stays (header_in store c).cell i (live_behind store heap layouts holds c before live);
  }

  module _ (all : AreLayouts layouts) (after : Block) (still : is_live_object after ≡ true) (size : after.size ≡ before.size) (base : after.base ≡ before.base)
      (sound : IsBlock after) (some : 2 ≤ desc) (keeps : Keeps (memory_of store.words) layouts desc (header_in store b).cell after) where
    keeps_now : Keeps (memory_of (slice_set store.words (first_word b) desc)) layouts desc (header_in store b).cell after
    keeps_now =
        keeps_along (memory_of store.words) (memory_of (slice_set store.words (first_word b) desc)) layouts desc (header_in store b).cell after all
        (λ i h. behind_stays (header_in store b).cell i (cell_behind store heap layouts holds b before at object)) keeps

    -- a live object has another descriptor
    pub holds_desc : Holds (with_desc store b desc) (with_block heap b after) layouts
    holds_desc =
        holds_changed store (with_desc store b desc) heap layouts holds all b before after at stays_but sound
        (describes_live (header_in (with_desc store b desc) b) after still (now_size ∙ sym size) (now_base ∙ sym base) (omega (arith, now_desc, some)))
        (λ e. rw (now_desc, now_cell) keeps_now) (λ e. record { object = object; cell = now_cell; size = size })

-- ---- a seal

filled_sealed : (block : Block) → IsFilled block → IsFilled (sealed block)
filled_sealed block is = record { bytes = is.bytes; bases = is.bases; are_bytes = is.are_bytes; are_numbers = is.are_numbers }

sealed_is : (heap : Heap) (b : ℕ) (block : Block) → block_at heap b ≡ Some block → sealed_at heap b ≡ with_block heap b (sealed block)
unfolding sealed_at
sealed_is heap b block at = ap (changed_at heap b sealed) at

pub holds_sealed : (store : Store) (heap : Heap) (layouts : Layouts) (b : ℕ) → Holds store heap layouts → AreLayouts layouts → AreAddresses layouts
    → IsLiveIn store b → (header_in store b).desc % 4 ≡ 0 → 4 ≤ (header_in store b).desc
    → Holds (with_desc store b ((header_in store b).desc + 1)) (sealed_at heap b) layouts
holds_sealed store heap layouts b holds all addresses live multiple some =
    let before : Block = get_or heap.blocks (b - 1) nothing in
    let at : block_at heap b ≡ Some before = made_is_known store heap layouts holds b nothing live.made in
    let object : is_live_object before ≡ true = live_is_object store heap layouts holds b before at live in
    let sound : IsBlock before = let s = holds.sound in s.blocks b before at in
    rw (sealed_is heap b before at)
    (holds_desc store heap layouts holds b ((header_in store b).desc + 1) before at object all (sealed before) object refl refl
    (record { size = sound.size; base = sound.base; filled = λ e. filled_sealed before (sound.filled e) }) (omega (arith, some))
    (keeps_sealed (memory_of store.words) layouts (header_in store b).desc (header_in store b).cell before addresses multiple some (holds.stands.kept b before at object)))

-- ---- a decision

pub with_block_same : (heap : Heap) (b : ℕ) (block : Block) → block_at heap b ≡ Some block → with_block heap b block ≡ heap
with_block_same heap b block at =
    let is = block_at_get heap b block at in
    let same : set heap.blocks (b - 1) block ≡ heap.blocks = ap (set heap.blocks (b - 1)) (sym (is.is block)) ∙ set-get_or heap.blocks (b - 1) block in
    ap (λ l. record heap { blocks = l }) same

decided_by : (memory : Memory) (layouts : Layouts) (old desc cell : ℕ) (layout : Layout) (block : Block) → AreLayouts layouts → layouts desc ≡ Some layout → 3 ≤ desc
    → old ≡ 2 → Keeps memory layouts old cell block → Keeps memory layouts desc cell block
decided_by memory layouts old desc cell layout block all found some two (inl blank_one) =
    inr (inl (keeps_decided memory layouts desc cell layout block all found some (record { desc_is = refl; unsealed = blank_one.unsealed; blank = blank_one.blank })))
decided_by memory layouts old desc cell layout block all found some two (inr (inl is)) = absurd (omega (arith, is.decided, two))
decided_by memory layouts old desc cell layout block all found some two (inr (inr is)) = absurd (omega (arith, is.desc_is, is.decided, two))

-- An undecided live object gets a layout's descriptor: the heap is the same.
pub holds_decided : (store : Store) (heap : Heap) (layouts : Layouts) (b desc : ℕ) (layout : Layout) → Holds store heap layouts → AreLayouts layouts
    → IsLiveIn store b → (header_in store b).desc ≡ 2 → layouts desc ≡ Some layout → 3 ≤ desc → Holds (with_desc store b desc) heap layouts
holds_decided store heap layouts b desc layout holds all live two found some =
    let before : Block = get_or heap.blocks (b - 1) nothing in
    let at : block_at heap b ≡ Some before = made_is_known store heap layouts holds b nothing live.made in
    let object : is_live_object before ≡ true = live_is_object store heap layouts holds b before at live in
    let sound : IsBlock before = let s = holds.sound in s.blocks b before at in
    subst (λ (h : Heap). Holds (with_desc store b desc) h layouts) (with_block_same heap b before at)
    (holds_desc store heap layouts holds b desc before at object all before object refl refl sound (omega (arith, some))
    (decided_by (memory_of store.words) layouts (header_in store b).desc desc (header_in store b).cell layout before all found some two (holds.stands.kept b before at object)))

-- ---- the end of a life

killed_is : (heap : Heap) (b : ℕ) (block : Block) → block_at heap b ≡ Some block → killed heap b ≡ with_block heap b (ended block)
unfolding killed
killed_is heap b block at = ap (changed_at heap b ended) at

ended_dead : (block : Block) → is_live_object (ended block) ≡ true → ⊥
ended_dead block h = let no : false ≡ true = live_is (ended block) h in cc

module _ (store : Store) (heap : Heap) (layouts : Layouts) (holds : Holds store heap layouts) (b : ℕ) (before : Block)
    (at : block_at heap b ≡ Some before) (object : is_live_object before ≡ true) where
  from_one : 1 ≤ b
  from_one = let is = block_at_get heap b before at in is.positive

  to_made : b ≤ store.made
  to_made = let is = block_at_get heap b before at in omega (arith, is.known, holds.made)

  inside : 4 * b ≤ length store.words
  inside = headers_inside store heap layouts holds b before at object

  emptied_stays : (cell i : ℕ) → 4 * store.made ≤ cell / 4 → memory_of (without_cell store b).words (cell + 4 * i) ≡ memory_of store.words (cell + 4 * i)
  emptied_stays cell i h =
      cell_word (without_cell store b).words cell i
      ∙ get_or-set_other (slice_set store.words (first_word b) 0) (first_word b + 3) (cell / 4 + i) 0 0 (omega (arith, h, from_one, to_made))
      ∙ get_or-set_other store.words (first_word b) (cell / 4 + i) 0 0 (omega (arith, h, from_one, to_made))
      ∙ sym (cell_word store.words cell i)

  emptied_but : StaysBut store (without_cell store b) b
  emptied_but = record {
    region = emptied_length store.words b from_one inside;
    made = refl;
    greatest = refl;
    headers = λ c known differs. same_headings store.words (without_cell store b).words c (emptied_elsewhere store.words b from_one inside c known.positive differs);
    cells = λ c i live differs h. emptied_stays (header_in store c).cell i (live_behind store heap layouts holds c before live);
  }

  emptied_describes : Describes (header_in (without_cell store b) b) (ended before)
  emptied_describes = record {
    size = let is = holds.stands.headers b before at in
        size_of (without_cell store b).words b ∙ emptied_size store.words b from_one inside ∙ sym (size_of store.words b) ∙ is.size;
    base = let is = holds.stands.headers b before at in
        base_of (without_cell store b).words b ∙ emptied_base store.words b from_one inside ∙ sym (base_of store.words b) ∙ is.base;
    dead = λ e.
        (desc_of (without_cell store b).words b ∙ emptied_desc store.words b from_one inside, cell_of (without_cell store b).words b ∙ emptied_cell store.words b from_one inside);
    function = λ e. absurd (let no : false ≡ true = sym e ∙ (both_true (is_object before.kind) before.is_live object).0 in cc);
    object = λ e. absurd (ended_dead before e);
  }

pub holds_killed : (store : Store) (heap : Heap) (layouts : Layouts) (b : ℕ) → Holds store heap layouts → AreLayouts layouts
    → IsLiveIn store b → Holds (without_cell store b) (killed heap b) layouts
holds_killed store heap layouts b holds all live =
    let before : Block = get_or heap.blocks (b - 1) nothing in
    let at : block_at heap b ≡ Some before = made_is_known store heap layouts holds b nothing live.made in
    let object : is_live_object before ≡ true = live_is_object store heap layouts holds b before at live in
    let sound : IsBlock before = let s = holds.sound in s.blocks b before at in
    rw (killed_is heap b before at)
    (holds_changed store (without_cell store b) heap layouts holds all b before (ended before) at (emptied_but store heap layouts holds b before at object)
    (record { size = sound.size; base = sound.base; filled = λ e. absurd (ended_dead before e) })
    (emptied_describes store heap layouts holds b before at object) (λ e. absurd (ended_dead before e)) (λ e. absurd (ended_dead before e)))
