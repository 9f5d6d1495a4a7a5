-- A store that holds an object, when a value or a base of its cell is changed.
use Rattle.std.proofs.Common.{◌≡◌, ◌≢◌, ℕ, ◌+◌, ◌*◌, ◌/◌, ◌%◌, ◌^◌, ◌<◌, ◌≤◌, inl, inr, List, length, get_or, set, refl, sym, ap, ◌∙◌, subst, arith}
use Rattle.std.proofs.lemmas.Bool.{cases_eq}
use Rattle.std.proofs.lemmas.List.{length-set, get_or-set_same, get_or-set_other}
use Rattle.std.proofs.lemmas.List.Elements.{All-set}
use Rattle.c_memory.specs.Blocks.{Block, Heap, with_block, words_of}
use Rattle.c_memory.specs.Bytes.{little_endian, little_endian_bytes, overwritten}
use Rattle.c_memory.specs.Sound.{IsFilled}
use Rattle.cell_store.specs.Layouts.{Layout, Layouts, IsLayout}
use Rattle.cell_store.specs.StandsFor.{value_word, LiesIn}
use Rattle.cell_store.specs.Store.{Store, memory_of, header_in, with_cell_word}
use Rattle.access_methods.specs.Objects.{HoldsObject, Turns, with_content, with_byte, with_bytes_at, with_base_at}
use Rattle.access_methods.proofs.HeapBlocks.{with_block_here, with_block_twice}
use Rattle.access_methods.proofs.CellWords.{elsewhere, here, object_kept}
use Rattle.access_methods.proofs.ValueWords.{All-little_endian_bytes, word_with_byte, other_word_with_byte, word_put, other_word_put}
use Rattle.access_methods.proofs.Overwriting.{length-overwritten, All-overwritten}

-- the index of word k of a cell
place_at : (cell k : ℕ) → (cell + 4 * k) / 4 ≡ cell / 4 + k
place_at cell k = omega arith

places_differ : (cell j k : ℕ) → j ≢ k → (cell + 4 * j) / 4 ≢ cell / 4 + k
places_differ cell j k other = omega arith

place_within : (bytes made cell total k : ℕ) → LiesIn 0 (4 * bytes) made cell (2 * total) → k < 2 * total → cell / 4 + k < bytes
place_within bytes made cell total k lies h = let a = lies.aligned in let w = lies.within in omega arith

-- what the object's cell is filled with
pub filled_of : (store : Store) (layouts : Layouts) (b : ℕ) (layout : Layout) (heap : Heap) (x : Block) → HoldsObject store layouts b layout heap x → IsFilled x
filled_of store layouts b layout heap x object = (object.holds.sound.blocks b x object.found).filled object.live

pub layout_is : (store : Store) (layouts : Layouts) (b : ℕ) (layout : Layout) (heap : Heap) (x : Block) → HoldsObject store layouts b layout heap x → IsLayout layout
layout_is store layouts b layout heap x object = object.are_layouts (header_in store b).desc layout object.desc

pub size_of : (store : Store) (layouts : Layouts) (b : ℕ) (layout : Layout) (heap : Heap) (x : Block) → HoldsObject store layouts b layout heap x
    → (header_in store b).size ≡ x.size
size_of store layouts b layout heap x object = (object.holds.stands.headers b x object.found).size

-- The value of word w is changed, and the block has bytes with that word and else the same words.
pub value_kept : (store : Store) (layouts : Layouts) (b : ℕ) (layout : Layout) (heap : Heap) (x : Block) (w v : ℕ) (bytes : List ℕ)
    → HoldsObject store layouts b layout heap x → w < words_of x.size → IsFilled (with_content x bytes x.bases)
    → v ≡ value_word bytes w → ((u : ℕ) → u ≢ w → value_word bytes u ≡ value_word x.bytes u)
    → HoldsObject (with_cell_word store b (layout.value_at (words_of x.size) w) v) layouts b layout
    (with_block heap b (with_content x bytes x.bases)) (with_content x bytes x.bases)
value_kept store layouts b layout heap x w v bytes object within filled new others =
    let is = layout_is store layouts b layout heap x object in
    let total : ℕ = words_of x.size in
    let cell : ℕ = (header_in store b).cell in
    let i : ℕ = layout.value_at total w in
    let inside = object.holds.stands.inside b x object.found object.live in
    let room : cell / 4 + i < length store.words =
    place_within (length store.words) (length heap.blocks) cell total i inside (is.value_in total w within) in
    object_kept store layouts b layout heap x i v bytes x.bases object (is.value_in total w within) filled (record {
      values = λ u h. elim (cases_eq u w) [
        | inl same ↦
            here store.words (cell / 4 + i) v (cell + 4 * layout.value_at total u) (ap (λ (n : ℕ). (cell + 4 * layout.value_at total n) / 4) same ∙ place_at cell i) room
            ∙ new ∙ ap (λ (n : ℕ). value_word bytes n) (sym same)
        | inr other ↦
            elsewhere store.words (cell / 4 + i) v (cell + 4 * layout.value_at total u)
            (places_differ cell (layout.value_at total u) i (λ e. other (is.values_differ total u w h within e)))
            ∙ object.laid_out.values u h
            ∙ sym (others u other)
      ];
      bases = λ u h.
          elsewhere store.words (cell / 4 + i) v (cell + 4 * layout.base_at total u)
          (places_differ cell (layout.base_at total u) i (λ e. is.apart total w u within h (sym e)))
          ∙ object.laid_out.bases u h;
    })

-- The base of word w is changed, and the block has that base and else the same.
pub base_kept : (store : Store) (layouts : Layouts) (b : ℕ) (layout : Layout) (heap : Heap) (x : Block) (w base : ℕ)
    → HoldsObject store layouts b layout heap x → w < words_of x.size → base < 2 ^ 32
    → HoldsObject (with_cell_word store b (layout.base_at (words_of x.size) w) base) layouts b layout
    (with_block heap b (with_base_at w base x)) (with_base_at w base x)
base_kept store layouts b layout heap x w base object within small =
    let is = layout_is store layouts b layout heap x object in
    let filled = filled_of store layouts b layout heap x object in
    let total : ℕ = words_of x.size in
    let cell : ℕ = (header_in store b).cell in
    let i : ℕ = layout.base_at total w in
    let inside = object.holds.stands.inside b x object.found object.live in
    let count = filled.bases in
    let among : w < length x.bases = omega arith in
    let room : cell / 4 + i < length store.words =
    place_within (length store.words) (length heap.blocks) cell total i inside (is.base_in total w within) in
    object_kept store layouts b layout heap x i base x.bytes (set x.bases w base) object (is.base_in total w within)
    (record {
      bytes = filled.bytes;
      bases = length-set x.bases w base ∙ filled.bases;
      are_bytes = filled.are_bytes;
      are_numbers = All-set (λ number. number < 2 ^ 32) x.bases w base small filled.are_numbers;
    })
    (record {
      values = λ u h.
          elsewhere store.words (cell / 4 + i) base (cell + 4 * layout.value_at total u)
          (places_differ cell (layout.value_at total u) i (λ e. is.apart total u w h within e))
          ∙ object.laid_out.values u h;
      bases = λ u h. elim (cases_eq u w) [
        | inl same ↦
            here store.words (cell / 4 + i) base (cell + 4 * layout.base_at total u) (ap (λ (n : ℕ). (cell + 4 * layout.base_at total n) / 4) same ∙ place_at cell i) room
            ∙ sym (ap (λ (n : ℕ). get_or (set x.bases w base) n 0) same ∙ get_or-set_same x.bases w base 0 among)
        | inr other ↦
            elsewhere store.words (cell / 4 + i) base (cell + 4 * layout.base_at total u)
            (places_differ cell (layout.base_at total u) i (λ e. other (is.bases_differ total u w h within e)))
            ∙ object.laid_out.bases u h
            ∙ sym (get_or-set_other x.bases w u base 0 other)
      ];
    })

-- ---- changes

-- no change
pub turns_not : (store : Store) (b : ℕ) (layout : Layout) → Turns store store b layout (λ x. x)
turns_not store b layout = record {
  keeps = λ layouts heap x object.
      subst (λ (h : Heap). HoldsObject store layouts b layout h x) (sym (with_block_here heap b x object.found)) object;
}

-- one change after another
pub turns_then : (old mid new : Store) (b : ℕ) (layout : Layout) (f g : Block → Block) → Turns old mid b layout f → Turns mid new b layout g
    → Turns old new b layout (λ x. g (f x))
turns_then old mid new b layout f g first second = record {
  keeps = λ layouts heap x object.
      subst (λ (h : Heap). HoldsObject new layouts b layout h (g (f x))) (with_block_twice heap b (f x) (g (f x)))
      (second.keeps layouts (with_block heap b (f x)) (f x) (first.keeps layouts heap x object));
}

-- a change said in another way
pub turns_as : (old new : Store) (b : ℕ) (layout : Layout) (f g : Block → Block)
    → ((x : Block) → IsFilled x → (header_in old b).size ≡ x.size → f x ≡ g x) → Turns old new b layout f → Turns old new b layout g
turns_as old new b layout f g same turns = record {
  keeps = λ layouts heap x object.
      subst (λ (y : Block). HoldsObject new layouts b layout (with_block heap b y) y)
      (same x (filled_of old layouts b layout heap x object) (size_of old layouts b layout heap x object))
      (turns.keeps layouts heap x object);
}

-- a byte is written: the value of its word is changed in one of its four bytes
word_of_byte : (offset size : ℕ) → offset < size → offset / 4 < words_of size
word_of_byte offset size h = omega arith

byte_in_word : (offset : ℕ) → 4 * (offset / 4) + offset % 4 ≡ offset
byte_in_word offset = omega arith

pub byte_turns : (store : Store) (b : ℕ) (layout : Layout) (total offset byte v : ℕ)
    → total ≡ words_of (header_in store b).size → offset < (header_in store b).size → byte < 256
    → v ≡ memory_of store.words ((header_in store b).cell + 4 * layout.value_at total (offset / 4))
    → Turns store (with_cell_word store b (layout.value_at total (offset / 4)) (little_endian (set (little_endian_bytes 4 v) (offset % 4) byte))) b layout (with_byte offset byte)
byte_turns store b layout total offset byte v count within small read = record {
  keeps = λ layouts heap x object.
      let filled = filled_of store layouts b layout heap x object in
      let size = size_of store layouts b layout heap x object in
      let full = filled.bytes in
      let inside : offset < x.size = omega arith in
      let same_total : total ≡ words_of x.size = count ∙ ap words_of size in
      let w : ℕ = offset / 4 in
      let k : ℕ = offset % 4 in
      let small_k : k < 4 = omega arith in
      let split : 4 * w + k ≡ offset = byte_in_word offset in
      let is_word : v ≡ value_word x.bytes w =
      read
      ∙ ap (λ (t : ℕ). memory_of store.words ((header_in store b).cell + 4 * layout.value_at t w)) same_total
      ∙ object.laid_out.values w (word_of_byte offset x.size inside) in
      let new : little_endian (set (little_endian_bytes 4 v) k byte) ≡ value_word (set x.bytes offset byte) w =
      ap (λ (n : ℕ). little_endian (set (little_endian_bytes 4 n) k byte)) is_word
      ∙ word_with_byte x.bytes w k byte small_k (omega arith) filled.are_bytes
      ∙ ap (λ (n : ℕ). value_word (set x.bytes n byte) w) split in
      subst (λ (t : ℕ). HoldsObject (with_cell_word store b (layout.value_at t w) (little_endian (set (little_endian_bytes 4 v) k byte))) layouts b layout
      (with_block heap b (with_byte offset byte x)) (with_byte offset byte x)) (sym same_total)
      (value_kept store layouts b layout heap x w (little_endian (set (little_endian_bytes 4 v) k byte)) (set x.bytes offset byte) object
      (word_of_byte offset x.size inside)
      (record {
        bytes = length-set x.bytes offset byte ∙ filled.bytes;
        bases = filled.bases;
        are_bytes = All-set (λ n. n < 256) x.bytes offset byte small filled.are_bytes;
        are_numbers = filled.are_numbers;
      })
      new
      (λ u other. ap (λ (n : ℕ). value_word (set x.bytes n byte) u) (sym split) ∙ other_word_with_byte x.bytes w u k byte small_k other));
}

-- a base is written
pub base_turns : (store : Store) (b : ℕ) (layout : Layout) (total w base : ℕ)
    → total ≡ words_of (header_in store b).size → w < total → base < 2 ^ 32
    → Turns store (with_cell_word store b (layout.base_at total w) base) b layout (with_base_at w base)
base_turns store b layout total w base count within small = record {
  keeps = λ layouts heap x object.
      let same_total : total ≡ words_of x.size = count ∙ ap words_of (size_of store layouts b layout heap x object) in
      subst (λ (t : ℕ). HoldsObject (with_cell_word store b (layout.base_at t w) base) layouts b layout (with_block heap b (with_base_at w base x)) (with_base_at w base x))
      (sym same_total)
      (base_kept store layouts b layout heap x w base object (subst (λ (t : ℕ). w < t) same_total within) small);
}

-- a whole word is written: its value is changed
pub word_turns : (store : Store) (b : ℕ) (layout : Layout) (total w v : ℕ)
    → total ≡ words_of (header_in store b).size → 4 * w + 4 ≤ (header_in store b).size → v < 2 ^ 32
    → Turns store (with_cell_word store b (layout.value_at total w) v) b layout (with_bytes_at (4 * w) (little_endian_bytes 4 v))
word_turns store b layout total w v count within small = record {
  keeps = λ layouts heap x object.
      let filled = filled_of store layouts b layout heap x object in
      let size = size_of store layouts b layout heap x object in
      let full = filled.bytes in
      let inside : 4 * w + 4 ≤ x.size = omega arith in
      let room : 4 * w + 4 ≤ length x.bytes = omega arith in
      let same_total : total ≡ words_of x.size = count ∙ ap words_of size in
      let bytes : List ℕ = little_endian_bytes 4 v in
      let count_bytes : length bytes ≡ 4 = refl in
      subst (λ (t : ℕ). HoldsObject (with_cell_word store b (layout.value_at t w) v) layouts b layout
      (with_block heap b (with_bytes_at (4 * w) bytes x)) (with_bytes_at (4 * w) bytes x)) (sym same_total)
      (value_kept store layouts b layout heap x w v (overwritten x.bytes (4 * w) bytes) object
      (omega arith)
      (record {
        bytes = length-overwritten x.bytes (4 * w) bytes (omega arith) ∙ filled.bytes;
        bases = filled.bases;
        are_bytes = All-overwritten (λ n. n < 256) x.bytes (4 * w) bytes filled.are_bytes (All-little_endian_bytes 4 v);
        are_numbers = filled.are_numbers;
      })
      (sym (word_put x.bytes w v small room))
      (λ u other. other_word_put x.bytes w u v room other));
}
