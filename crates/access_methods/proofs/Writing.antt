-- What one word that is set in a cell does, by the object's own numbers.
use Rattle.std.proofs.Common.{◌≡◌, ℕ, ◌+◌, ◌*◌, ◌/◌, ◌%◌, ◌^◌, ◌<◌, ◌≤◌, List, [], ◌∷◌, length, get_or, set, sym, ap, ◌∙◌, subst, arith}
use Rattle.std.specs.Int.{w32, from_le_bytes, to_le_bytes}
use Rattle.std.proofs.lemmas.List.{length-set}
use Rattle.c_memory.specs.Blocks.{words_of}
use Rattle.c_memory.specs.Bytes.{little_endian, little_endian_bytes}
use Rattle.cell_store.specs.Layouts.{Layout}
use Rattle.cell_store.specs.Store.{Store, header_in, with_cell_word}
use Rattle.access_methods.specs.declared.object.Object.{Object}
use Rattle.access_methods.specs.Forms.{layout_in}
use Rattle.access_methods.specs.Objects.{Turns, with_byte, with_bytes_at, with_base_at}
use Rattle.access_methods.specs.Cells.{IsObjectIn, value_in}
use Rattle.c_memory.proofs.LittleEndian.{length-little_endian_bytes}
use Rattle.access_methods.proofs.Turning.{byte_turns, base_turns, word_turns}
use Rattle.access_methods.proofs.Reading.{little_endian-word, little_endian_bytes-word, at_place}

four_long : (xs : List ℕ) → length xs ≡ 4 → little_endian xs ≡ from_le_bytes w32 xs
four_long [] h = absurd (omega arith)
four_long (a ∷ []) h = absurd (omega arith)
four_long (a ∷ b ∷ []) h = absurd (omega arith)
four_long (a ∷ b ∷ c ∷ []) h = absurd (omega arith)
four_long (a ∷ b ∷ c ∷ d ∷ []) h = little_endian-word a b c d
four_long (a ∷ b ∷ c ∷ d ∷ e ∷ xs) h = absurd (omega arith)

spelled_set : (v k byte : ℕ) → from_le_bytes w32 (set (to_le_bytes w32 v) k byte) ≡ little_endian (set (little_endian_bytes 4 v) k byte)
spelled_set v k byte =
    ap (λ (bytes : List ℕ). from_le_bytes w32 (set bytes k byte)) (sym (little_endian_bytes-word v))
    ∙ sym (four_long (set (little_endian_bytes 4 v) k byte) (length-set (little_endian_bytes 4 v) k byte ∙ length-little_endian_bytes 4 v))

pub base_set : (store new : Store) (object : Object) (total i w base : ℕ) → IsObjectIn store object → w < words_of object.size → base < 2 ^ 32
    → total ≡ words_of object.size → i ≡ (layout_in object.layout).base_at total w → new ≡ with_cell_word store object.block i base
    → Turns store new object.block (layout_in object.layout) (with_base_at w base)
base_set store new object total i w base stands within small count at changed =
    subst (λ (s : Store). Turns store s object.block (layout_in object.layout) (with_base_at w base))
    (sym (changed ∙ ap (λ (n : ℕ). with_cell_word store object.block n base) at))
    (base_turns store object.block (layout_in object.layout) total w base (count ∙ ap words_of stands.size) (omega arith) small)

pub value_set : (store new : Store) (object : Object) (total i w v : ℕ) → IsObjectIn store object → 4 * w + 4 ≤ object.size → v < 2 ^ 32
    → total ≡ words_of object.size → i ≡ (layout_in object.layout).value_at total w → new ≡ with_cell_word store object.block i v
    → Turns store new object.block (layout_in object.layout) (with_bytes_at (4 * w) (little_endian_bytes 4 v))
value_set store new object total i w v stands within small count at changed =
    let size = stands.size in
    subst (λ (s : Store). Turns store s object.block (layout_in object.layout) (with_bytes_at (4 * w) (little_endian_bytes 4 v)))
    (sym (changed ∙ ap (λ (n : ℕ). with_cell_word store object.block n v) at))
    (word_turns store object.block (layout_in object.layout) total w v (count ∙ ap words_of size) (omega arith) small)

abbrev value_at_total : Store → Object → (total w : ℕ) → ℕ
value_at_total store object total w = get_or store.words ((header_in store object.block).cell / 4 + (layout_in object.layout).value_at total w) 0

pub byte_set : (store new : Store) (object : Object) (total i offset byte v : ℕ) → IsObjectIn store object → offset < object.size → byte < 256
    → total ≡ words_of object.size → i ≡ (layout_in object.layout).value_at total (offset / 4)
    → v ≡ from_le_bytes w32 (set (to_le_bytes w32 (value_in store object (offset / 4))) (offset % 4) byte)
    → new ≡ with_cell_word store object.block i v
    → Turns store new object.block (layout_in object.layout) (with_byte offset byte)
byte_set store new object total i offset byte v stands within small count at spelled changed =
    let size = stands.size in
    let old : ℕ = value_in store object (offset / 4) in
    let layout : Layout = layout_in object.layout in
    subst (λ (s : Store). Turns store s object.block layout (with_byte offset byte))
    (sym (changed ∙ ap (λ (n : ℕ). with_cell_word store object.block n v) at
    ∙ ap (λ (n : ℕ). with_cell_word store object.block (layout.value_at total (offset / 4)) n) (spelled ∙ spelled_set old (offset % 4) byte)))
    (byte_turns store object.block layout total offset byte old (count ∙ ap words_of size) (omega arith) small
    (ap (λ (t : ℕ). value_at_total store object t (offset / 4)) (sym count)
    ∙ at_place store.words (header_in store object.block).cell (layout.value_at total (offset / 4))))
