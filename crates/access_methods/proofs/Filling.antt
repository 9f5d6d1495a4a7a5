-- Bytes and bases that are written one after another.
use Rattle.std.proofs.Common.{◌≡◌, ◌≢◌, ℕ, zero, suc, ◌+◌, ◌/◌, ◌%◌, ◌<◌, ◌≤◌, ◌⊎◌, inl, inr, false, List, [], ◌∷◌, length, take, drop, get_or, set, replicate, refl, sym, ap, ◌∙◌, subst, arith}
use Rattle.std.specs.Prelude.{◌==◌}
use Rattle.std.specs.Int.{w32, to_le_bytes}
use Rattle.std.proofs.Math.Seq.{take-add}
use Rattle.std.proofs.lemmas.Bool.{eq-eqb, ne_eqb, and_right}
use Rattle.std.proofs.lemmas.List.{length-take-le, length-drop, take_all, set-set}
use Rattle.std.proofs.lemmas.List.Edits.{paste-paste}
use lib.Seq.{paste}
use Rattle.fsc_base.specs.declared.word.Word.{Word}
use Rattle.fsc_base.specs.declared.word.Width.{Width}
use Rattle.fsc_base.specs.declared.word.Width.TheVariants as width
use Rattle.c_memory.specs.Access.{bytes_of, touched, cleared, with_base, with_word}
use Rattle.c_memory.specs.Blocks.{Block, words_of}
use Rattle.c_memory.specs.Bytes.{little_endian_bytes, overwritten}
use Rattle.cell_store.specs.Layouts.{Layout}
use Rattle.cell_store.specs.Store.{Store, header_in}
use Rattle.access_methods.specs.declared.object.Object.{Object}
use Rattle.access_methods.specs.Forms.{layout_in}
use Rattle.access_methods.specs.Cells.{IsObjectIn}
use Rattle.access_methods.proofs.Reading.{little_endian_bytes-word}
use Rattle.c_memory.proofs.LittleEndian.{length-little_endian_bytes}
use Rattle.access_methods.specs.Objects.{Turns, with_content, with_byte, with_bytes_at, with_base_at, with_bases_at}
use Rattle.access_methods.proofs.Overwriting.{overwritten_none, overwritten_more, overwritten_all, as_paste}
use Rattle.access_methods.proofs.Turning.{turns_not, turns_then, turns_as}

-- nothing yet
pub bytes_none : (store : Store) (b : ℕ) (layout : Layout) (offset : ℕ) (bytes : List ℕ) → Turns store store b layout (with_bytes_at offset (take 0 bytes))
bytes_none store b layout offset bytes =
    turns_as store store b layout (λ x. x) (with_bytes_at offset (take 0 bytes))
    (λ x filled size. ap (λ (bs : List ℕ). record x { bytes = bs }) (sym (overwritten_none x.bytes offset bytes)))
    (turns_not store b layout)

pub bases_none : (store : Store) (b : ℕ) (layout : Layout) (w : ℕ) (bases : List ℕ) → Turns store store b layout (with_bases_at w (take 0 bases))
bases_none store b layout w bases =
    turns_as store store b layout (λ x. x) (with_bases_at w (take 0 bases))
    (λ x filled size. ap (λ (bs : List ℕ). record x { bases = bs }) (sym (overwritten_none x.bases w bases)))
    (turns_not store b layout)

-- all of them
pub bytes_all : (old new : Store) (b : ℕ) (layout : Layout) (offset n : ℕ) (bytes : List ℕ) → length bytes ≤ n → Turns old new b layout (with_bytes_at offset (take n bytes))
    → Turns old new b layout (with_bytes_at offset bytes)
bytes_all old new b layout offset n bytes h = subst (λ (bs : List ℕ). Turns old new b layout (with_bytes_at offset bs)) (take_all n bytes h)

pub bases_all : (old new : Store) (b : ℕ) (layout : Layout) (w n : ℕ) (bases : List ℕ) → length bases ≤ n → Turns old new b layout (with_bases_at w (take n bases))
    → Turns old new b layout (with_bases_at w bases)
bases_all old new b layout w n bases h = subst (λ (bs : List ℕ). Turns old new b layout (with_bases_at w bs)) (take_all n bases h)

-- some, and then more of them
whole_paste : (xs : List ℕ) (place n : ℕ) (items : List ℕ) → length items ≡ n → paste xs place items n ≡ overwritten xs place items
whole_paste xs place n items count = as_paste xs place n items (omega arith) ∙ overwritten_all xs place n items (omega arith)

overwritten_twice : (xs items : List ℕ) (place d r : ℕ) → place + length items ≤ length xs → d + r ≤ length items
    → overwritten (overwritten xs place (take d items)) (place + d) (take r (drop d items)) ≡ overwritten xs place (take (d + r) items)
overwritten_twice xs items place d r room within =
    let first : List ℕ = take d items in
    let second : List ℕ = take r (drop d items) in
    let count : length first ≡ d = length-take-le d items (omega arith) in
    let more : length second ≡ r = length-take-le r (drop d items) (omega (arith, length-drop d items)) in
    ap (λ (ys : List ℕ). overwritten ys (place + d) second) (sym (whole_paste xs place d first count))
    ∙ sym (whole_paste (paste xs place first d) (place + d) r second more)
    ∙ paste-paste xs place first second d r (sym count) (sym more) (omega arith)
    ∙ ap (λ (ys : List ℕ). paste xs place ys (d + r)) (sym (take-add d r items))
    ∙ whole_paste xs place (d + r) (take (d + r) items) (length-take-le (d + r) items within)

pub bytes_then : (old mid new : Store) (b : ℕ) (layout : Layout) (offset d r size : ℕ) (bytes : List ℕ)
    → size ≡ (header_in old b).size → offset + length bytes ≤ size → d + r ≤ length bytes
    → Turns old mid b layout (with_bytes_at offset (take d bytes)) → Turns mid new b layout (with_bytes_at (offset + d) (take r (drop d bytes)))
    → Turns old new b layout (with_bytes_at offset (take (d + r) bytes))
bytes_then old mid new b layout offset d r size bytes same room within first second =
    turns_as old new b layout (λ x. with_bytes_at (offset + d) (take r (drop d bytes)) (with_bytes_at offset (take d bytes) x)) (with_bytes_at offset (take (d + r) bytes))
    (λ x filled of. ap (λ (bs : List ℕ). record x { bytes = bs })
    (let full = filled.bytes in overwritten_twice x.bytes bytes offset d r (omega arith) within))
    (turns_then old mid new b layout (with_bytes_at offset (take d bytes)) (with_bytes_at (offset + d) (take r (drop d bytes))) first second)

-- one more base
pub bases_more : (old mid new : Store) (b : ℕ) (layout : Layout) (w k size : ℕ) (bases : List ℕ)
    → size ≡ (header_in old b).size → w + length bases ≤ words_of size → k < length bases
    → Turns old mid b layout (with_bases_at w (take k bases)) → Turns mid new b layout (with_base_at (w + k) (get_or bases k 0))
    → Turns old new b layout (with_bases_at w (take (k + 1) bases))
bases_more old mid new b layout w k size bases same room within first second =
    turns_as old new b layout (λ x. with_base_at (w + k) (get_or bases k 0) (with_bases_at w (take k bases) x)) (with_bases_at w (take (k + 1) bases))
    (λ x filled of. ap (λ (bs : List ℕ). record x { bases = bs })
    (let full = filled.bases in
    let total : words_of size ≡ words_of x.size = ap words_of (same ∙ of) in
    overwritten_more x.bases w k bases 0 (omega arith) within))
    (turns_then old mid new b layout (with_bases_at w (take k bases)) (with_base_at (w + k) (get_or bases k 0)) first second)

-- ---- the loops

-- so many of the bytes are written
pub record BytesSoFar (old now : Store) (object : Object) (offset done : ℕ) (bytes : List ℕ) : Type 0 where
  pub few : done ≤ length bytes
  pub stands : IsObjectIn now object
  pub turns : Turns old now object.block (layout_in object.layout) (with_bytes_at offset (take done bytes))

-- so many of the bases are written
pub record BasesSoFar (old now : Store) (object : Object) (w done : ℕ) (bases : List ℕ) : Type 0 where
  pub stands : IsObjectIn now object
  pub turns : Turns old now object.block (layout_in object.layout) (with_bases_at w (take done bases))

-- the first byte
pub first_byte : (old new : Store) (b : ℕ) (layout : Layout) (offset byte size : ℕ) (bytes : List ℕ) → size ≡ (header_in old b).size → offset + length bytes ≤ size → 0 < length bytes
    → byte ≡ get_or bytes 0 0 → Turns old new b layout (with_byte offset byte) → Turns old new b layout (with_bytes_at offset (take 1 bytes))
first_byte old new b layout offset byte size bytes same room some is turns =
    turns_as old new b layout (with_byte offset byte) (with_bytes_at offset (take 1 bytes))
    (λ x filled of. ap (λ (bs : List ℕ). record x { bytes = bs })
    (let full = filled.bytes in
    let place : offset ≡ offset + 0 = omega arith in
    let start : x.bytes ≡ overwritten x.bytes offset (take 0 bytes) = sym (overwritten_none x.bytes offset bytes) in
    ap (λ (i : ℕ). set x.bytes i byte) place
    ∙ ap (λ (v : ℕ). set x.bytes (offset + 0) v) is
    ∙ ap (λ (xs : List ℕ). set xs (offset + 0) (get_or bytes 0 0)) start
    ∙ overwritten_more x.bytes offset 0 bytes 0 (omega arith) some))
    turns

-- ---- a write

-- the lowest bytes of the bytes of a number
lowest : (n m v : ℕ) → n ≤ m → take n (little_endian_bytes m v) ≡ little_endian_bytes n v
lowest zero m v h = refl
lowest (suc n) zero v h = absurd (omega arith)
lowest (suc n) (suc m) v h = ap (λ (bs : List ℕ). v % 256 ∷ bs) (lowest n m (v / 256) (omega arith))

pub lowest_bytes : (n v : ℕ) → n ≤ 4 → take n (to_le_bytes w32 v) ≡ little_endian_bytes n v
lowest_bytes n v h = ap (λ (bs : List ℕ). take n bs) (sym (little_endian_bytes-word v)) ∙ lowest n 4 v h

-- the bases after a write of a whole word
one_cleared : (bases : List ℕ) (w base : ℕ) → w < length bases → set (overwritten bases w (0 ∷ [])) w base ≡ set bases w base
one_cleared bases w base within =
    let place : w + 0 ≡ w = omega arith in
    ap (λ (xs : List ℕ). set xs w base)
    (sym (overwritten_more bases w 0 (0 ∷ []) 0 (omega arith) (omega arith))
    ∙ ap (λ (xs : List ℕ). set xs (w + 0) 0) (overwritten_none bases w (0 ∷ []))
    ∙ ap (λ (i : ℕ). set bases i 0) place)
    ∙ set-set bases w 0 base

whole_bases : (bases : List ℕ) (offset base : ℕ) → offset % 4 ≡ 0 → offset / 4 < length bases
    → set bases (offset / 4) base ≡ with_base (cleared bases offset 4) offset 4 base
whole_bases bases offset base aligned within =
    let one : touched offset 4 ≡ 1 = omega arith in
    rw (eq-eqb (offset % 4) 0 aligned)
    (sym (ap (λ (n : ℕ). set (overwritten bases (offset / 4) (replicate n 0)) (offset / 4) base) one ∙ one_cleared bases (offset / 4) base within))

content : (x : Block) (bytes bytes' bases bases' : List ℕ) → bytes ≡ bytes' → bases ≡ bases' → with_content x bytes bases ≡ with_content x bytes' bases'
content x bytes bytes' bases bases' p q = rw (p, q) refl

pub whole_written : (old mid new : Store) (b : ℕ) (layout : Layout) (offset n size : ℕ) (bytes : List ℕ) (what : Word)
    → size ≡ (header_in old b).size → offset + n ≤ size → n ≡ 4 → offset % 4 ≡ 0 → bytes ≡ little_endian_bytes n what.value
    → Turns old mid b layout (with_bytes_at offset bytes) → Turns mid new b layout (with_base_at (offset / 4) what.block)
    → Turns old new b layout (λ x. with_word x offset n what)
whole_written old mid new b layout offset n size bytes what same room four aligned spelled first second =
    turns_as old new b layout (λ x. with_base_at (offset / 4) what.block (with_bytes_at offset bytes x)) (λ x. with_word x offset n what)
    (λ x filled of. let full = filled.bases in
    subst (λ (m : ℕ). with_base_at (offset / 4) what.block (with_bytes_at offset bytes x) ≡ with_word x offset m what) (sym four)
    (content x _ _ _ _
    (ap (λ (bs : List ℕ). overwritten x.bytes offset bs) (spelled ∙ ap (λ (m : ℕ). little_endian_bytes m what.value) four))
    (whole_bases x.bases offset what.block aligned (omega arith))))
    (turns_then old mid new b layout (with_bytes_at offset bytes) (with_base_at (offset / 4) what.block) first second)

part_bases : (bases : List ℕ) (offset n base : ℕ) → (n ≢ 4) ⊎ (offset % 4 ≢ 0) → cleared bases offset n ≡ with_base (cleared bases offset n) offset n base
part_bases bases offset n base (inl narrow) = rw (ne_eqb n 4 narrow) refl
part_bases bases offset n base (inr unaligned) = rw (ne_eqb (offset % 4) 0 unaligned, and_right (n == 4) false refl) refl

pub part_written : (old mid new : Store) (b : ℕ) (layout : Layout) (offset n : ℕ) (bytes : List ℕ) (what : Word)
    → (n ≢ 4) ⊎ (offset % 4 ≢ 0) → bytes ≡ little_endian_bytes n what.value
    → Turns old mid b layout (with_bytes_at offset bytes) → Turns mid new b layout (with_bases_at (offset / 4) (replicate (touched offset n) 0))
    → Turns old new b layout (λ x. with_word x offset n what)
part_written old mid new b layout offset n bytes what part spelled first second =
    let count : length (little_endian_bytes n what.value) ≡ n = length-little_endian_bytes n what.value in
    turns_as old new b layout (λ x. with_bases_at (offset / 4) (replicate (touched offset n) 0) (with_bytes_at offset bytes x)) (λ x. with_word x offset n what)
    (λ x filled of.
    content x _ _ _ _
    (ap (λ (bs : List ℕ). overwritten x.bytes offset bs) spelled)
    (part_bases x.bases offset n what.block part
    ∙ ap (λ (m : ℕ). with_base (cleared x.bases offset m) offset n what.block) (sym count)))
    (turns_then old mid new b layout (with_bytes_at offset bytes) (with_bases_at (offset / 4) (replicate (touched offset n) 0)) first second)

-- ---- steps of the loops

pub bytes_start : (store : Store) (object : Object) (offset : ℕ) (bytes : List ℕ) → IsObjectIn store object → BytesSoFar store store object offset 0 bytes
bytes_start store object offset bytes stands = record {
  few = omega arith;
  stands = stands;
  turns = bytes_none store object.block (layout_in object.layout) offset bytes;
}

pub bytes_step : (old mid new : Store) (object : Object) (offset d r : ℕ) (bytes : List ℕ) → IsObjectIn old object → offset + length bytes ≤ object.size
    → BytesSoFar old mid object offset d bytes → IsObjectIn new object → r ≤ length (drop d bytes)
    → Turns mid new object.block (layout_in object.layout) (with_bytes_at (offset + d) (take r (drop d bytes))) → BytesSoFar old new object offset (d + r) bytes
bytes_step old mid new object offset d r bytes stood room so_far stands within turns =
    let few : d + r ≤ length bytes = omega (arith, length-drop d bytes, so_far.few) in
    record {
      few = few;
      stands = stands;
      turns = bytes_then old mid new object.block (layout_in object.layout) offset d r object.size bytes stood.size room few so_far.turns turns;
    }

pub bases_start : (store : Store) (object : Object) (w : ℕ) (bases : List ℕ) → IsObjectIn store object → BasesSoFar store store object w 0 bases
bases_start store object w bases stands = record {
  stands = stands;
  turns = bases_none store object.block (layout_in object.layout) w bases;
}

pub bases_step : (old mid new : Store) (object : Object) (w k base : ℕ) (bases : List ℕ) → IsObjectIn old object → w + length bases ≤ words_of object.size
    → BasesSoFar old mid object w k bases → IsObjectIn new object → k < length bases → base ≡ get_or bases k 0
    → Turns mid new object.block (layout_in object.layout) (with_base_at (w + k) base) → BasesSoFar old new object w (k + 1) bases
bases_step old mid new object w k base bases stood room so_far stands within is turns = record {
  stands = stands;
  turns = bases_more old mid new object.block (layout_in object.layout) w k object.size bases stood.size room within so_far.turns
      (subst (λ (v : ℕ). Turns mid new object.block (layout_in object.layout) (with_base_at (w + k) v)) is turns);
}

at_most_four : (width : Width) → bytes_of width ≤ 4
at_most_four width.One = omega arith
at_most_four width.Two = omega arith
at_most_four width.Four = omega arith

pub lowest_of : (n v : ℕ) (bytes : List ℕ) (width : Width) → bytes ≡ to_le_bytes w32 v → n ≡ bytes_of width → take n bytes ≡ little_endian_bytes n v
lowest_of n v bytes width read count =
    let few = at_most_four width in
    ap (λ (bs : List ℕ). take n bs) read ∙ lowest_bytes n v (omega arith)
