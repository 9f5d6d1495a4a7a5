-- What is read of a cell is what the block has.
use Rattle.std.proofs.Common.{◌≡◌, ◌≢◌, ℕ, suc, ◌+◌, ◌*◌, ◌/◌, ◌%◌, ◌<◌, ◌≤◌, List, [], ◌∷◌, length, take, drop, get_or, refl, sym, ap, ◌∙◌, subst, arith}
use Rattle.std.specs.Int.{w16, w32, from_le_bytes, to_le_bytes}
use Rattle.std.proofs.lemmas.Bool.{eq-eqb, ne_eqb}
use Rattle.std.proofs.lemmas.List.{drop_more}
use Rattle.fsc_base.specs.declared.word.Word.{Word}
use Rattle.c_memory.specs.Access.{word_in}
use Rattle.c_memory.specs.Blocks.{Block, words_of}
use Rattle.c_memory.specs.Bytes.{little_endian, little_endian_bytes}
use Rattle.cell_store.specs.StandsFor.{value_word}
use Rattle.cell_store.specs.Store.{Store, memory_of, header_in}
use Rattle.access_methods.specs.declared.object.Object.{Object}
use Rattle.access_methods.specs.Forms.{layout_in}
use Rattle.access_methods.specs.Cells.{value_in, base_in, Lays}
use Rattle.access_methods.proofs.ValueWords.{byte_of_word}

-- ---- the same as the methods of integers

pub little_endian-half : (low high : ℕ) → little_endian (low ∷ high ∷ []) ≡ from_le_bytes w16 (low ∷ high ∷ [])
little_endian-half low high = omega arith

pub little_endian-word : (a b c d : ℕ) → little_endian (a ∷ b ∷ c ∷ d ∷ []) ≡ from_le_bytes w32 (a ∷ b ∷ c ∷ d ∷ [])
little_endian-word a b c d = omega arith

pub little_endian_bytes-word : (value : ℕ) → little_endian_bytes 4 value ≡ to_le_bytes w32 value
little_endian_bytes-word value =
    let third : value / 256 / 256 ≡ value / 65536 = omega arith in
    let fourth : value / 65536 / 256 ≡ value / 16777216 = omega arith in
    rw (third, fourth) refl

-- ---- words of the cell

pub at_place : (words : List ℕ) (cell k : ℕ) → get_or words (cell / 4 + k) 0 ≡ memory_of words (cell + 4 * k)
at_place words cell k = let e : cell / 4 + k ≡ (cell + 4 * k) / 4 = omega arith in ap (λ (i : ℕ). get_or words i 0) e

pub value_is : (store : Store) (object : Object) (x : Block) (w : ℕ) → Lays store object x → w < words_of object.size → value_in store object w ≡ value_word x.bytes w
value_is store object x w lays h =
    let same : words_of x.size ≡ words_of object.size = ap words_of lays.size in
    at_place store.words (header_in store object.block).cell ((layout_in object.layout).value_at (words_of object.size) w)
    ∙ ap (λ (t : ℕ). memory_of store.words ((header_in store object.block).cell + 4 * (layout_in object.layout).value_at t w)) (sym same)
    ∙ lays.laid_out.values w (subst (λ (t : ℕ). w < t) (sym same) h)

pub base_is : (store : Store) (object : Object) (x : Block) (w : ℕ) → Lays store object x → w < words_of object.size → base_in store object w ≡ get_or x.bases w 0
base_is store object x w lays h =
    let same : words_of x.size ≡ words_of object.size = ap words_of lays.size in
    at_place store.words (header_in store object.block).cell ((layout_in object.layout).base_at (words_of object.size) w)
    ∙ ap (λ (t : ℕ). memory_of store.words ((header_in store object.block).cell + 4 * (layout_in object.layout).base_at t w)) (sym same)
    ∙ lays.laid_out.bases w (subst (λ (t : ℕ). w < t) (sym same) h)

pub byte_is : (store : Store) (object : Object) (x : Block) (offset : ℕ) → Lays store object x → offset < object.size
    → get_or (to_le_bytes w32 (value_in store object (offset / 4))) (offset % 4) 0 ≡ get_or x.bytes offset 0
byte_is store object x offset lays h =
    let within : offset / 4 < words_of object.size = omega arith in
    let split : 4 * (offset / 4) + offset % 4 ≡ offset = omega arith in
    ap (λ (bytes : List ℕ). get_or bytes (offset % 4) 0) (sym (little_endian_bytes-word (value_in store object (offset / 4))))
    ∙ ap (λ (v : ℕ). get_or (little_endian_bytes 4 v) (offset % 4) 0) (value_is store object x (offset / 4) lays within)
    ∙ byte_of_word x.bytes (offset / 4) (offset % 4) (omega arith) lays.filled.are_bytes
    ∙ ap (λ (i : ℕ). get_or x.bytes i 0) split

-- ---- words of a block

word-same : (a b c d : ℕ) → a ≡ c → b ≡ d → ◌≡◌ {A = Word} (record { value = a; block = b }) (record { value = c; block = d })
word-same a b c d p q = rw (p, q) refl

-- a whole word
whole_base : (bases : List ℕ) (w base : ℕ) → base ≡ get_or bases w 0 → (x : Block) → x.bases ≡ bases → base ≡ (word_in x (4 * w) 4).block
whole_base bases w base h x e =
    let aligned : (4 * w) % 4 ≡ 0 = omega arith in
    let index : 4 * w / 4 ≡ w = omega arith in
    rw (eq-eqb ((4 * w) % 4) 0 aligned, index, e) h

pub whole_word : (x : Block) (w value base : ℕ) → value ≡ value_word x.bytes w → base ≡ get_or x.bases w 0
    → (record { value = value; block = base }) ≡ word_in x (4 * w) 4
whole_word x w value base v b = word-same value base _ _ v (whole_base x.bases w base b x refl)

-- bytes from an offset on
one : (xs : List ℕ) (o n : ℕ) → o + 1 ≤ length xs → take (suc n) (drop o xs) ≡ get_or xs o 0 ∷ take n (drop (o + 1) xs)
one xs o n h = ap (λ (ys : List ℕ). take (suc n) ys) (drop_more xs o 0 (omega arith))

two : (xs : List ℕ) (o : ℕ) → o + 2 ≤ length xs → take 2 (drop o xs) ≡ get_or xs o 0 ∷ get_or xs (o + 1) 0 ∷ []
two xs o h = one xs o 1 (omega arith) ∙ ap (λ (ys : List ℕ). get_or xs o 0 ∷ ys) (one xs (o + 1) 0 (omega arith))

next : (o : ℕ) → o + 1 + 1 ≡ o + 2
next o = omega arith

four : (xs : List ℕ) (o : ℕ) → o + 4 ≤ length xs → take 4 (drop o xs) ≡ get_or xs o 0 ∷ get_or xs (o + 1) 0 ∷ get_or xs (o + 2) 0 ∷ get_or xs (o + 3) 0 ∷ []
four xs o h =
    let third : o + 1 + 1 ≡ o + 2 = omega arith in
    let fourth : o + 2 + 1 ≡ o + 3 = omega arith in
    one xs o 3 (omega arith)
    ∙ ap (λ (ys : List ℕ). get_or xs o 0 ∷ ys) (one xs (o + 1) 2 (omega arith))
    ∙ ap (λ (i : ℕ). get_or xs o 0 ∷ get_or xs (o + 1) 0 ∷ take 2 (drop i xs)) third
    ∙ ap (λ (ys : List ℕ). get_or xs o 0 ∷ get_or xs (o + 1) 0 ∷ ys) (two xs (o + 2) (omega arith))
    ∙ ap (λ (i : ℕ). get_or xs o 0 ∷ get_or xs (o + 1) 0 ∷ get_or xs (o + 2) 0 ∷ get_or xs i 0 ∷ []) fourth

pub one_byte : (x : Block) (o byte : ℕ) → o + 1 ≤ length x.bytes → byte ≡ get_or x.bytes o 0 → (record { value = byte; block = 0 }) ≡ word_in x o 1
one_byte x o byte h e = word-same byte 0 _ _ (e ∙ sym (ap little_endian (one x.bytes o 0 h) ∙ omega arith)) refl

pub two_bytes : (x : Block) (o low high : ℕ) → o + 2 ≤ length x.bytes → low ≡ get_or x.bytes o 0 → high ≡ get_or x.bytes (o + 1) 0
    → (record { value = from_le_bytes w16 (low ∷ high ∷ []); block = 0 }) ≡ word_in x o 2
two_bytes x o low high h e f =
    word-same _ 0 _ _ (sym (little_endian-half low high) ∙ rw (e, f) (ap little_endian (sym (two x.bytes o h)))) refl

pub four_bytes : (x : Block) (o a b c d : ℕ) → o + 4 ≤ length x.bytes → o % 4 ≢ 0 → a ≡ get_or x.bytes o 0 → b ≡ get_or x.bytes (o + 1) 0
    → c ≡ get_or x.bytes (o + 2) 0 → d ≡ get_or x.bytes (o + 3) 0
    → (record { value = from_le_bytes w32 (a ∷ b ∷ c ∷ d ∷ []); block = 0 }) ≡ word_in x o 4
four_bytes x o a b c d h unaligned e f g i =
    word-same _ 0 _ _
    (sym (little_endian-word a b c d) ∙ rw (e, f, g, i) (ap little_endian (sym (four x.bytes o h))))
    (rw (ne_eqb (o % 4) 0 unaligned) refl)
