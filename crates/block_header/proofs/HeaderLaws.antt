-- The laws of headers.
use Rattle.std.proofs.Common.{◌≡◌, ◌≢◌, ℕ, ◌+◌, ◌*◌, ◌<◌, ◌≤◌, ◌⊎◌, inl, inr, List, length, refl, arith, get_or-set_same, get_or-set_other}
use Rattle.std.specs.Prelude.{slice_index, slice_set}
use Rattle.std.proofs.lemmas.List.{length-set}
use Rattle.block_header.specs.declared.Header.{Header}
use Rattle.block_header.specs.Headers.{first_word, header_at, ReadsBack, KeepsOthers, KeepsWords, KeepsLength}

-- four writes in a row
abbrev four : (words : List ℕ) (i a b c d : ℕ) → List ℕ
four words i a b c d = slice_set (slice_set (slice_set (slice_set words i a) (i + 1) b) (i + 2) c) (i + 3) d

length-four : (words : List ℕ) (i a b c d : ℕ) → length (four words i a b c d) ≡ length words
length-four words i a b c d = simp length-set

four_outside : (words : List ℕ) (i a b c d k : ℕ) → ((j : ℕ) → j < 4 → k ≢ i + j) → slice_index (four words i a b c d) k ≡ slice_index words k
four_outside words i a b c d k apart =
    let n0 : k ≢ i = omega (arith, apart 0 (omega arith)) in
    let n1 : k ≢ i + 1 = apart 1 (omega arith) in
    let n2 : k ≢ i + 2 = apart 2 (omega arith) in
    let n3 : k ≢ i + 3 = apart 3 (omega arith) in
    rw (get_or-set_other, get_or-set_other, get_or-set_other, get_or-set_other) refl

-- the word at an index that was written, and not again since
set_then : (words : List ℕ) (i a k b : ℕ) → i < length words → i ≢ k → slice_index (slice_set (slice_set words i a) k b) i ≡ a
set_then words i a k b within apart = rw (get_or-set_other, get_or-set_same) refl

four_first : (words : List ℕ) (i a b c d : ℕ) → i + 4 ≤ length words → slice_index (four words i a b c d) i ≡ a
four_first words i a b c d room =
    let within : i < length words = omega arith in
    let n1 : i ≢ i + 1 = omega arith in
    let n2 : i ≢ i + 2 = omega arith in
    let n3 : i ≢ i + 3 = omega arith in
    rw (get_or-set_other, get_or-set_other, get_or-set_other, get_or-set_same) refl

four_second : (words : List ℕ) (i a b c d : ℕ) → i + 4 ≤ length words → slice_index (four words i a b c d) (i + 1) ≡ b
four_second words i a b c d room =
    let within : i + 1 < length (slice_set words i a) = omega (arith, length-set {A = ℕ}) in
    let n2 : i + 1 ≢ i + 2 = omega arith in
    let n3 : i + 1 ≢ i + 3 = omega arith in
    rw (get_or-set_other, get_or-set_other, get_or-set_same) refl

four_third : (words : List ℕ) (i a b c d : ℕ) → i + 4 ≤ length words → slice_index (four words i a b c d) (i + 2) ≡ c
four_third words i a b c d room =
    let within : i + 2 < length (slice_set (slice_set words i a) (i + 1) b) = omega (arith, length-set {A = ℕ}) in
    let n3 : i + 2 ≢ i + 3 = omega arith in
    rw (get_or-set_other, get_or-set_same) refl

four_fourth : (words : List ℕ) (i a b c d : ℕ) → i + 4 ≤ length words → slice_index (four words i a b c d) (i + 3) ≡ d
four_fourth words i a b c d room =
    let within : i + 3 < length (slice_set (slice_set (slice_set words i a) (i + 1) b) (i + 2) c) = omega (arith, length-set {A = ℕ}) in
    rw get_or-set_same refl

-- a header of four words
same_header : (header : Header) (desc size base cell : ℕ) → desc ≡ header.desc → size ≡ header.size → base ≡ header.base → cell ≡ header.cell
    → (record { desc = desc; size = size; base = base; cell = cell }) ≡ header
same_header header desc size base cell e1 e2 e3 e4 = rw (e1, e2, e3, e4) refl

pub reads_back : ReadsBack
reads_back words block header stands =
    let room : first_word block + 4 ≤ length words = omega (arith, stands.from_one, stands.room) in
    let i = first_word block in
    same_header header _ _ _ _
    (four_first words i header.desc header.size header.base header.cell room)
    (four_second words i header.desc header.size header.base header.cell room)
    (four_third words i header.desc header.size header.base header.cell room)
    (four_fourth words i header.desc header.size header.base header.cell room)

outside : (i k : ℕ) → (k < i) ⊎ (i + 4 ≤ k) → (j : ℕ) → j < 4 → k ≢ i + j
outside i k (inl before) j h = omega arith
outside i k (inr behind) j h = omega arith

-- a word that is before or behind the four
behind : (block index : ℕ) → 0 < block → (index < first_word block) ⊎ (4 * block ≤ index) → (index < first_word block) ⊎ (first_word block + 4 ≤ index)
behind block index from_one (inl before) = inl before
behind block index from_one (inr after) = inr (omega arith)

pub keeps_words : KeepsWords
keeps_words words block index header from_one apart =
    four_outside words (first_word block) header.desc header.size header.base header.cell index
    (outside (first_word block) index (behind block index from_one apart))

-- the words of another block are not those of this one
others_words : (block other k : ℕ) → 0 < block → 0 < other → other ≢ block → k < 4 → (j : ℕ) → j < 4 → first_word other + k ≢ first_word block + j
others_words block other k from_one other_from_one apart h j small = omega arith

pub keeps_others : KeepsOthers
keeps_others words block other header from_one other_from_one apart =
    let same = λ (k : ℕ) (h : k < 4). four_outside words (first_word block) header.desc header.size header.base header.cell (first_word other + k) (others_words block other k from_one other_from_one apart h) in
    let here = four_outside words (first_word block) header.desc header.size header.base header.cell (first_word other)
    (λ j h. omega (arith, others_words block other 0 from_one other_from_one apart (omega arith) j h)) in
    same_header (header_at words other) _ _ _ _ here (same 1 (omega arith)) (same 2 (omega arith)) (same 3 (omega arith))

pub keeps_length : KeepsLength
keeps_length words block header = length-four words (first_word block) header.desc header.size header.base header.cell
