-- Headers in a list of words: four words a block, from block 1 on.
use Rattle.std.specs.Prelude.{◌≡◌, ◌≢◌, ℕ, ◌+◌, ◌-◌, ◌*◌, ◌<◌, ◌≤◌, ◌⊎◌, List, length, slice_index, slice_set}
use Rattle.block_header.specs.declared.Header.{Header}

-- the index of the first of a block's four words
abbrev pub first_word : (block : ℕ) → ℕ
first_word block = 4 * (block - 1)

-- a block's header
abbrev pub header_at : (words : List ℕ) → (block : ℕ) → Header
header_at words block = record {
  desc = slice_index words (first_word block);
  size = slice_index words (first_word block + 1);
  base = slice_index words (first_word block + 2);
  cell = slice_index words (first_word block + 3);
}

-- the words with these four in the place of a block's header
abbrev pub with_header : (words : List ℕ) → (block : ℕ) → Header → List ℕ
with_header words block header =
    let with_desc = slice_set words (first_word block) header.desc in
    let with_size = slice_set with_desc (first_word block + 1) header.size in
    let with_base = slice_set with_size (first_word block + 2) header.base in
    slice_set with_base (first_word block + 3) header.cell

-- the place of a block's header is among the words
pub record Stands (words : List ℕ) (block : ℕ) : Type 0 where
  pub from_one : 0 < block
  pub room : 4 * block ≤ length words

-- a header that was written is read back
abbrev pub ReadsBack : Type 0
ReadsBack = (words : List ℕ) (block : ℕ) (header : Header) → Stands words block → header_at (with_header words block header) block ≡ header

-- another block's header stays
abbrev pub KeepsOthers : Type 0
KeepsOthers = (words : List ℕ) (block other : ℕ) (header : Header) → 0 < block → 0 < other → other ≢ block
    → header_at (with_header words block header) other ≡ header_at words other

-- a word before or behind the four stays
abbrev pub KeepsWords : Type 0
KeepsWords = (words : List ℕ) (block index : ℕ) (header : Header) → 0 < block → (index < first_word block) ⊎ (4 * block ≤ index)
    → slice_index (with_header words block header) index ≡ slice_index words index

-- there are as many words as before
abbrev pub KeepsLength : Type 0
KeepsLength = (words : List ℕ) (block : ℕ) (header : Header) → length (with_header words block header) ≡ length words
