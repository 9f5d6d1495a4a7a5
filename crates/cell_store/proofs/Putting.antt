-- A new block among the words: first its cell is cleared, then its header is written.
use Rattle.std.proofs.Common.{◌≡◌, ℕ, ◌+◌, ◌*◌, ◌/◌, ◌<◌, ◌≤◌, inl, inr, List, length, refl, ◌∙◌, arith, add-zero}
use Rattle.std.specs.Prelude.{slice_index}
use Rattle.block_header.specs.declared.Header.{Header}
use Rattle.block_header.specs.Headers.{header_at, with_header, first_word}
use Rattle.block_header.proofs.HeaderLaws.{reads_back, keeps_others, keeps_words, keeps_length}
use Rattle.c_memory.specs.Blocks.{words_of}
use Rattle.cell_store.specs.Making.{Clears, Puts}

-- a first word without its 0
at_first : (words new : List ℕ) (i : ℕ) → slice_index new (i + 0) ≡ slice_index words (i + 0) → slice_index new i ≡ slice_index words i
at_first words new i h = rw add-zero at h

-- a header of four words
pub same_header : (words new : List ℕ) (b : ℕ) → ((k : ℕ) → k < 4 → slice_index new (first_word b + k) ≡ slice_index words (first_word b + k))
    → header_at new b ≡ header_at words b
same_header words new b same =
    let e0 : slice_index new (first_word b) ≡ slice_index words (first_word b) = at_first words new (first_word b) (same 0 (omega arith)) in
    rw (e0, same 1 (omega arith), same 2 (omega arith), same 3 (omega arith)) refl

-- headers stand below what was changed behind them
pub below : (words new : List ℕ) (from b : ℕ) → 1 ≤ b → 4 * b ≤ from → ((i : ℕ) → i < from → slice_index new i ≡ slice_index words i)
    → header_at new b ≡ header_at words b
below words new from b low room same = same_header words new b (λ k h. same (first_word b + k) (omega arith))

module _ (old mid : List ℕ) (block : ℕ) (header : Header)
    (positive : 1 ≤ block) (behind : 4 * block ≤ header.cell / 4) (within : header.cell / 4 + 2 * words_of header.size ≤ length old)
    (cleared : Clears old (header.cell / 4) (2 * words_of header.size) mid) where
  cleared_header : (b : ℕ) → 1 ≤ b → b < block → header_at mid b ≡ header_at old b
  cleared_header b low high = below old mid (header.cell / 4) b low (omega arith) (λ i h. cleared.others i (inl h))

  far : (i : ℕ) → 4 * block ≤ i → slice_index (with_header mid block header) i ≡ slice_index mid i
  far i h = keeps_words mid block i header positive (inr h)

  pub puts : Puts old block header (with_header mid block header)
  puts = record {
    length_is = keeps_length mid block header ∙ cleared.length_is;
    header_is = reads_back mid block header (record { from_one = positive; room = omega (arith, cleared.length_is) });
    headers = λ b low high. keeps_others mid block b header positive low (omega arith) ∙ cleared_header b low high;
    zero_in = λ i h. far (header.cell / 4 + i) (omega arith) ∙ cleared.zero_in i h;
    others = λ i h apart. far i h ∙ cleared.others i apart;
  }
