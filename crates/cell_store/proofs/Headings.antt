-- A header by address is a header by index.
use Rattle.std.proofs.Common.{◌≡◌, ℕ, ◌+◌, ◌*◌, ◌-◌, ◌/◌, List, refl, sym, ap, ◌∙◌, arith}
use Rattle.std.specs.Prelude.{slice_index}
use Rattle.block_header.specs.declared.Header.{Header}
use Rattle.block_header.specs.Headers.{header_at, first_word}
use Rattle.cell_store.specs.StandsFor.{HeaderWords, header_of}
use Rattle.cell_store.specs.Store.{Store, memory_of, IsLiveIn}
use Rattle.cell_store.specs.Kept.{HasCell}

-- the same four words
abbrev pub heading : Header → HeaderWords
heading header = record { desc = header.desc; size = header.size; base = header.base; cell = header.cell }

same_heading : (desc size base cell desc2 size2 base2 cell2 : ℕ) → desc ≡ desc2 → size ≡ size2 → base ≡ base2 → cell ≡ cell2
    → ◌≡◌ {A = HeaderWords} (record { desc = desc; size = size; base = base; cell = cell }) (record { desc = desc2; size = size2; base = base2; cell = cell2 })
same_heading desc size base cell desc2 size2 base2 cell2 e1 e2 e3 e4 = rw (e1, e2, e3, e4) refl

word_at : (words : List ℕ) (address index : ℕ) → address / 4 ≡ index → memory_of words address ≡ slice_index words index
word_at words address index e = ap (λ i. slice_index words i) e

pub heading_of : (words : List ℕ) (b : ℕ) → header_of (memory_of words) 0 b ≡ heading (header_at words b)
heading_of words b =
    same_heading _ _ _ _ _ _ _ _
    (word_at words (0 + 16 * (b - 1)) (first_word b) (omega arith))
    (word_at words (0 + 16 * (b - 1) + 4) (first_word b + 1) (omega arith))
    (word_at words (0 + 16 * (b - 1) + 8) (first_word b + 2) (omega arith))
    (word_at words (0 + 16 * (b - 1) + 12) (first_word b + 3) (omega arith))

pub desc_of : (words : List ℕ) (b : ℕ) → (header_of (memory_of words) 0 b).desc ≡ (header_at words b).desc
desc_of words b = ap (λ (h : HeaderWords). h.desc) (heading_of words b)

pub size_of : (words : List ℕ) (b : ℕ) → (header_of (memory_of words) 0 b).size ≡ (header_at words b).size
size_of words b = ap (λ (h : HeaderWords). h.size) (heading_of words b)

pub base_of : (words : List ℕ) (b : ℕ) → (header_of (memory_of words) 0 b).base ≡ (header_at words b).base
base_of words b = ap (λ (h : HeaderWords). h.base) (heading_of words b)

pub cell_of : (words : List ℕ) (b : ℕ) → (header_of (memory_of words) 0 b).cell ≡ (header_at words b).cell
cell_of words b = ap (λ (h : HeaderWords). h.cell) (heading_of words b)

pub same_headings : (words new : List ℕ) (b : ℕ) → header_at new b ≡ header_at words b → header_of (memory_of new) 0 b ≡ header_of (memory_of words) 0 b
same_headings words new b same = heading_of new b ∙ ap heading same ∙ sym (heading_of words b)

pub live_has_cell : (store : Store) (b : ℕ) → IsLiveIn store b → HasCell store.words store.made b
live_has_cell store b live =
    let desc = desc_of store.words b in
    record { positive = live.made.positive; known = live.made.known; used = omega (arith, live.object, desc) }
