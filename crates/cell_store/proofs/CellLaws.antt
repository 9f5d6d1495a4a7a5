-- What a cell keeps, when memory changes elsewhere, and when it is blank.
use Rattle.std.proofs.Common.{◌≡◌, ◌≢◌, ℕ, zero, suc, ◌+◌, ◌*◌, ◌-◌, ◌/◌, ◌%◌, ◌<◌, ◌≤◌, ◌⊎◌, inl, inr, true, List, ◌∷◌, length, take, replicate, Some, refl, sym, ap, ◌∙◌, arith, get_or-set_same, get_or-set_other}
use Rattle.std.specs.Prelude.{slice_index, slice_index_or, slice_set}
use Rattle.std.proofs.lemmas.Bool.{cases_eq}
use Rattle.std.proofs.lemmas.List.{drop-replicate, get_or-replicate}
use Rattle.c_memory.specs.Bytes.{little_endian}
use Rattle.c_memory.specs.Blocks.{Block, words_of}
use Rattle.cell_store.specs.Layouts.{AreAddresses, AreLayouts, IsLayout, Layout, Layouts}
use Rattle.cell_store.specs.StandsFor.{IsBlank, IsDecided, IsLaidOut, IsUndecided, Keeps, Memory, value_word}
use Rattle.cell_store.specs.Store.{memory_of}

-- ---- words by address

-- word i of a cell
pub cell_word : (words : List ℕ) (cell i : ℕ) → memory_of words (cell + 4 * i) ≡ slice_index words (cell / 4 + i)
cell_word words cell i = let place : (cell + 4 * i) / 4 ≡ cell / 4 + i = omega arith in ap (λ n. slice_index words n) place

-- two memories agree on so many words of a cell
abbrev pub AgreeIn : (memory other : Memory) (cell count : ℕ) → Type 0
AgreeIn memory other cell count = (i : ℕ) → i < count → other (cell + 4 * i) ≡ memory (cell + 4 * i)

laid_out_along : (memory other : Memory) (cell : ℕ) (layout : Layout) (block : Block) → IsLayout layout → AgreeIn memory other cell (2 * words_of block.size)
    → IsLaidOut memory cell layout block → IsLaidOut other cell layout block
laid_out_along memory other cell layout block is agree out = record {
  values = λ w h. agree (layout.value_at (words_of block.size) w) (is.value_in (words_of block.size) w h) ∙ out.values w h;
  bases = λ w h. agree (layout.base_at (words_of block.size) w) (is.base_in (words_of block.size) w h) ∙ out.bases w h;
}

-- a cell keeps what it keeps, where its words stay
pub keeps_along : (memory other : Memory) (layouts : Layouts) (desc cell : ℕ) (block : Block) → AreLayouts layouts
    → AgreeIn memory other cell (2 * words_of block.size) → Keeps memory layouts desc cell block → Keeps other layouts desc cell block
keeps_along memory other layouts desc cell block all agree (inl blank_one) = inl (record {
  desc_is = blank_one.desc_is;
  unsealed = blank_one.unsealed;
  blank = let blank = blank_one.blank in record { words = λ i h. agree i h ∙ blank.words i h; bytes = blank.bytes; bases = blank.bases };
})
keeps_along memory other layouts desc cell block all agree (inr (inl decided)) = inr (inl (record {
  layout = decided.layout;
  found = decided.found;
  decided = decided.decided;
  unsealed = decided.unsealed;
  laid_out = laid_out_along memory other cell decided.layout block (all desc decided.layout decided.found) agree decided.laid_out;
}))
keeps_along memory other layouts desc cell block all agree (inr (inr shut)) = inr (inr (record {
  of = shut.of;
  desc_is = shut.desc_is;
  layout = shut.layout;
  found = shut.found;
  decided = shut.decided;
  shut = shut.shut;
  laid_out = laid_out_along memory other cell shut.layout block (all shut.of shut.layout shut.found) agree shut.laid_out;
}))

-- ---- blank cells

zeros : (n : ℕ) → little_endian (replicate n 0) ≡ 0
zeros zero = refl
zeros (suc n) = omega (arith, zeros n)

abbrev min_of : (k m : ℕ) → ℕ
min_of zero m = zero
min_of (suc k) zero = zero
min_of (suc k) (suc m) = suc (min_of k m)

-- fewer zero bytes are zero bytes
take_zeros : (k m : ℕ) → ◌≡◌ {A = List ℕ} (take k (replicate m 0)) (replicate (min_of k m) 0)
take_zeros zero m = refl
take_zeros (suc k) zero = refl
take_zeros (suc k) (suc m) = ap (λ l. 0 ∷ l) (take_zeros k m)

pub zero_word : (size w : ℕ) → value_word (replicate size 0) w ≡ 0
zero_word size w = ap (λ l. little_endian (take 4 l)) (drop-replicate (4 * w) size 0) ∙ ap little_endian (take_zeros 4 (size - 4 * w)) ∙ zeros (min_of 4 (size - 4 * w))

-- any layout lays out a blank cell
pub blank_laid_out : (memory : Memory) (cell : ℕ) (layout : Layout) (block : Block) → IsLayout layout → IsBlank memory cell block → IsLaidOut memory cell layout block
blank_laid_out memory cell layout block is blank = record {
  values = λ w h.
      blank.words (layout.value_at (words_of block.size) w) (is.value_in (words_of block.size) w h)
      ∙ sym (ap (λ l. value_word l w) blank.bytes ∙ zero_word block.size w);
  bases = λ w h.
      blank.words (layout.base_at (words_of block.size) w) (is.base_in (words_of block.size) w h)
      ∙ sym (ap (λ l. slice_index l w) blank.bases ∙ get_or-replicate (words_of block.size) w 0 0 h);
}

-- an undecided cell is decided
pub keeps_decided : (memory : Memory) (layouts : Layouts) (desc cell : ℕ) (layout : Layout) (block : Block) → AreLayouts layouts → layouts desc ≡ Some layout → 3 ≤ desc
    → IsUndecided memory 2 cell block → IsDecided memory layouts desc cell block
keeps_decided memory layouts desc cell layout block all found some blank_one = record {
  layout = layout;
  found = found;
  decided = some;
  unsealed = blank_one.unsealed;
  laid_out = blank_laid_out memory cell layout block (all desc layout found) blank_one.blank;
}

-- ---- sealing

not_twice : (desc of : ℕ) → desc ≡ suc of → 4 ≤ of → desc % 4 ≡ 0 → (of ≡ 3) ⊎ (of % 4 ≡ 0) → ⊥
not_twice desc of is some multiple (inl three) = omega arith
not_twice desc of is some multiple (inr four) = omega arith

pub keeps_sealed : (memory : Memory) (layouts : Layouts) (desc cell : ℕ) (block : Block) → AreAddresses layouts → desc % 4 ≡ 0 → 4 ≤ desc
    → Keeps memory layouts desc cell block → Keeps memory layouts (desc + 1) cell (record block { is_sealed = true })
keeps_sealed memory layouts desc cell block addresses multiple some (inl blank_one) = absurd (let is = blank_one.desc_is in omega arith)
keeps_sealed memory layouts desc cell block addresses multiple some (inr (inl decided)) = inr (inr (record {
  of = desc;
  desc_is = omega arith;
  layout = decided.layout;
  found = decided.found;
  decided = some;
  shut = refl;
  laid_out = let out = decided.laid_out in record { values = out.values; bases = out.bases };
}))
keeps_sealed memory layouts desc cell block addresses multiple some (inr (inr shut)) =
    absurd (not_twice desc shut.of shut.desc_is shut.decided multiple (addresses shut.of shut.layout shut.found))

-- ---- one word of a block is another

-- the same value words but for one
pub record HasValue (block new : Block) (w value : ℕ) : Type 0 where
  pub size_is : new.size ≡ block.size
  pub value_is : value_word new.bytes w ≡ value
  pub values : (v : ℕ) → v < words_of block.size → v ≢ w → value_word new.bytes v ≡ value_word block.bytes v
  pub bases : (v : ℕ) → v < words_of block.size → slice_index_or new.bases v 0 ≡ slice_index_or block.bases v 0

-- the same bases but for one
pub record HasBase (block new : Block) (w base : ℕ) : Type 0 where
  pub size_is : new.size ≡ block.size
  pub base_is : slice_index_or new.bases w 0 ≡ base
  pub values : (v : ℕ) → v < words_of block.size → value_word new.bytes v ≡ value_word block.bytes v
  pub bases : (v : ℕ) → v < words_of block.size → v ≢ w → slice_index_or new.bases v 0 ≡ slice_index_or block.bases v 0

-- what is laid out by the size of another block of the same size
sized_as : (block new : Block) (memory : Memory) (cell : ℕ) (layout : Layout) → new.size ≡ block.size
    → ((v : ℕ) → v < words_of block.size → memory (cell + 4 * layout.value_at (words_of block.size) v) ≡ value_word new.bytes v)
    → ((v : ℕ) → v < words_of block.size → memory (cell + 4 * layout.base_at (words_of block.size) v) ≡ slice_index_or new.bases v 0)
    → IsLaidOut memory cell layout new
sized_as block new memory cell layout same values bases = record {
  values = λ v h. rw same (values v (rw same at h));
  bases = λ v h. rw same (bases v (rw same at h));
}

module _ (words : List ℕ) (cell : ℕ) (layout : Layout) (block new : Block) (w written : ℕ) (is : IsLayout layout) (within : w < words_of block.size)
    (room : cell / 4 + 2 * words_of block.size ≤ length words) (out : IsLaidOut (memory_of words) cell layout block) where
  -- word i of the cell, after word j was set
  set_same : (j : ℕ) → j < 2 * words_of block.size → memory_of (slice_set words (cell / 4 + j) written) (cell + 4 * j) ≡ written
  set_same j h = cell_word (slice_set words (cell / 4 + j) written) cell j ∙ get_or-set_same words (cell / 4 + j) written 0 (omega (arith, h, room))

  set_other : (i j : ℕ) → i ≢ j → memory_of (slice_set words (cell / 4 + j) written) (cell + 4 * i) ≡ memory_of words (cell + 4 * i)
  set_other i j differs =
      cell_word (slice_set words (cell / 4 + j) written) cell i
      ∙ get_or-set_other words (cell / 4 + j) (cell / 4 + i) written 0 (omega (arith, differs))
      ∙ sym (cell_word words cell i)

  -- with its value written, the cell is that of the block with this value
  values_by : HasValue block new w written → (v : ℕ) → v < words_of block.size
      → memory_of (slice_set words (cell / 4 + layout.value_at (words_of block.size) w) written) (cell + 4 * layout.value_at (words_of block.size) v) ≡ value_word new.bytes v
  values_by has v h =
      let total = words_of block.size in
      elim (cases_eq v w) [
        | inl same ↦
            rw same (set_same (layout.value_at total w) (is.value_in total w within) ∙ sym has.value_is)
        | inr differs ↦
            set_other (layout.value_at total v) (layout.value_at total w) (λ e. differs (is.values_differ total v w h within e)) ∙ out.values v h ∙ sym (has.values v h differs)
      ]

  pub value_written : HasValue block new w written
      → IsLaidOut (memory_of (slice_set words (cell / 4 + layout.value_at (words_of block.size) w) written)) cell layout new
  value_written has =
      let total = words_of block.size in
      sized_as block new (memory_of (slice_set words (cell / 4 + layout.value_at total w) written)) cell layout has.size_is (values_by has)
      (λ v h. set_other (layout.base_at total v) (layout.value_at total w) (λ e. is.apart total w v within h (sym e)) ∙ out.bases v h ∙ sym (has.bases v h))

  bases_by : HasBase block new w written → (v : ℕ) → v < words_of block.size
      → memory_of (slice_set words (cell / 4 + layout.base_at (words_of block.size) w) written) (cell + 4 * layout.base_at (words_of block.size) v) ≡ slice_index_or new.bases v 0
  bases_by has v h =
      let total = words_of block.size in
      elim (cases_eq v w) [
        | inl same ↦
            rw same (set_same (layout.base_at total w) (is.base_in total w within) ∙ sym has.base_is)
        | inr differs ↦
            set_other (layout.base_at total v) (layout.base_at total w) (λ e. differs (is.bases_differ total v w h within e)) ∙ out.bases v h ∙ sym (has.bases v h differs)
      ]

  -- with its base written, the cell is that of the block with this base
  pub base_written : HasBase block new w written
      → IsLaidOut (memory_of (slice_set words (cell / 4 + layout.base_at (words_of block.size) w) written)) cell layout new
  base_written has =
      let total = words_of block.size in
      sized_as block new (memory_of (slice_set words (cell / 4 + layout.base_at total w) written)) cell layout has.size_is
      (λ v h. set_other (layout.value_at total v) (layout.base_at total w) (λ e. is.apart total v w h within e) ∙ out.values v h ∙ sym (has.values v h)) (bases_by has)
