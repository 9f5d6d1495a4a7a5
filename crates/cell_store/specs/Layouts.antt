-- Layouts of cells: where the value and the base of each word of a block stand among the words of its cell.
use Rattle.std.specs.Prelude.{◌≡◌, ◌≢◌, ℕ, ◌*◌, ◌%◌, ◌<◌, ◌⊎◌, Option, Some}

-- For a block of so many words in all and one of its words: the index of that word's value and that of its base, among the
-- words of the cell.
pub record Layout : Type 0 where
  pub value_at : (total w : ℕ) → ℕ
  pub base_at : (total w : ℕ) → ℕ

-- values and bases take each of twice as many places once
pub record IsLayout (layout : Layout) : Type 0 where
  pub value_in : (total w : ℕ) → w < total → layout.value_at total w < 2 * total
  pub base_in : (total w : ℕ) → w < total → layout.base_at total w < 2 * total
  pub values_differ : (total v w : ℕ) → v < total → w < total → layout.value_at total v ≡ layout.value_at total w → v ≡ w
  pub bases_differ : (total v w : ℕ) → v < total → w < total → layout.base_at total v ≡ layout.base_at total w → v ≡ w
  pub apart : (total v w : ℕ) → v < total → w < total → layout.value_at total v ≢ layout.base_at total w

-- The layouts that descriptors stand for, by number.
abbrev pub Layouts : Type 0
Layouts = ℕ → Option Layout

-- each number stands for a layout that is one, if for any
abbrev pub AreLayouts : Layouts → Type 0
AreLayouts layouts = (desc : ℕ) (layout : Layout) → layouts desc ≡ Some layout → IsLayout layout

-- the numbers are 3 and, as addresses of descriptors are, multiples of 4
abbrev pub AreAddresses : Layouts → Type 0
AreAddresses layouts = (desc : ℕ) (layout : Layout) → layouts desc ≡ Some layout → (desc ≡ 3) ⊎ (desc % 4 ≡ 0)
