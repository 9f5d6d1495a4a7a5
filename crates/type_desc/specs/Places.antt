-- Where the values and bases of a block's words stand in its cell. A block of W words has 2W words in its cell.
use Rattle.std.specs.Prelude.{◌≡◌, ◌≢◌, ℕ, zero, suc, ◌+◌, ◌-◌, ◌*◌, ◌%◌, ◌<◌, ◌⊎◌, List, [], ◌∷◌, length, slice_index_or}
use Rattle.fsc_base.specs.declared.word.WordKind.{WordKind}
use Rattle.fsc_base.specs.declared.word.WordKind.TheVariants.{Fat, Narrow}

-- word w of a block has the kind of w modulo the shape's words
abbrev pub kind_at : List WordKind → (w : ℕ) → WordKind
kind_at kinds w = slice_index_or kinds (w % length kinds) Narrow

-- how many fat words a word is
abbrev pub fats_in : WordKind → ℕ
fats_in Fat = 1
fats_in Narrow = 0

-- how many narrow words a word is
abbrev pub narrows_in : WordKind → ℕ
narrows_in Fat = 0
narrows_in Narrow = 1

-- the number of fat words before word w
abbrev pub fats_before : List WordKind → (w : ℕ) → ℕ
fats_before kinds zero = 0
fats_before kinds (suc w) = fats_before kinds w + fats_in (kind_at kinds w)

-- the number of narrow words before word w
abbrev pub narrows_before : List WordKind → (w : ℕ) → ℕ
narrows_before kinds zero = 0
narrows_before kinds (suc w) = narrows_before kinds w + narrows_in (kind_at kinds w)

-- the indices of the value and of the base of a word with f fat and m narrow words before it
abbrev pub place_of_kind : WordKind → (total f m : ℕ) → ℕ × ℕ
place_of_kind Fat total f m = (2 * f + m + 1, 2 * f + m)
place_of_kind Narrow total f m = (2 * f + m, 2 * total - 1 - m)

-- the indices of the value and of the base of word w, in a cell of a block of `total` words
unfoldable pub placed : List WordKind → (total w : ℕ) → ℕ × ℕ
placed kinds total w = place_of_kind (kind_at kinds w) total (fats_before kinds w) (narrows_before kinds w)

abbrev pub value_at : List WordKind → (total w : ℕ) → ℕ
value_at kinds total w = (placed kinds total w).0

abbrev pub base_at : List WordKind → (total w : ℕ) → ℕ
base_at kinds total w = (placed kinds total w).1

-- The plane layout, which is no shape's: all values, and then all bases.
abbrev pub plane_value_at : (total w : ℕ) → ℕ
plane_value_at total w = w

abbrev pub plane_base_at : (total w : ℕ) → ℕ
plane_base_at total w = total + w

-- The indices of the values and bases of `total` words are the numbers below twice the total, each once.
pub record IsLayout (total : ℕ) (value base : ℕ → ℕ) : Type 0 where
  pub value_within : (w : ℕ) → w < total → value w < 2 * total
  pub base_within : (w : ℕ) → w < total → base w < 2 * total
  pub values_apart : (v w : ℕ) → v < total → w < total → value v ≡ value w → v ≡ w
  pub bases_apart : (v w : ℕ) → v < total → w < total → base v ≡ base w → v ≡ w
  pub no_value_is_base : (v w : ℕ) → v < total → w < total → value v ≢ base w
  pub each : (i : ℕ) → i < 2 * total → (w : ℕ) × (w < total) × ((i ≡ value w) ⊎ (i ≡ base w))

-- the places of a shape's words are a layout, and so are those of the plane
abbrev pub ShapesLayOut : Type 0
ShapesLayOut = (kinds : List WordKind) (total : ℕ) → IsLayout total (value_at kinds total) (base_at kinds total)

abbrev pub PlaneLaysOut : Type 0
PlaneLaysOut = (total : ℕ) → IsLayout total (plane_value_at total) (plane_base_at total)

-- the places where all words are narrow
abbrev pub NarrowPlaces : Type 0
NarrowPlaces = (total w : ℕ) → (value_at (Narrow ∷ []) total w ≡ w) × (base_at (Narrow ∷ []) total w ≡ 2 * total - 1 - w)

-- and where all are fat
abbrev pub FatPlaces : Type 0
FatPlaces = (total w : ℕ) → (value_at (Fat ∷ []) total w ≡ 2 * w + 1) × (base_at (Fat ∷ []) total w ≡ 2 * w)
