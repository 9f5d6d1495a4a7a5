-- What a cell begins with: the 2W words of a block of W words.
use Rattle.std.specs.Prelude.{◌≡◌, ℕ, zero, suc, ◌*◌, ◌<◌, ◌≤◌, List, [], ◌∷◌, ◌++◌, length, take, replicate, slice_index, slice_set}
use Rattle.fsc_base.specs.declared.word.WordKind.{WordKind}
use Rattle.fsc_base.specs.declared.word.WordKind.TheVariants.{Fat, Narrow}
use Rattle.type_desc.specs.Places.{kind_at, value_at, base_at, IsLayout}

-- the words begin with these values and bases, each at its place in a layout
pub record IsPlaced (total : ℕ) (value base : ℕ → ℕ) (values bases words : List ℕ) : Type 0 where
  pub room : 2 * total ≤ length words
  pub values_stand : (w : ℕ) → w < total → slice_index words (value w) ≡ slice_index values w
  pub bases_stand : (w : ℕ) → w < total → slice_index words (base w) ≡ slice_index bases w

-- the same in the layout of a shape
abbrev pub IsPlacedIn : (kinds : List WordKind) (total : ℕ) (values bases words : List ℕ) → Type 0
IsPlacedIn kinds total values bases words = IsPlaced total (value_at kinds total) (base_at kinds total) values bases words

-- what stands in front for a word: a fat word's base and value, or a narrow one's value
abbrev pub front_of : WordKind → (value base : ℕ) → List ℕ
front_of Fat value base = base ∷ value ∷ []
front_of Narrow value base = value ∷ []

-- what stands behind for a word: a narrow word's base
abbrev pub back_of : WordKind → (base : ℕ) → List ℕ
back_of Fat base = []
back_of Narrow base = base ∷ []

-- the front of the first n words, first one first
abbrev pub fronts : List WordKind → (values bases : List ℕ) → (n : ℕ) → List ℕ
fronts kinds values bases zero = []
fronts kinds values bases (suc n) = fronts kinds values bases n ++ front_of (kind_at kinds n) (slice_index values n) (slice_index bases n)

-- the back of the first n words, last one first
abbrev pub backs : List WordKind → (bases : List ℕ) → (n : ℕ) → List ℕ
backs kinds bases zero = []
backs kinds bases (suc n) = back_of (kind_at kinds n) (slice_index bases n) ++ backs kinds bases n

-- the words of a block, as one list
unfoldable pub placed_of : List WordKind → (total : ℕ) → (values bases : List ℕ) → List ℕ
placed_of kinds total values bases = fronts kinds values bases total ++ backs kinds bases total

-- there are twice as many as words in the block
abbrev pub PlacedSize : Type 0
PlacedSize = (kinds : List WordKind) (total : ℕ) (values bases : List ℕ) → length (placed_of kinds total values bases) ≡ 2 * total

-- they have each value and base at its place
abbrev pub PlacesEach : Type 0
PlacesEach = (kinds : List WordKind) (total : ℕ) (values bases : List ℕ) → IsPlacedIn kinds total values bases (placed_of kinds total values bases)

-- and no others have
abbrev pub PlacedOnce : Type 0
PlacedOnce = (kinds : List WordKind) (total : ℕ) (values bases words : List ℕ) → IsPlacedIn kinds total values bases words → take (2 * total) words ≡ placed_of kinds total values bases

-- zeros without bases are zeros in each shape
abbrev pub ZerosPlaced : Type 0
ZerosPlaced = (kinds : List WordKind) (total : ℕ) (values bases : List ℕ) → ((w : ℕ) → w < total → slice_index values w ≡ 0) → ((w : ℕ) → w < total → slice_index bases w ≡ 0)
    → placed_of kinds total values bases ≡ replicate (2 * total) 0

-- in any layout a word written at a value's place is that value, and all else stays
abbrev pub SetsValue : Type 0
SetsValue = (total : ℕ) (value base : ℕ → ℕ) → IsLayout total value base
    → (values bases words : List ℕ) (w v : ℕ) → IsPlaced total value base values bases words → w < total → w < length values
    → IsPlaced total value base (slice_set values w v) bases (slice_set words (value w) v)

-- the same for a base
abbrev pub SetsBase : Type 0
SetsBase = (total : ℕ) (value base : ℕ → ℕ) → IsLayout total value base
    → (values bases words : List ℕ) (w v : ℕ) → IsPlaced total value base values bases words → w < total → w < length bases
    → IsPlaced total value base values (slice_set bases w v) (slice_set words (base w) v)

-- For one: a block of 10 bytes whose words are narrow, fat and narrow, with the values 1, 0x01020304 and 7, and no bases.
abbrev pub TenBytes : Type 0
TenBytes = placed_of (Narrow ∷ Fat ∷ []) 3 (1 ∷ 0x0102_0304 ∷ 7 ∷ []) (0 ∷ 0 ∷ 0 ∷ []) ≡ 1 ∷ 0 ∷ 0x0102_0304 ∷ 7 ∷ 0 ∷ 0 ∷ []
