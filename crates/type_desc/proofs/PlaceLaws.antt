-- Values and bases have places of their own.
use Rattle.std.proofs.Common.{◌≡◌, ◌≢◌, ℕ, zero, suc, ◌+◌, ◌-◌, ◌*◌, ◌<◌, ◌≤◌, ◌⊎◌, inl, inr, List, refl, sym, ap, subst, arith}
use Rattle.std.specs.Prelude.{◌%◌, slice_index_or, [], ◌∷◌}
use Rattle.std.proofs.lemmas.Bool.{cases_lt}
use Rattle.fsc_base.specs.declared.word.WordKind.{WordKind}
use Rattle.fsc_base.specs.declared.word.WordKind.TheVariants.{Fat, Narrow}
use Rattle.type_desc.specs.Places.{kind_at, fats_in, narrows_in, fats_before, narrows_before, place_of_kind, placed, value_at, base_at, plane_value_at, plane_base_at, ShapesLayOut, PlaneLaysOut, NarrowPlaces, FatPlaces}

-- the index behind what stands in front for the words before w
abbrev pub front_end : List WordKind → (w : ℕ) → ℕ
front_end kinds w = 2 * fats_before kinds w + narrows_before kinds w

-- the places of a fat word, and the counts behind it
pub record FatAt (kinds : List WordKind) (total w : ℕ) : Type 0 where
  pub kind : kind_at kinds w ≡ Fat
  pub value : value_at kinds total w ≡ front_end kinds w + 1
  pub base : base_at kinds total w ≡ front_end kinds w
  pub fats : fats_before kinds (suc w) ≡ fats_before kinds w + 1
  pub narrows : narrows_before kinds (suc w) ≡ narrows_before kinds w

-- the same of a narrow word
pub record NarrowAt (kinds : List WordKind) (total w : ℕ) : Type 0 where
  pub kind : kind_at kinds w ≡ Narrow
  pub value : value_at kinds total w ≡ front_end kinds w
  pub base : base_at kinds total w ≡ 2 * total - 1 - narrows_before kinds w
  pub fats : fats_before kinds (suc w) ≡ fats_before kinds w
  pub narrows : narrows_before kinds (suc w) ≡ narrows_before kinds w + 1

one_of : (kind : WordKind) → (kind ≡ Fat) ⊎ (kind ≡ Narrow)
one_of Fat = inl refl
one_of Narrow = inr refl

pub fat_at : (kinds : List WordKind) (total w : ℕ) → kind_at kinds w ≡ Fat → FatAt kinds total w
unfolding placed
fat_at kinds total w e = record {
  kind = e;
  value = ap (λ kind. (place_of_kind kind total (fats_before kinds w) (narrows_before kinds w)).0) e;
  base = ap (λ kind. (place_of_kind kind total (fats_before kinds w) (narrows_before kinds w)).1) e;
  fats = rw e refl;
  narrows = rw e (omega arith);
}

pub narrow_at : (kinds : List WordKind) (total w : ℕ) → kind_at kinds w ≡ Narrow → NarrowAt kinds total w
unfolding placed
narrow_at kinds total w e = record {
  kind = e;
  value = ap (λ kind. (place_of_kind kind total (fats_before kinds w) (narrows_before kinds w)).0) e;
  base = ap (λ kind. (place_of_kind kind total (fats_before kinds w) (narrows_before kinds w)).1) e;
  fats = rw e (omega arith);
  narrows = rw e refl;
}

-- a word is one of the two
pub cases_at : (kinds : List WordKind) (total w : ℕ) → FatAt kinds total w ⊎ NarrowAt kinds total w
cases_at kinds total w = elim (one_of (kind_at kinds w)) [
  | inl fat ↦ inl (fat_at kinds total w fat)
  | inr narrow ↦ inr (narrow_at kinds total w narrow)
]

-- each word before w is fat or narrow
pub fats_and_narrows : (kinds : List WordKind) (w : ℕ) → fats_before kinds w + narrows_before kinds w ≡ w
fats_and_narrows kinds zero = refl
fats_and_narrows kinds (suc w) = elim (cases_at kinds 0 w) [
  | inl fat ↦ omega (arith, fats_and_narrows kinds w, fat.fats, fat.narrows)
  | inr narrow ↦ omega (arith, fats_and_narrows kinds w, narrow.fats, narrow.narrows)
]

-- counts grow
pub record Grown (kinds : List WordKind) (v w : ℕ) : Type 0 where
  pub fats : fats_before kinds v ≤ fats_before kinds w
  pub narrows : narrows_before kinds v ≤ narrows_before kinds w

one_grown : (kinds : List WordKind) (v w : ℕ) → Grown kinds v w → Grown kinds v (suc w)
one_grown kinds v w h = record { fats = omega (arith, h.fats); narrows = omega (arith, h.narrows) }

same_grown : (kinds : List WordKind) (v w : ℕ) → v ≡ w → Grown kinds v w
same_grown kinds v w e = subst (Grown kinds v) e (record { fats = omega arith; narrows = omega arith })

pub grown : (kinds : List WordKind) (v w : ℕ) → v ≤ w → Grown kinds v w
grown kinds v zero h = same_grown kinds v zero (omega arith)
grown kinds v (suc w) h = elim (cases_lt w v) [
  | inl last ↦ same_grown kinds v (suc w) (omega arith)
  | inr before ↦ one_grown kinds v w (grown kinds v w before)
]

-- what the counts of a word say of the whole
record Counts (kinds : List WordKind) (total w : ℕ) : Type 0 where
  here : fats_before kinds w + narrows_before kinds w ≡ w
  whole : fats_before kinds total + narrows_before kinds total ≡ total
  fats : fats_before kinds (suc w) ≤ fats_before kinds total
  narrows : narrows_before kinds (suc w) ≤ narrows_before kinds total

counts : (kinds : List WordKind) (total w : ℕ) → w < total → Counts kinds total w
counts kinds total w h =
    let more = grown kinds (suc w) total (omega arith) in
    record { here = fats_and_narrows kinds w; whole = fats_and_narrows kinds total; fats = more.fats; narrows = more.narrows }

value_within : (kinds : List WordKind) (total w : ℕ) → w < total → value_at kinds total w < 2 * total
value_within kinds total w h =
    let n = counts kinds total w h in
    elim (cases_at kinds total w) [
      | inl fat ↦ omega (arith, n.here, n.whole, n.fats, n.narrows, fat.value, fat.fats, fat.narrows)
      | inr narrow ↦ omega (arith, n.here, n.whole, n.fats, n.narrows, narrow.value, narrow.fats, narrow.narrows)
    ]

base_within : (kinds : List WordKind) (total w : ℕ) → w < total → base_at kinds total w < 2 * total
base_within kinds total w h =
    let n = counts kinds total w h in
    elim (cases_at kinds total w) [
      | inl fat ↦ omega (arith, n.here, n.whole, n.fats, n.narrows, fat.base, fat.fats, fat.narrows)
      | inr narrow ↦ omega (arith, narrow.base)
    ]

-- a word's value and base are no place of an earlier word's
record Apart (kinds : List WordKind) (total v w : ℕ) : Type 0 where
  values : value_at kinds total v ≢ value_at kinds total w
  bases : base_at kinds total v ≢ base_at kinds total w
  value_base : value_at kinds total v ≢ base_at kinds total w
  base_value : base_at kinds total v ≢ value_at kinds total w

apart : (kinds : List WordKind) (total v w : ℕ) → v < w → w < total → Apart kinds total v w
apart kinds total v w before h =
    let n = counts kinds total w h in
    let more = grown kinds (suc v) w before in
    elim (cases_at kinds total v) [
      | inl fat ↦ elim (cases_at kinds total w) [
        | inl other ↦ record { values = omega arith; bases = omega arith; value_base = omega arith; base_value = omega arith }
        | inr other ↦ record { values = omega arith; bases = omega arith; value_base = omega arith; base_value = omega arith }
      ]
      | inr narrow ↦ elim (cases_at kinds total w) [
        | inl other ↦ record { values = omega arith; bases = omega arith; value_base = omega arith; base_value = omega arith }
        | inr other ↦ record { values = omega arith; bases = omega arith; value_base = omega arith; base_value = omega arith }
      ]
    ]

-- two words are in order, or one
abbrev Ordered : (v w : ℕ) → Type 0
Ordered v w = (v < w) ⊎ ((v ≡ w) ⊎ (w < v))

ordered : (v w : ℕ) → Ordered v w
ordered v w = elim (cases_lt v w) [
  | inl before ↦ inl before
  | inr after ↦ elim (cases_lt w v) [
    | inl behind ↦ inr (inr behind)
    | inr more ↦ inr (inl (omega arith))
  ]
]

values_apart : (kinds : List WordKind) (total v w : ℕ) → v < total → w < total → value_at kinds total v ≡ value_at kinds total w → v ≡ w
values_apart kinds total v w hv hw e = elim (ordered v w) [
  | inl before ↦ absurd ((apart kinds total v w before hw).values e)
  | inr rest ↦ elim rest [
    | inl same ↦ same
    | inr behind ↦ absurd ((apart kinds total w v behind hv).values (sym e))
  ]
]

bases_apart : (kinds : List WordKind) (total v w : ℕ) → v < total → w < total → base_at kinds total v ≡ base_at kinds total w → v ≡ w
bases_apart kinds total v w hv hw e = elim (ordered v w) [
  | inl before ↦ absurd ((apart kinds total v w before hw).bases e)
  | inr rest ↦ elim rest [
    | inl same ↦ same
    | inr behind ↦ absurd ((apart kinds total w v behind hv).bases (sym e))
  ]
]

-- a word's own value and base
own_apart : (kinds : List WordKind) (total w : ℕ) → w < total → value_at kinds total w ≢ base_at kinds total w
own_apart kinds total w h =
    let n = counts kinds total w h in
    elim (cases_at kinds total w) [
      | inl fat ↦ omega (arith, fat.value, fat.base)
      | inr narrow ↦ omega (arith, n.here, n.whole, n.fats, n.narrows, narrow.value, narrow.base, narrow.fats, narrow.narrows)
    ]

no_value_is_base : (kinds : List WordKind) (total v w : ℕ) → v < total → w < total → value_at kinds total v ≢ base_at kinds total w
no_value_is_base kinds total v w hv hw = elim (ordered v w) [
  | inl before ↦ (apart kinds total v w before hw).value_base
  | inr rest ↦ elim rest [
    | inl same ↦ subst (λ k. value_at kinds total v ≢ base_at kinds total k) same (own_apart kinds total v hv)
    | inr behind ↦ λ e. (apart kinds total w v behind hv).base_value (sym e)
  ]
]

-- the index is that of the value or base of one of the first n words
abbrev HasWord : (kinds : List WordKind) (total n i : ℕ) → Type 0
HasWord kinds total n i = (w : ℕ) × (w < n) × ((i ≡ value_at kinds total w) ⊎ (i ≡ base_at kinds total w))

has_more : (kinds : List WordKind) (total n i : ℕ) → HasWord kinds total n i → HasWord kinds total (suc n) i
has_more kinds total n i h = (h.0, omega (arith, h.1), h.2)

-- what stands in front
in_front : (kinds : List WordKind) (total n i : ℕ) → i < front_end kinds n → HasWord kinds total n i
in_front kinds total zero i h = absurd (omega arith)
in_front kinds total (suc n) i h = elim (cases_lt i (front_end kinds n)) [
  | inl before ↦ has_more kinds total n i (in_front kinds total n i before)
  | inr behind ↦ elim (cases_at kinds total n) [
    | inl fat ↦ elim (cases_lt i (front_end kinds n + 1)) [
      | inl base ↦ (n, omega arith, inr (omega (arith, fat.base)))
      | inr value ↦ (n, omega arith, inl (omega (arith, fat.value, fat.fats, fat.narrows)))
    ]
    | inr narrow ↦ (n, omega arith, inl (omega (arith, narrow.value, narrow.fats, narrow.narrows)))
  ]
]

-- what stands behind, counted from the last word of the cell
behind : (kinds : List WordKind) (total n j : ℕ) → j < narrows_before kinds n → HasWord kinds total n (2 * total - 1 - j)
behind kinds total zero j h = absurd (omega arith)
behind kinds total (suc n) j h = elim (cases_lt j (narrows_before kinds n)) [
  | inl before ↦ has_more kinds total n (2 * total - 1 - j) (behind kinds total n j before)
  | inr last ↦ elim (cases_at kinds total n) [
    | inl fat ↦ absurd (omega (arith, fat.narrows))
    | inr narrow ↦ (n, omega arith, inr (omega (arith, narrow.base, narrow.narrows)))
  ]
]

each : (kinds : List WordKind) (total i : ℕ) → i < 2 * total → HasWord kinds total total i
each kinds total i h = elim (cases_lt i (front_end kinds total)) [
  | inl front ↦ in_front kinds total total i front
  | inr back ↦
      let same : 2 * total - 1 - (2 * total - 1 - i) ≡ i = omega arith in
      subst (HasWord kinds total total) same (behind kinds total total (2 * total - 1 - i) (omega (arith, fats_and_narrows kinds total)))
]

pub shape_layout : ShapesLayOut
shape_layout kinds total = record {
  value_within = value_within kinds total;
  base_within = base_within kinds total;
  values_apart = values_apart kinds total;
  bases_apart = bases_apart kinds total;
  no_value_is_base = no_value_is_base kinds total;
  each = each kinds total;
}

-- of the indices of the plane those below the total are values, the others bases
plane_each : (total i : ℕ) → i < 2 * total → (w : ℕ) × (w < total) × ((i ≡ plane_value_at total w) ⊎ (i ≡ plane_base_at total w))
plane_each total i h = elim (cases_lt i total) [
  | inl value ↦ (i, value, inl refl)
  | inr base ↦ (i - total, omega arith, inr (omega arith))
]

pub plane_layout : PlaneLaysOut
plane_layout total = record {
  value_within = λ w h. omega arith;
  base_within = λ w h. omega arith;
  values_apart = λ v w hv hw e. e;
  bases_apart = λ v w hv hw e. omega arith;
  no_value_is_base = λ v w hv hw e. omega arith;
  each = plane_each total;
}

-- one kind for all words
one_kind : (kind : WordKind) (w : ℕ) → kind_at (kind ∷ []) w ≡ kind
one_kind kind w =
    let place : w % 1 ≡ 0 = omega arith in
    ap (λ k. slice_index_or (kind ∷ []) k Narrow) place

no_fats : (w : ℕ) → fats_before (Narrow ∷ []) w ≡ 0
no_fats zero = refl
no_fats (suc w) = omega (arith, no_fats w, ap fats_in (one_kind Narrow w))

no_narrows : (w : ℕ) → narrows_before (Fat ∷ []) w ≡ 0
no_narrows zero = refl
no_narrows (suc w) = omega (arith, no_narrows w, ap narrows_in (one_kind Fat w))

pub narrow_places : NarrowPlaces
narrow_places total w =
    let at = narrow_at (Narrow ∷ []) total w (one_kind Narrow w) in
    let sum = fats_and_narrows (Narrow ∷ []) w in
    (omega (arith, at.value, sum, no_fats w), omega (arith, at.base, sum, no_fats w))

pub fat_places : FatPlaces
fat_places total w =
    let at = fat_at (Fat ∷ []) total w (one_kind Fat w) in
    let sum = fats_and_narrows (Fat ∷ []) w in
    (omega (arith, at.value, sum, no_narrows w), omega (arith, at.base, sum, no_narrows w))
