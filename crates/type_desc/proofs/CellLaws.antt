-- The words of a block stand at their places.
use Rattle.std.proofs.Common.{◌≡◌, ℕ, zero, suc, ◌+◌, ◌-◌, ◌*◌, ◌<◌, ◌≤◌, inl, inr, List, ◌++◌, length, refl, sym, ap, ◌∙◌, arith, length-append}
use Rattle.std.specs.Prelude.{slice_index, slice_set, take, replicate}
use Rattle.std.proofs.lemmas.Bool.{cases_lt}
use Rattle.std.proofs.lemmas.List.{length-take-le, length-replicate, length-set, get_or-take, get_or-replicate, get_or-set_same, get_or-set_other, take_all, get_or_append_left, get_or-append_right}
use Rattle.std.proofs.lemmas.Bool.Decides.{eqb_tells}
use Rattle.std.proofs.lemmas.Grind.{same_number_lists}
use Rattle.fsc_base.specs.declared.word.WordKind.{WordKind}
use Rattle.fsc_base.specs.declared.word.WordKind.TheVariants.{Narrow}
use Rattle.type_desc.specs.Places.{placed, kind_at, narrows_before, value_at, base_at}
use Rattle.type_desc.specs.Cells.{IsPlacedIn, front_of, back_of, fronts, backs, placed_of, PlacedSize, PlacesEach, PlacedOnce, ZerosPlaced, SetsValue, SetsBase, TenBytes}
use Rattle.type_desc.proofs.PlaceLaws.{front_end, FatAt, NarrowAt, cases_at, narrow_at, grown, fats_and_narrows, shape_layout}

-- what a word adds
record Adds (kinds : List WordKind) (values bases : List ℕ) (n : ℕ) : Type 0 where
  front : length (front_of (kind_at kinds n) (slice_index values n) (slice_index bases n)) + front_end kinds n ≡ front_end kinds (suc n)
  back : length (back_of (kind_at kinds n) (slice_index bases n)) + narrows_before kinds n ≡ narrows_before kinds (suc n)

adds : (kinds : List WordKind) (values bases : List ℕ) (n : ℕ) → Adds kinds values bases n
adds kinds values bases n = elim (cases_at kinds 0 n) [
  | inl fat ↦ record {
    front = omega (arith, fat.fats, fat.narrows, ap (λ kind. length (front_of kind (slice_index values n) (slice_index bases n))) fat.kind);
    back = omega (arith, fat.narrows, ap (λ kind. length (back_of kind (slice_index bases n))) fat.kind);
  }
  | inr narrow ↦ record {
    front = omega (arith, narrow.fats, narrow.narrows, ap (λ kind. length (front_of kind (slice_index values n) (slice_index bases n))) narrow.kind);
    back = omega (arith, narrow.narrows, ap (λ kind. length (back_of kind (slice_index bases n))) narrow.kind);
  }
]

pub length-fronts : (kinds : List WordKind) (values bases : List ℕ) (n : ℕ) → length (fronts kinds values bases n) ≡ front_end kinds n
length-fronts kinds values bases zero = refl
length-fronts kinds values bases (suc n) =
    omega (arith, length-append (fronts kinds values bases n) (front_of (kind_at kinds n) (slice_index values n) (slice_index bases n)), length-fronts kinds values bases n, (adds kinds values bases n).front)

pub length-backs : (kinds : List WordKind) (values bases : List ℕ) (n : ℕ) → length (backs kinds bases n) ≡ narrows_before kinds n
length-backs kinds values bases zero = refl
length-backs kinds values bases (suc n) =
    omega (arith, length-append (back_of (kind_at kinds n) (slice_index bases n)) (backs kinds bases n), length-backs kinds values bases n, (adds kinds values bases n).back)

-- later words leave the front of the first n as it is
front_stays : (kinds : List WordKind) (values bases : List ℕ) (n m i : ℕ) → n ≤ m → i < front_end kinds n → slice_index (fronts kinds values bases m) i ≡ slice_index (fronts kinds values bases n) i
front_stays kinds values bases n zero i h within =
    let same : zero ≡ n = omega arith in
    ap (λ k. slice_index (fronts kinds values bases k) i) same
front_stays kinds values bases n (suc m) i h within = elim (cases_lt m n) [
  | inl last ↦
      let same : suc m ≡ n = omega arith in
      ap (λ k. slice_index (fronts kinds values bases k) i) same
  | inr before ↦
      let more = grown kinds n m before in
      get_or_append_left (fronts kinds values bases m) (front_of (kind_at kinds m) (slice_index values m) (slice_index bases m)) 0 i (omega (arith, length-fronts kinds values bases m, more.fats, more.narrows))
      ∙ front_stays kinds values bases n m i before within
]

-- what a word adds in front stands behind the words before it
front_adds : (kinds : List WordKind) (values bases : List ℕ) (n k : ℕ)
    → slice_index (fronts kinds values bases (suc n)) (front_end kinds n + k) ≡ slice_index (front_of (kind_at kinds n) (slice_index values n) (slice_index bases n)) k
front_adds kinds values bases n k =
    let same : front_end kinds n + k - front_end kinds n ≡ k = omega arith in
    get_or-append_right (fronts kinds values bases n) (front_of (kind_at kinds n) (slice_index values n) (slice_index bases n)) (front_end kinds n) (front_end kinds n + k) 0 (length-fronts kinds values bases n) (omega arith)
    ∙ ap (λ j. slice_index (front_of (kind_at kinds n) (slice_index values n) (slice_index bases n)) j) same

-- so the front of a whole block has it there
in_front : (kinds : List WordKind) (values bases : List ℕ) (total w k : ℕ) → w < total → front_end kinds w + k < front_end kinds (suc w)
    → slice_index (fronts kinds values bases total) (front_end kinds w + k) ≡ slice_index (front_of (kind_at kinds w) (slice_index values w) (slice_index bases w)) k
in_front kinds values bases total w k h within =
    front_stays kinds values bases (suc w) total (front_end kinds w + k) h within
    ∙ front_adds kinds values bases w k

-- and so has the whole list
at_front : (kinds : List WordKind) (values bases : List ℕ) (total w k : ℕ) → w < total → front_end kinds w + k < front_end kinds (suc w)
    → slice_index (placed_of kinds total values bases) (front_end kinds w + k) ≡ slice_index (front_of (kind_at kinds w) (slice_index values w) (slice_index bases w)) k
unfolding placed_of
at_front kinds values bases total w k h within =
    let more = grown kinds (suc w) total (omega arith) in
    get_or_append_left (fronts kinds values bases total) (backs kinds bases total) 0 (front_end kinds w + k) (omega (arith, length-fronts kinds values bases total, more.fats, more.narrows))
    ∙ in_front kinds values bases total w k h within

-- the last base of the first n words stands first, if their last word is narrow
last_back : (kinds : List WordKind) (bases : List ℕ) (n i : ℕ) → kind_at kinds n ≡ Narrow → i ≡ 0
    → slice_index (backs kinds bases (suc n)) i ≡ slice_index bases n
last_back kinds bases n i narrow e =
    ap (λ k. slice_index (backs kinds bases (suc n)) k) e
    ∙ ap (λ kind. slice_index (back_of kind (slice_index bases n) ++ backs kinds bases n) 0) narrow

-- the others stand behind it
other_back : (kinds : List WordKind) (bases : List ℕ) (n i j : ℕ) → i + narrows_before kinds n ≡ j + narrows_before kinds (suc n)
    → slice_index (backs kinds bases (suc n)) i ≡ slice_index (backs kinds bases n) j
other_back kinds bases n i j e =
    let one = back_of (kind_at kinds n) (slice_index bases n) in
    let more = (adds kinds bases bases n).back in
    let same : i - length one ≡ j = omega (arith, more) in
    get_or-append_right one (backs kinds bases n) (length one) i 0 refl (omega (arith, more))
    ∙ ap (λ k. slice_index (backs kinds bases n) k) same

-- a narrow word's base stands so far from the end of the bases of the first n words
in_back : (kinds : List WordKind) (bases : List ℕ) (n w i : ℕ) → w < n → kind_at kinds w ≡ Narrow → i + narrows_before kinds w + 1 ≡ narrows_before kinds n
    → slice_index (backs kinds bases n) i ≡ slice_index bases w
in_back kinds bases zero w i h narrow e = absurd (omega arith)
in_back kinds bases (suc n) w i h narrow e = elim (cases_lt w n) [
  | inl before ↦
      let here = narrow_at kinds 0 w narrow in
      let more = grown kinds (suc w) n (omega arith) in
      let j = narrows_before kinds n - narrows_before kinds w - 1 in
      other_back kinds bases n i j (omega (arith, here.narrows, more.narrows))
      ∙ in_back kinds bases n w j before narrow (omega (arith, here.narrows, more.narrows))
  | inr last ↦
      let same : n ≡ w = omega arith in
      let here = narrow_at kinds 0 w narrow in
      let counted : narrows_before kinds (suc n) ≡ narrows_before kinds w + 1 = ap (λ k. narrows_before kinds (suc k)) same ∙ here.narrows in
      last_back kinds bases n i (ap (λ k. kind_at kinds k) same ∙ narrow) (omega arith)
      ∙ ap (λ k. slice_index bases k) same
]

-- and in the whole list it stands behind the front
at_back : (kinds : List WordKind) (values bases : List ℕ) (total w : ℕ) → w < total → kind_at kinds w ≡ Narrow
    → slice_index (placed_of kinds total values bases) (2 * total - 1 - narrows_before kinds w) ≡ slice_index bases w
unfolding placed_of
at_back kinds values bases total w h narrow =
    let here = narrow_at kinds total w narrow in
    let more = grown kinds (suc w) total (omega arith) in
    let whole = fats_and_narrows kinds total in
    let i = narrows_before kinds total - narrows_before kinds w - 1 in
    let same : 2 * total - 1 - narrows_before kinds w - front_end kinds total ≡ i = omega (arith, here.narrows, more.narrows) in
    get_or-append_right (fronts kinds values bases total) (backs kinds bases total) (front_end kinds total) (2 * total - 1 - narrows_before kinds w) 0
    (length-fronts kinds values bases total) (omega (arith, here.narrows, more.narrows))
    ∙ ap (λ k. slice_index (backs kinds bases total) k) same
    ∙ in_back kinds bases total w i h narrow (omega (arith, here.narrows, more.narrows))

-- a fat word's value and base
fat_placed : (kinds : List WordKind) (values bases : List ℕ) (total w : ℕ) → w < total → FatAt kinds total w
    → (slice_index (placed_of kinds total values bases) (value_at kinds total w) ≡ slice_index values w)
    × (slice_index (placed_of kinds total values bases) (base_at kinds total w) ≡ slice_index bases w)
fat_placed kinds values bases total w h fat =
    let words = placed_of kinds total values bases in
    let first : front_end kinds w + 0 ≡ base_at kinds total w = omega (arith, fat.base) in
    let base = at_front kinds values bases total w 0 h (omega (arith, fat.fats, fat.narrows)) in
    let value = at_front kinds values bases total w 1 h (omega (arith, fat.fats, fat.narrows)) in (
      ap (λ k. slice_index words k) fat.value ∙ value ∙ ap (λ kind. slice_index (front_of kind (slice_index values w) (slice_index bases w)) 1) fat.kind,
      ap (λ k. slice_index words k) (sym first) ∙ base ∙ ap (λ kind. slice_index (front_of kind (slice_index values w) (slice_index bases w)) 0) fat.kind,
    )

-- a narrow word's
narrow_placed : (kinds : List WordKind) (values bases : List ℕ) (total w : ℕ) → w < total → NarrowAt kinds total w
    → (slice_index (placed_of kinds total values bases) (value_at kinds total w) ≡ slice_index values w)
    × (slice_index (placed_of kinds total values bases) (base_at kinds total w) ≡ slice_index bases w)
narrow_placed kinds values bases total w h narrow =
    let words = placed_of kinds total values bases in
    let first : front_end kinds w + 0 ≡ value_at kinds total w = omega (arith, narrow.value) in
    let value = at_front kinds values bases total w 0 h (omega (arith, narrow.fats, narrow.narrows)) in (
      ap (λ k. slice_index words k) (sym first) ∙ value ∙ ap (λ kind. slice_index (front_of kind (slice_index values w) (slice_index bases w)) 0) narrow.kind,
      ap (λ k. slice_index words k) narrow.base ∙ at_back kinds values bases total w h narrow.kind,
    )

both_placed : (kinds : List WordKind) (values bases : List ℕ) (total w : ℕ) → w < total
    → (slice_index (placed_of kinds total values bases) (value_at kinds total w) ≡ slice_index values w)
    × (slice_index (placed_of kinds total values bases) (base_at kinds total w) ≡ slice_index bases w)
both_placed kinds values bases total w h = elim (cases_at kinds total w) [
  | inl fat ↦ fat_placed kinds values bases total w h fat
  | inr narrow ↦ narrow_placed kinds values bases total w h narrow
]

pub length-placed_of : PlacedSize
unfolding placed_of
length-placed_of kinds total values bases =
    omega (arith, length-append (fronts kinds values bases total) (backs kinds bases total), length-fronts kinds values bases total, length-backs kinds values bases total, fats_and_narrows kinds total)

pub places_each : PlacesEach
places_each kinds total values bases = record {
  room = omega (arith, length-placed_of kinds total values bases);
  values_stand = λ w h. (both_placed kinds values bases total w h).0;
  bases_stand = λ w h. (both_placed kinds values bases total w h).1;
}

-- two lists with the same values and bases at their places have the same word at an index
same_word : (kinds : List WordKind) (total : ℕ) (values bases words others : List ℕ) → IsPlacedIn kinds total values bases words → IsPlacedIn kinds total values bases others
    → (i : ℕ) → i < 2 * total → slice_index words i ≡ slice_index others i
same_word kinds total values bases words others one other i within =
    let found = (shape_layout kinds total).each i within in
    elim found.2 [
      | inl value ↦ ap (λ k. slice_index words k) value ∙ one.values_stand found.0 found.1 ∙ sym (other.values_stand found.0 found.1) ∙ ap (λ k. slice_index others k) (sym value)
      | inr base ↦ ap (λ k. slice_index words k) base ∙ one.bases_stand found.0 found.1 ∙ sym (other.bases_stand found.0 found.1) ∙ ap (λ k. slice_index others k) (sym base)
    ]

pub placed_once : PlacedOnce
placed_once kinds total values bases words h =
    let other = places_each kinds total values bases in
    let size : length (take (2 * total) words) ≡ 2 * total = length-take-le (2 * total) words h.room in
    same_number_lists (take (2 * total) words) (placed_of kinds total values bases) (size ∙ sym (length-placed_of kinds total values bases))
    (λ i within. get_or-take (2 * total) words i 0 (omega (arith, size)) ∙ same_word kinds total values bases words (placed_of kinds total values bases) h other i (omega (arith, size)))

-- zeros stand at all places of zeros
zeros_in : (kinds : List WordKind) (total : ℕ) (values bases : List ℕ) → ((w : ℕ) → w < total → slice_index values w ≡ 0) → ((w : ℕ) → w < total → slice_index bases w ≡ 0)
    → IsPlacedIn kinds total values bases (replicate (2 * total) 0)
zeros_in kinds total values bases no_values no_bases =
    let layout = shape_layout kinds total in
    let zeros : List ℕ = replicate (2 * total) 0 in
    let size : length zeros ≡ 2 * total = length-replicate (2 * total) 0 in
    record {
      room = omega (arith, size);
      values_stand = λ w h. get_or-replicate (2 * total) (value_at kinds total w) 0 0 (layout.value_within w h) ∙ sym (no_values w h);
      bases_stand = λ w h. get_or-replicate (2 * total) (base_at kinds total w) 0 0 (layout.base_within w h) ∙ sym (no_bases w h);
    }

pub zeros_placed : ZerosPlaced
zeros_placed kinds total values bases no_values no_bases =
    let zeros : List ℕ = replicate (2 * total) 0 in
    let size : length zeros ≡ 2 * total = length-replicate (2 * total) 0 in
    sym (placed_once kinds total values bases zeros (zeros_in kinds total values bases no_values no_bases))
    ∙ take_all (2 * total) zeros (omega (arith, size))

-- a list that is written reads back what was written, and elsewhere what it had
set_reads : (place : ℕ → ℕ) (total : ℕ) (items words : List ℕ) → ((v w : ℕ) → v < total → w < total → place v ≡ place w → v ≡ w)
    → ((w : ℕ) → w < total → place w < length words) → ((w : ℕ) → w < total → slice_index words (place w) ≡ slice_index items w)
    → (w v : ℕ) → w < total → w < length items → (k : ℕ) → k < total → slice_index (slice_set words (place w) v) (place k) ≡ slice_index (slice_set items w v) k
set_reads place total items words apart within same w v h in_items k hk = elim (eqb_tells k w) [
  | inl here ↦
      ap (λ j. slice_index (slice_set words (place w) v) (place j)) here.1
      ∙ get_or-set_same words (place w) v 0 (within w h)
      ∙ sym (get_or-set_same items w v 0 in_items)
      ∙ ap (λ j. slice_index (slice_set items w v) j) (sym here.1)
  | inr other ↦
      get_or-set_other words (place w) (place k) v 0 (λ e. other.1 (apart k w hk h e))
      ∙ same k hk
      ∙ sym (get_or-set_other items w k v 0 other.1)
]

pub sets_value : SetsValue
sets_value total value base layout values bases words w v placed h in_values = record {
  room = omega (arith, length-set words (value w) v, placed.room);
  values_stand = set_reads value total values words layout.values_apart (λ k hk. omega (arith, layout.value_within k hk, placed.room)) placed.values_stand w v h in_values;
  bases_stand = λ k hk. get_or-set_other words (value w) (base k) v 0 (λ e. layout.no_value_is_base w k h hk (sym e)) ∙ placed.bases_stand k hk;
}

pub sets_base : SetsBase
sets_base total value base layout values bases words w v placed h in_bases = record {
  room = omega (arith, length-set words (base w) v, placed.room);
  values_stand = λ k hk. get_or-set_other words (base w) (value k) v 0 (layout.no_value_is_base k w hk h) ∙ placed.values_stand k hk;
  bases_stand = set_reads base total bases words layout.bases_apart (λ k hk. omega (arith, layout.base_within k hk, placed.room)) placed.bases_stand w v h in_bases;
}

pub ten_bytes : TenBytes
unfolding placed_of placed
ten_bytes = refl
