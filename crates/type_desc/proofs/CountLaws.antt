-- Fat words before a word, by whole periods and what is left.
use Rattle.std.proofs.Common.{◌≡◌, ℕ, zero, suc, ◌+◌, ◌-◌, ◌*◌, ◌/◌, ◌%◌, ◌<◌, ◌≤◌, inl, inr, List, [], ◌∷◌, ◌++◌, length, sym, ap, ◌∙◌, arith, get_or}
use Rattle.std.proofs.Math.Nat.{add-mod_left, div-add-mod', mod-eq_of_lt}
use Rattle.std.specs.Prelude.{slice_index_or}
use Rattle.std.proofs.lemmas.Bool.{cases_lt}
use Rattle.std.proofs.lemmas.List.{get_or_default, get_or_append_left, get_or_push}
use Rattle.fsc_base.specs.declared.word.WordKind.{WordKind}
use Rattle.fsc_base.specs.declared.word.WordKind.TheVariants.{Fat, Narrow}
use Rattle.type_desc.specs.Places.{kind_at, fats_in, fats_before, placed}
use Rattle.type_desc.specs.Tables.{IsWellFormed}
use Rattle.type_desc.proofs.PlaceLaws.{fats_and_narrows, fat_at, narrow_at}

-- a period on, kinds are the same
kind_on : (kinds : List WordKind) (w : ℕ) → kind_at kinds (length kinds + w) ≡ kind_at kinds w
kind_on kinds w = ap (λ k. slice_index_or kinds k Narrow) (add-mod_left (length kinds) w)

fats_on : (kinds : List WordKind) (w : ℕ) → fats_before kinds (length kinds + w) ≡ fats_before kinds (length kinds) + fats_before kinds w
fats_on kinds zero =
    let e : length kinds + 0 ≡ length kinds = omega arith in
    omega (arith, ap (λ k. fats_before kinds k) e)
fats_on kinds (suc w) =
    let e : length kinds + suc w ≡ suc (length kinds + w) = omega arith in
    omega (arith, ap (λ k. fats_before kinds k) e, fats_on kinds w, ap fats_in (kind_on kinds w))

fats_by_periods : (kinds : List WordKind) (times w : ℕ) → fats_before kinds (times * length kinds + w) ≡ times * fats_before kinds (length kinds) + fats_before kinds w
fats_by_periods kinds zero w =
    let e : zero * length kinds + w ≡ w = omega arith in
    omega (arith, ap (λ k. fats_before kinds k) e)
fats_by_periods kinds (suc times) w =
    let e : suc times * length kinds + w ≡ length kinds + (times * length kinds + w) = omega arith in
    omega (arith, ap (λ k. fats_before kinds k) e, fats_on kinds (times * length kinds + w), fats_by_periods kinds times w)

pub fats_split : (kinds : List WordKind) (w : ℕ) → w / length kinds * fats_before kinds (length kinds) + fats_before kinds (w % length kinds) ≡ fats_before kinds w
fats_split kinds w =
    sym (fats_by_periods kinds (w / length kinds) (w % length kinds)) ∙ ap (λ k. fats_before kinds k) (div-add-mod' w (length kinds))

pub fats-le : (kinds : List WordKind) (w : ℕ) → fats_before kinds w ≤ w
fats-le kinds w = omega (arith, fats_and_narrows kinds w)

-- one more word, within the period
pub fats_more : (kinds : List WordKind) (i : ℕ) → i < length kinds → fats_before kinds i + fats_in (get_or kinds i Fat) ≡ fats_before kinds (i + 1)
fats_more kinds i within =
    let place : i % length kinds ≡ i = mod-eq_of_lt within in
    let same : get_or kinds i Fat ≡ kind_at kinds i =
    get_or_default kinds i Fat Narrow within ∙ ap (λ k. slice_index_or kinds k Narrow) (sym place) in
    let e : i + 1 ≡ suc i = omega arith in
    omega (arith, ap fats_in same, ap (λ k. fats_before kinds k) e)

-- what is read of a shape's table counts the fat words before a word
pub table_split : (words : ℕ) (kinds : List WordKind) (fats : List ℕ) (w a b : ℕ) → IsWellFormed words kinds fats → a ≡ get_or fats words a → b ≡ get_or fats (w % words) b
    → w / words * a + b ≡ fats_before kinds w
table_split words kinds fats w a b good whole part =
    let count = good.count in
    let size = good.table.size in
    let some = good.shape.some in
    let small : w % words < words = omega arith in
    let all : a ≡ fats_before kinds (length kinds) =
    whole ∙ get_or_default fats words a 0 (omega arith) ∙ ap (λ k. get_or fats k 0) count ∙ good.table.each (length kinds) (omega arith) in
    let rest : b ≡ fats_before kinds (w % words) =
    part ∙ get_or_default fats (w % words) b 0 (omega arith) ∙ good.table.each (w % words) (omega arith) in
    ap (λ k. w / words * k + b) all
    ∙ ap (λ k. w / words * fats_before kinds (length kinds) + k) rest
    ∙ ap (λ k. w / k * fats_before kinds (length kinds) + fats_before kinds (w % k)) count
    ∙ fats_split kinds w

-- one more word in the table
pub table_more : (kinds : List WordKind) (fats : List ℕ) (i count : ℕ) → length fats ≡ i + 1 → count ≡ fats_before kinds (i + 1)
    → ((w : ℕ) → w ≤ i → get_or fats w 0 ≡ fats_before kinds w) → (w : ℕ) → w ≤ i + 1 → get_or (fats ++ count ∷ []) w 0 ≡ fats_before kinds w
table_more kinds fats i count size last each w h = elim (cases_lt w (i + 1)) [
  | inl before ↦ get_or_append_left fats (count ∷ []) 0 w (omega arith) ∙ each w (omega arith)
  | inr here ↦
      let e : i + 1 ≡ w = omega arith in
      get_or_push fats count 0 w (size ∙ e) ∙ last ∙ ap (λ k. fats_before kinds k) e
]

pair_is : (p : ℕ × ℕ) (a b : ℕ) → a ≡ p.0 → b ≡ p.1 → ◌≡◌ {A = ℕ × ℕ} (a, b) p
pair_is p a b e f = λ i. (e i, f i)

-- the places of a fat word, by the number of fat words before it
pub fat_place : (kinds : List WordKind) (total w fats : ℕ) → fats ≡ fats_before kinds w → Fat ≡ kind_at kinds w → ◌≡◌ {A = ℕ × ℕ} (w + fats + 1, w + fats) (placed kinds total w)
fat_place kinds total w fats count kind =
    let fat = fat_at kinds total w (sym kind) in
    pair_is (placed kinds total w) (w + fats + 1) (w + fats) (omega (arith, fat.value, fats_and_narrows kinds w)) (omega (arith, fat.base, fats_and_narrows kinds w))

-- and of a narrow one
pub narrow_place : (kinds : List WordKind) (total w fats : ℕ) → fats ≡ fats_before kinds w → Narrow ≡ kind_at kinds w → ◌≡◌ {A = ℕ × ℕ} (w + fats, 2 * total - 1 - (w - fats)) (placed kinds total w)
narrow_place kinds total w fats count kind =
    let narrow = narrow_at kinds total w (sym kind) in
    pair_is (placed kinds total w) (w + fats) (2 * total - 1 - (w - fats)) (omega (arith, narrow.value, fats_and_narrows kinds w)) (omega (arith, narrow.base, fats_and_narrows kinds w))

-- nor do whole periods have more fat words than words
pub table_part : (words : ℕ) (kinds : List WordKind) (fats : List ℕ) (w a : ℕ) → IsWellFormed words kinds fats → a ≡ get_or fats words a → w / words * a ≤ w
table_part words kinds fats w a good whole =
    let count = good.count in
    let size = good.table.size in
    let some = good.shape.some in
    let small : w % words < words = omega arith in
    let b = get_or fats (w % words) 0 in
    let same : b ≡ get_or fats (w % words) b = get_or_default fats (w % words) 0 b (omega arith) in
    omega (arith, table_split words kinds fats w a b good whole same, fats-le kinds w)
