-- The layouts of shapes and the plane one are layouts.
use Rattle.std.proofs.Common.{◌≡◌, ℕ, zero, suc, ◌+◌, ◌-◌, ◌*◌, ◌%◌, List, [], ◌∷◌, refl, ap, ◌∙◌, arith}
use Rattle.std.specs.Prelude.{slice_index_or}
use Rattle.fsc_base.specs.declared.word.WordKind.{WordKind}
use Rattle.fsc_base.specs.declared.word.WordKind.TheVariants.{Fat, Narrow}
use Rattle.type_desc.specs.Places.{kind_at, fats_in, narrows_in, fats_before, narrows_before, place_of_kind, placed}
use Rattle.type_desc.proofs.PlaceLaws.{shape_layout, plane_layout}
use Rattle.cell_store.specs.Layouts.{IsLayout}
use Rattle.access_methods.specs.Shaped.{plane, shaped, IsOnto}

pub plane_is_layout : IsLayout plane
plane_is_layout = record {
  value_in = λ total w h. (plane_layout total).value_within w h;
  base_in = λ total w h. (plane_layout total).base_within w h;
  values_differ = λ total v w hv hw e. (plane_layout total).values_apart v w hv hw e;
  bases_differ = λ total v w hv hw e. (plane_layout total).bases_apart v w hv hw e;
  apart = λ total v w hv hw e. (plane_layout total).no_value_is_base v w hv hw e;
}

pub plane_is_onto : IsOnto plane
plane_is_onto total i h = (plane_layout total).each i h

pub shaped_is_layout : (kinds : List WordKind) → IsLayout (shaped kinds)
shaped_is_layout kinds = record {
  value_in = λ total w h. (shape_layout kinds total).value_within w h;
  base_in = λ total w h. (shape_layout kinds total).base_within w h;
  values_differ = λ total v w hv hw e. (shape_layout kinds total).values_apart v w hv hw e;
  bases_differ = λ total v w hv hw e. (shape_layout kinds total).bases_apart v w hv hw e;
  apart = λ total v w hv hw e. (shape_layout kinds total).no_value_is_base v w hv hw e;
}

pub shaped_is_onto : (kinds : List WordKind) → IsOnto (shaped kinds)
shaped_is_onto kinds total i h = (shape_layout kinds total).each i h

-- ---- one kind of words

one_place : (w : ℕ) → w % 1 ≡ 0
one_place w = omega arith

only : (kind : WordKind) (w : ℕ) → kind_at (kind ∷ []) w ≡ kind
only kind w = ap (λ (i : ℕ). slice_index_or (kind ∷ []) i Narrow) (one_place w)

narrow_fats : (w : ℕ) → fats_before (Narrow ∷ []) w ≡ 0
narrow_fats zero = refl
narrow_fats (suc w) = ap (λ (k : WordKind). fats_before (Narrow ∷ []) w + fats_in k) (only Narrow w) ∙ omega (arith, narrow_fats w)

narrow_narrows : (w : ℕ) → narrows_before (Narrow ∷ []) w ≡ w
narrow_narrows zero = refl
narrow_narrows (suc w) = ap (λ (k : WordKind). narrows_before (Narrow ∷ []) w + narrows_in k) (only Narrow w) ∙ omega (arith, narrow_narrows w)

fat_fats : (w : ℕ) → fats_before (Fat ∷ []) w ≡ w
fat_fats zero = refl
fat_fats (suc w) = ap (λ (k : WordKind). fats_before (Fat ∷ []) w + fats_in k) (only Fat w) ∙ omega (arith, fat_fats w)

fat_narrows : (w : ℕ) → narrows_before (Fat ∷ []) w ≡ 0
fat_narrows zero = refl
fat_narrows (suc w) = ap (λ (k : WordKind). narrows_before (Fat ∷ []) w + narrows_in k) (only Fat w) ∙ omega (arith, fat_narrows w)

-- where the words of a block stand that has one kind of words
pub narrow_places : (total w : ℕ) → placed (Narrow ∷ []) total w ≡ (w, 2 * total - 1 - w)
unfolding placed
narrow_places total w =
    ap (λ (k : WordKind). place_of_kind k total (fats_before (Narrow ∷ []) w) (narrows_before (Narrow ∷ []) w)) (only Narrow w)
    ∙ rw (narrow_fats w, narrow_narrows w) (ap (λ (n : ℕ). (n, 2 * total - 1 - w)) (omega arith))

pub fat_places : (total w : ℕ) → placed (Fat ∷ []) total w ≡ (2 * w + 1, 2 * w)
unfolding placed
fat_places total w =
    ap (λ (k : WordKind). place_of_kind k total (fats_before (Fat ∷ []) w) (narrows_before (Fat ∷ []) w)) (only Fat w)
    ∙ rw (fat_fats w, fat_narrows w) (ap (λ (n : ℕ). (n + 1, n)) (omega arith))
