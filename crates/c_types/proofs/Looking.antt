-- Looking for a member that makes a word fat.
use Rattle.std.proofs.Common.{◌≡◌, ℕ, suc, ◌+◌, ◌<◌, ◌≤◌, true, false, ◌||◌, List, ◌∷◌, length, get_or, drop, refl, sym, ap, ◌∙◌, add-one}
use Rattle.std.specs.List.{list_any}
use Rattle.std.proofs.lemmas.List.{drop_all}
use Rattle.std.proofs.Math.Seq.{drop-cons}
use Rattle.c_types.specs.declared.record.Place.{Place}
use Rattle.c_types.specs.Layouts.{makes_fat}
use Rattle.c_types.specs.Parts.{place_in, places_in}

-- no member before an index does
pub record Looked (places : List Place) (i w : ℕ) : Type 0 where
  pub so_far : list_any (makes_fat w) (places_in places) ≡ list_any (makes_fat w) (places_in (drop i places))

pub looked_none : (places : List Place) (w : ℕ) → Looked places 0 w
looked_none places w = record { so_far = refl }

rest_step : (places : List Place) (i : ℕ) (p : Place) → i < length places → p ≡ get_or places i p → drop i places ≡ p ∷ drop (i + 1) places
rest_step places i p lt is = drop-cons places i p lt ∙ ap (λ (q : Place). q ∷ drop (suc i) places) (sym is) ∙ ap (λ k. p ∷ drop k places) (sym (add-one i))

any_step : (places : List Place) (i w : ℕ) (p : Place) → i < length places → p ≡ get_or places i p → Looked places i w
    → list_any (makes_fat w) (places_in places) ≡ (makes_fat w (place_in p) || list_any (makes_fat w) (places_in (drop (i + 1) places)))
any_step places i w p lt is looked = looked.so_far ∙ ap (λ (ps : List Place). list_any (makes_fat w) (places_in ps)) (rest_step places i p lt is)

pub looked_step : (places : List Place) (i w : ℕ) (p : Place) → i < length places → p ≡ get_or places i p → Looked places i w
    → makes_fat w (place_in p) ≡ false → Looked places (i + 1) w
looked_step places i w p lt is looked misses =
    record { so_far = any_step places i w p lt is looked ∙ ap (λ b. b || list_any (makes_fat w) (places_in (drop (i + 1) places))) misses }

pub looked_found : (places : List Place) (i w : ℕ) (p : Place) → i < length places → p ≡ get_or places i p → Looked places i w
    → makes_fat w (place_in p) ≡ true → list_any (makes_fat w) (places_in places) ≡ true
looked_found places i w p lt is looked so =
    any_step places i w p lt is looked ∙ ap (λ b. b || list_any (makes_fat w) (places_in (drop (i + 1) places))) so

pub looked_all : (places : List Place) (i w : ℕ) → length places ≤ i → Looked places i w → list_any (makes_fat w) (places_in places) ≡ false
looked_all places i w le looked = looked.so_far ∙ ap (λ (ps : List Place). list_any (makes_fat w) (places_in ps)) (drop_all i places le)
