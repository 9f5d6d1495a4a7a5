-- Which descriptors stand for a layout.
use Rattle.std.proofs.Common.{◌≡◌, ◌≢◌, ℕ, ◌%◌, ◌≤◌, ◌⊎◌, inl, inr, List, Option, Some, None, refl, sym, ◌∙◌, arith}
use Rattle.std.proofs.lemmas.Bool.{cases_eq, eq-eqb, ne_eqb}
use Rattle.fsc_base.specs.declared.word.WordKind.{WordKind}
use Rattle.cell_store.specs.Layouts.{AreAddresses, Layout}
use Rattle.access_methods.specs.Shaped.{layouts_of, shaped}
use Rattle.type_desc.specs.Shapes.{shape_of}
use Rattle.access_methods.specs.Forms.{IsOpen}

-- one that is neither 3 nor a multiple of 4 stands for none
pub stands_for_none : (shapes : List (ℕ × List WordKind)) (desc : ℕ) → desc ≢ 3 → desc % 4 ≢ 0 → layouts_of shapes desc ≡ None
unfolding layouts_of
stands_for_none shapes desc plane multiple = rw (ne_eqb desc 3 plane, ne_eqb (desc % 4) 0 multiple) refl

-- one more than a number that stands for a layout is odd
pub is_open : (shapes : List (ℕ × List WordKind)) (desc : ℕ) → (desc ≤ 3) ⊎ (desc % 2 ≡ 0) → IsOpen (layouts_of shapes) desc
is_open shapes desc (inl low) of e h = absurd (omega arith)
is_open shapes desc (inr even) of e h = stands_for_none shapes of (omega arith) (omega arith)

-- it is not 2
pub not_two : (shapes : List (ℕ × List WordKind)) (desc : ℕ) (layout : Layout) → layouts_of shapes desc ≡ Some layout → desc ≢ 2
not_two shapes desc layout h e =
    let none : layouts_of shapes desc ≡ None = stands_for_none shapes desc (omega arith) (omega arith) in
    let both : ◌≡◌ {A = Option Layout} None (Some layout) = sym none ∙ h in
    cc

-- 3 and multiples of 4 alone stand for a layout
address_cases : (shapes : List (ℕ × List WordKind)) (desc : ℕ) (layout : Layout) → layouts_of shapes desc ≡ Some layout → (desc ≡ 3) ⊎ ((desc % 4 ≡ 0) ⊎ ((desc ≢ 3) × (desc % 4 ≢ 0)))
    → (desc ≡ 3) ⊎ (desc % 4 ≡ 0)
address_cases shapes desc layout h (inl plane) = inl plane
address_cases shapes desc layout h (inr (inl multiple)) = inr multiple
address_cases shapes desc layout h (inr (inr neither)) =
    absurd (let both : ◌≡◌ {A = Option Layout} None (Some layout) = sym (stands_for_none shapes desc neither.0 neither.1) ∙ h in cc)

three_cases : (desc : ℕ) → (desc ≡ 3) ⊎ ((desc % 4 ≡ 0) ⊎ ((desc ≢ 3) × (desc % 4 ≢ 0)))
three_cases desc = elim (cases_eq desc 3) [
  | inl plane ↦ inl plane
  | inr other ↦ elim (cases_eq (desc % 4) 0) [ inl multiple ↦ inr (inl multiple) | inr odd ↦ inr (inr (other, odd)) ]
]

pub are_addresses : (shapes : List (ℕ × List WordKind)) → AreAddresses (layouts_of shapes)
are_addresses shapes desc layout h = address_cases shapes desc layout h (three_cases desc)

-- a multiple of 4 that the shapes have stands for its shape's layout
pub stands_for_shape : (shapes : List (ℕ × List WordKind)) (desc : ℕ) (kinds : List WordKind) → desc % 4 ≡ 0 → shape_of shapes desc ≡ Some kinds
    → layouts_of shapes desc ≡ Some (shaped kinds)
unfolding layouts_of
stands_for_shape shapes desc kinds multiple found =
    let other : desc ≢ 3 = λ e. (let r : desc % 4 ≡ 3 = omega arith in omega arith) in
    rw (ne_eqb desc 3 other, eq-eqb (desc % 4) 0 multiple, found) refl
