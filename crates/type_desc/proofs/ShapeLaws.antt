-- Shapes are found by their numbers.
use Rattle.std.proofs.Common.{◌≡◌, ◌≢◌, ℕ, List, [], ◌∷◌, ◌++◌, true, false, Option, Some, None, refl, sym, ◌∙◌, inl, inr}
use Rattle.std.specs.Prelude.{◌==◌}
use Rattle.std.proofs.lemmas.Bool.Decides.{eqb_tells}
use Rattle.std.proofs.lemmas.Map.Entries.{lookup_head, lookup_tail}
use Rattle.fsc_base.specs.declared.word.WordKind.{WordKind}
use Rattle.type_desc.specs.Shapes.{shape_of, FindsAdded, KeepsOthers}

-- the number of the first pair, or another
first_is : (desc : ℕ) (pair : ℕ × List WordKind) (pairs : List (ℕ × List WordKind)) → (desc == pair.0) ≡ true → shape_of (pair ∷ pairs) desc ≡ Some pair.1
first_is desc pair pairs same = lookup_head (λ number. desc == number) pair pairs same

first_is_no : (desc : ℕ) (pair : ℕ × List WordKind) (pairs : List (ℕ × List WordKind)) → (desc == pair.0) ≡ false → shape_of (pair ∷ pairs) desc ≡ shape_of pairs desc
first_is_no desc pair pairs other = lookup_tail (λ number. desc == number) pair pairs other

same_number : (desc : ℕ) → (desc == desc) ≡ true
same_number desc = elim (eqb_tells desc desc) [ inl same ↦ same.0 | inr other ↦ absurd (other.1 refl) ]

other_number : (desc other : ℕ) → other ≢ desc → (other == desc) ≡ false
other_number desc other apart = elim (eqb_tells other desc) [ inl same ↦ absurd (apart same.1) | inr differ ↦ differ.0 ]

pub finds_added : FindsAdded
finds_added [] desc kinds none = first_is desc (desc, kinds) [] (same_number desc)
finds_added (pair ∷ pairs) desc kinds none = elim (eqb_tells desc pair.0) [
  | inl same ↦ absurd (let e : ◌≡◌ {A = Option (List WordKind)} (Some pair.1) None = sym (first_is desc pair pairs same.0) ∙ none in cc)
  | inr other ↦
      first_is_no desc pair (pairs ++ (desc, kinds) ∷ []) other.0
      ∙ finds_added pairs desc kinds (sym (first_is_no desc pair pairs other.0) ∙ none)
]

pub keeps_others : KeepsOthers
keeps_others [] desc other kinds apart = first_is_no other (desc, kinds) [] (other_number desc other apart)
keeps_others (pair ∷ pairs) desc other kinds apart = elim (eqb_tells other pair.0) [
  | inl same ↦ first_is other pair (pairs ++ (desc, kinds) ∷ []) same.0 ∙ sym (first_is other pair pairs same.0)
  | inr differ ↦
      first_is_no other pair (pairs ++ (desc, kinds) ∷ []) differ.0
      ∙ keeps_others pairs desc other kinds apart
      ∙ sym (first_is_no other pair pairs differ.0)
]
