-- Members gathered one after another.
use Rattle.std.proofs.Common.{◌≡◌, ℕ, suc, ◌+◌, ◌<◌, List, [], ◌∷◌, ◌++◌, length, get_or, drop, map, refl, sym, ap, ◌∙◌, append_assoc, add-one}
use Rattle.std.proofs.Math.Seq.{drop-cons}
use Rattle.c_types.specs.declared.node.Member.{Member}
use Rattle.c_types.specs.declared.record.Place.{Place}
use Rattle.c_types.specs.Layouts.{member_of_place}
use Rattle.c_types.specs.Parts.{place_in, places_in}

pub record Gathered (places : List Place) (i : ℕ) (members : List Member) : Type 0 where
  pub so_far : members ++ map member_of_place (places_in (drop i places)) ≡ map member_of_place (places_in places)

pub gathered_none : (places : List Place) → Gathered places 0 []
gathered_none places = record { so_far = refl }

pub gathered_step : (places : List Place) (i : ℕ) (members : List Member) (p : Place) (m : Member) → i < length places → p ≡ get_or places i p
    → Gathered places i members → m ≡ member_of_place (place_in p) → Gathered places (i + 1) (members ++ (m ∷ []))
gathered_step places i members p m lt is gathered same =
    let rest : drop i places ≡ p ∷ drop (i + 1) places =
    drop-cons places i p lt ∙ ap (λ (q : Place). q ∷ drop (suc i) places) (sym is) ∙ ap (λ k. p ∷ drop k places) (sym (add-one i)) in
    record {
      so_far = append_assoc members (m ∷ []) (map member_of_place (places_in (drop (i + 1) places)))
          ∙ ap (λ (x : Member). members ++ (x ∷ map member_of_place (places_in (drop (i + 1) places)))) same
          ∙ ap (λ (ps : List Place). members ++ map member_of_place (places_in ps)) (sym rest)
          ∙ gathered.so_far;
    }
