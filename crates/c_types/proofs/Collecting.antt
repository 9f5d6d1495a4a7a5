-- Fields with their layouts, collected one after another.
use Rattle.std.proofs.Common.{◌≡◌, ℕ, suc, ◌+◌, ◌<◌, List, [], ◌∷◌, ◌++◌, length, get_or, drop, Option, Some, None, refl, sym, ap, ◌∙◌, append_assoc, add-one}
use Rattle.std.proofs.Math.Seq.{drop-cons}
use Rattle.std.proofs.lemmas.List.{map-append}
use Rattle.c_types.specs.declared.layout.Layout.{Layout}
use Rattle.c_types.specs.declared.node.Field.{Field}
use Rattle.c_types.specs.declared.node.TypeNode.{TypeNode}
use Rattle.c_types.specs.declared.record.PartOf.{PartOf}
use Rattle.c_types.specs.Layouts.{Layouts, Part, part, with_part, parts_of, layout_of}
use Rattle.c_types.specs.Built.{IsBuilt}
use Rattle.c_types.specs.Parts.{part_in, parts_in, AreModest}
use Rattle.c_types.proofs.Depths.{with_part-Some}

abbrev pub with_front : List Part → Option (List Part) → Option (List Part)
with_front front None = None
with_front front (Some parts) = Some (front ++ parts)

pub record Collected (layouts : Layouts) (fields : List Field) (i : ℕ) (parts : List PartOf) : Type 0 where
  pub so_far : with_front (parts_in parts) (parts_of layouts (drop i fields)) ≡ parts_of layouts fields

front_none : (o : Option (List Part)) → with_front [] o ≡ o
front_none None = refl
front_none (Some parts) = refl

pub collected_none : (layouts : Layouts) (fields : List Field) → Collected layouts fields 0 []
collected_none layouts fields = record { so_far = front_none (parts_of layouts fields) }

front_step : (front : List Part) (f : Field) (l : Layout) (o : Option (List Part)) → with_front (front ++ (part f l ∷ [])) o ≡ with_front front (with_part f (Some l) o)
front_step front f l None = refl
front_step front f l (Some parts) = ap (λ (ps : List Part). Some ps) (append_assoc front (part f l ∷ []) parts)

rest_step : (fields : List Field) (i : ℕ) (f : Field) → i < length fields → f ≡ get_or fields i f → drop i fields ≡ f ∷ drop (i + 1) fields
rest_step fields i f lt is = drop-cons fields i f lt ∙ ap (λ (q : Field). q ∷ drop (suc i) fields) (sym is) ∙ ap (λ k. f ∷ drop k fields) (sym (add-one i))

pub collected_step : (layouts : Layouts) (fields : List Field) (i : ℕ) (parts : List PartOf) (f : Field) (p : PartOf) (l : Layout) → i < length fields
    → f ≡ get_or fields i f → Collected layouts fields i parts → layouts f.kind ≡ Some l → part_in p ≡ part f l → Collected layouts fields (i + 1) (parts ++ (p ∷ []))
collected_step layouts fields i parts f p l lt is collected has here =
    let rest = parts_of layouts (drop (i + 1) fields) in
    record {
      so_far =
          ap (λ (ps : List Part). with_front ps rest) (map-append part_in parts (p ∷ []) ∙ ap (λ (x : Part). parts_in parts ++ (x ∷ [])) here)
          ∙ front_step (parts_in parts) f l rest
          ∙ ap (λ (o : Option Layout). with_front (parts_in parts) (with_part f o rest)) (sym has)
          ∙ ap (λ (fs : List Field). with_front (parts_in parts) (parts_of layouts fs)) (sym (rest_step fields i f lt is))
          ∙ collected.so_far;
    }

pub collected_fails : (layouts : Layouts) (fields : List Field) (i : ℕ) (parts : List PartOf) (f : Field) → i < length fields
    → f ≡ get_or fields i f → Collected layouts fields i parts → layouts f.kind ≡ None → parts_of layouts fields ≡ None
collected_fails layouts fields i parts f lt is collected none =
    let rest = parts_of layouts (drop (i + 1) fields) in
    sym collected.so_far ∙ ap (λ (fs : List Field). with_front (parts_in parts) (parts_of layouts fs)) (rest_step fields i f lt is)
    ∙ ap (λ (o : Option Layout). with_front (parts_in parts) (with_part f o rest)) none

-- they are modest, as all types of a table are
pub modest_parts : (nodes : List TypeNode) (built : IsBuilt nodes) (fields : List Field) (parts : List Part) → parts_of (layout_of nodes) fields ≡ Some parts → AreModest parts
modest_parts nodes built [] [] is = tt
modest_parts nodes built [] (p ∷ ps) is = absurd cc
modest_parts nodes built (f ∷ fs) parts is =
    let split = with_part-Some f (layout_of nodes f.kind) (parts_of (layout_of nodes) fs) parts is in
    rw (sym split.4) (built.modest f.kind split.0 split.2, modest_parts nodes built fs split.1 split.3)
