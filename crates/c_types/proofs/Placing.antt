-- Placing one field after another.
use Rattle.std.proofs.Common.{◌≡◌, ℕ, suc, ◌+◌, ◌<◌, ◌≤◌, ◌-◌, max, Bool, true, false, cond, eqb, Some, List, [], ◌∷◌, ◌++◌, length, get_or, drop, map, refl, sym, ap, ◌∙◌, subst, append_assoc, add-one, arith}
use Rattle.std.proofs.Math.Seq.{drop-cons}
use Rattle.std.proofs.lemmas.List.{map-append}
use Rattle.c_types.specs.declared.layout.LayoutNo.{LayoutNo}
use Rattle.c_types.specs.declared.layout.LayoutNo.TheVariants as no
use Rattle.c_types.specs.declared.record.PartOf.{PartOf}
use Rattle.c_types.specs.declared.record.Place.{Place}
use Rattle.c_types.specs.Layouts.{Part, Placed, placed, next_multiple, is_bit_field, offset_of, end_at, end_of, struct_places, struct_end, union_end, greatest_align, record_size, IsReason}
use Rattle.c_types.specs.Built.{IsModest}
use Rattle.c_types.proofs.Multiples.{multiple_above}
use Rattle.c_types.specs.Parts.{part_in, parts_in, place_in, places_in, AreModest}

-- what is left of the parts, from an index on
abbrev pub left : List PartOf → ℕ → List Part
left parts i = parts_in (drop i parts)

pub left_step : (parts : List PartOf) (i : ℕ) (p : PartOf) → i < length parts → p ≡ get_or parts i p → left parts i ≡ part_in p ∷ left parts (i + 1)
left_step parts i p lt is =
    ap parts_in (drop-cons parts i p lt) ∙ ap (λ (q : PartOf). part_in q ∷ parts_in (drop (suc i) parts)) (sym is)
    ∙ ap (λ k. part_in p ∷ left parts k) (sym (add-one i))

pub modest_here : (parts : List PartOf) (i : ℕ) (p : PartOf) → i < length parts → p ≡ get_or parts i p → AreModest (left parts i) → IsModest p.layout.now × AreModest (left parts (i + 1))
modest_here parts i p lt is modest = let both : AreModest (part_in p ∷ left parts (i + 1)) = subst AreModest (left_step parts i p lt is) modest in (both.0, both.1)

-- ---- a struct

pub record Placing (parts : List PartOf) (i : ℕ) (places : List Place) (end : ℕ) : Type 0 where
  pub places_so_far : places_in places ++ struct_places end (left parts i) ≡ struct_places 0 (parts_in parts)
  pub end_so_far : struct_end end (left parts i) ≡ struct_end 0 (parts_in parts)
  pub within : end ≤ 134217728
  pub modest : AreModest (left parts i)

pub placing_none : (parts : List PartOf) → AreModest (parts_in parts) → Placing parts 0 [] 0
placing_none parts modest = record { places_so_far = refl; end_so_far = refl; within = omega arith; modest = modest }

pub placing_step : (parts : List PartOf) (i : ℕ) (places : List Place) (end : ℕ) (p : PartOf) (place : Place) (offset next : ℕ)
    → i < length parts → p ≡ get_or parts i p → Placing parts i places end
    → offset ≡ offset_of end (part_in p) → next ≡ end_at offset (part_in p) → place_in place ≡ placed offset (part_in p) → next ≤ 134217728
    → Placing parts (i + 1) (places ++ (place ∷ [])) next
placing_step parts i places end p place offset next lt is so_far at ends here fits =
    let step = left_step parts i p lt is in
    let next_is : next ≡ end_at (offset_of end (part_in p)) (part_in p) = ends ∙ ap (λ o. end_at o (part_in p)) at in
    record {
      places_so_far =
          ap (λ (xs : List Placed). xs ++ struct_places next (left parts (i + 1))) (map-append place_in places (place ∷ []))
          ∙ append_assoc (places_in places) (place_in place ∷ []) (struct_places next (left parts (i + 1)))
          ∙ ap (λ (x : Placed). places_in places ++ (x ∷ struct_places next (left parts (i + 1)))) (here ∙ ap (λ o. placed o (part_in p)) at)
          ∙ ap (λ n. places_in places ++ (placed (offset_of end (part_in p)) (part_in p) ∷ struct_places n (left parts (i + 1)))) next_is
          ∙ ap (λ ps. places_in places ++ struct_places end ps) (sym step)
          ∙ so_far.places_so_far;
      end_so_far = ap (λ n. struct_end n (left parts (i + 1))) next_is ∙ ap (struct_end end) (sym step) ∙ so_far.end_so_far;
      within = fits;
      modest = (modest_here parts i p lt is so_far.modest).1;
    }

-- no field ends before the one before it
grown : (bit opens : Bool) (align size end : ℕ) → 0 < align
    → (let offset = cond bit (cond opens (next_multiple 4 end) (end - 4)) (next_multiple align end) in end ≤ cond bit (offset + 4) (offset + size))
grown true true align size end some = let above = multiple_above 4 end (omega arith) in omega arith
grown true false align size end some = omega arith
grown false opens align size end some = let above = multiple_above align end some in omega (arith, above)

end_grows : (end : ℕ) (p : Part) → IsModest p.layout → end ≤ end_at (offset_of end p) p
end_grows end p modest = grown (is_bit_field p.field) (eqb p.field.first 0) p.layout.align p.layout.size end modest.aligned

struct_end_grows : (end : ℕ) (parts : List Part) → AreModest parts → end ≤ struct_end end parts
struct_end_grows end [] modest = omega arith
struct_end_grows end (p ∷ ps) modest =
    let here = end_grows end p modest.0 in
    let rest = struct_end_grows (end_at (offset_of end p) p) ps modest.1 in
    omega (arith, here, rest)

pub placing_large : (parts : List PartOf) (i : ℕ) (places : List Place) (end : ℕ) (p : PartOf) (offset next : ℕ)
    → i < length parts → p ≡ get_or parts i p → Placing parts i places end
    → offset ≡ offset_of end (part_in p) → next ≡ end_at offset (part_in p) → 134217728 < next → 134217728 < struct_end 0 (parts_in parts)
placing_large parts i places end p offset next lt is so_far at ends large =
    let next_is : next ≡ end_at (offset_of end (part_in p)) (part_in p) = ends ∙ ap (λ o. end_at o (part_in p)) at in
    let whole : struct_end next (left parts (i + 1)) ≡ struct_end 0 (parts_in parts) =
    ap (λ n. struct_end n (left parts (i + 1))) next_is ∙ ap (struct_end end) (sym (left_step parts i p lt is)) ∙ so_far.end_so_far in
    let more = struct_end_grows next (left parts (i + 1)) (modest_here parts i p lt is so_far.modest).1 in
    omega (arith, whole, more, large)

greatest_some : (parts : List Part) → 0 < greatest_align parts
greatest_some [] = omega arith
greatest_some (p ∷ ps) = let rest = greatest_some ps in omega arith

-- where it ends is at most its size
record_size_above : (is_union : Bool) (parts : List Part) → end_of is_union parts ≤ record_size is_union parts
record_size_above is_union parts = multiple_above (greatest_align parts) (end_of is_union parts) (greatest_some parts)

reason_more : (one other : ℕ) (refusal : LayoutNo) → one ≤ other → IsReason (Some one) refusal → IsReason (Some other) refusal
reason_more one other no.Part le is = absurd cc
reason_more one other no.Large le is = omega (arith, le, is)
reason_more one other no.NotIncomplete le is = is
reason_more one other no.NoMemory le is = tt

pub end_reason : (is_union : Bool) (parts : List Part) (refusal : LayoutNo) → IsReason (Some (end_of is_union parts)) refusal
    → IsReason (Some (record_size is_union parts)) refusal
end_reason is_union parts refusal is = reason_more (end_of is_union parts) (record_size is_union parts) refusal (record_size_above is_union parts) is

-- ---- a union

pub record Lying (parts : List PartOf) (i : ℕ) (places : List Place) (end : ℕ) : Type 0 where
  pub places_so_far : places_in places ++ map (placed 0) (left parts i) ≡ map (placed 0) (parts_in parts)
  pub end_so_far : max end (union_end (left parts i)) ≡ union_end (parts_in parts)
  pub within : end ≤ 134217728
  pub modest : AreModest (left parts i)

pub lying_none : (parts : List PartOf) → AreModest (parts_in parts) → Lying parts 0 [] 0
lying_none parts modest = record { places_so_far = refl; end_so_far = omega arith; within = omega arith; modest = modest }

pub lying_step : (parts : List PartOf) (i : ℕ) (places : List Place) (end : ℕ) (p : PartOf) (place : Place) (next : ℕ)
    → i < length parts → p ≡ get_or parts i p → Lying parts i places end
    → next ≡ end_at 0 (part_in p) → place_in place ≡ placed 0 (part_in p) → next ≤ 134217728
    → Lying parts (i + 1) (places ++ (place ∷ [])) (max end next)
lying_step parts i places end p place next lt is so_far ends here fits =
    let step = left_step parts i p lt is in
    let rest = union_end (left parts (i + 1)) in
    let whole : max end (max (end_at 0 (part_in p)) rest) ≡ union_end (parts_in parts) = ap (λ ps. max end (union_end ps)) (sym step) ∙ so_far.end_so_far in
    let inner : max end (max next rest) ≡ union_end (parts_in parts) = ap (λ n. max end (max n rest)) ends ∙ whole in
    record {
      places_so_far =
          ap (λ (xs : List Placed). xs ++ map (placed 0) (left parts (i + 1))) (map-append place_in places (place ∷ []))
          ∙ append_assoc (places_in places) (place_in place ∷ []) (map (placed 0) (left parts (i + 1)))
          ∙ ap (λ (x : Placed). places_in places ++ (x ∷ map (placed 0) (left parts (i + 1)))) here
          ∙ ap (λ ps. places_in places ++ map (placed 0) ps) (sym step)
          ∙ so_far.places_so_far;
      end_so_far = omega (arith, inner);
      within = omega (arith, so_far.within, fits);
      modest = (modest_here parts i p lt is so_far.modest).1;
    }

-- ---- the greatest alignment

pub record Aligning (parts : List PartOf) (i align : ℕ) : Type 0 where
  pub so_far : max align (greatest_align (left parts i)) ≡ greatest_align (parts_in parts)
  pub some : 0 < align
  pub few : align ≤ 4
  pub modest : AreModest (left parts i)

pub aligning_none : (parts : List PartOf) → AreModest (parts_in parts) → Aligning parts 0 1
aligning_none parts modest =
    record { so_far = (let some = greatest_some (parts_in parts) in omega arith); some = omega arith; few = omega arith; modest = modest }
