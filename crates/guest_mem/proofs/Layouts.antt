-- What a store leaves as it is: where the regions lie, and that they hold bytes.
use Rattle.std.proofs.Common.{◌≡◌, ℕ, ◌+◌, ◌-◌, ◌<◌, ◌≤◌, ◌⊎◌, inl, inr, Bool, eqb, true, false, cond, List, [], ◌∷◌, ◌++◌, length, get_or, suc, take, drop, map, Option, Some, None, All, refl, sym, ap, ◌∙◌, subst, arith}
use Rattle.std.specs.Prelude.{replicate, is_some, ◌/◌, ◌%◌, ◌==◌, nat_le, ◌&&◌, ◌||◌}
use Rattle.std.specs.Option.{option_map}
use Rattle.std.proofs.lemmas.List.{length-map, get_or-map, length-append, length-replicate}
use Rattle.std.proofs.lemmas.List.Elements.{All-nil, All-cons, All-head, All-tail, All-append, All-take, All-drop, All-map, All-replicate}
use Rattle.fsc_base.specs.declared.image.Segment.{Segment}
use Rattle.fsc_base.specs.declared.image.Image.{Image}
use Rattle.fsc_base.specs.Image as image
use Rattle.guest_mem.specs.declared.right.Right.{Right}
use Rattle.guest_mem.specs.declared.right.Right.TheVariants.{Write}
use Rattle.guest_mem.specs.Regions.{Region}
use Rattle.guest_mem.specs.Guest.{contains, part, with_part, bytes_at, with_bytes, covers, region_of, memory_of}
use Rattle.guest_mem.specs.Rights.{flag_of}
use Rattle.guest_mem.specs.Layout.{Extent, extent_of, layout, Apart, AllApart, AreBytes, HoldBytes}
use Rattle.guest_mem.proofs.Parts.{length-overwritten}
use Rattle.guest_mem.proofs.Places.{Within, within_served}

-- A change of memory is one of its first region or of the others.
abbrev pub ChangesFirst : (region : Region) (regions : List Region) (at : ℕ) (bytes : List ℕ) (new : List Region) → Type 0
ChangesFirst region regions at bytes new = (contains region Write at (length bytes) ≡ true) × (new ≡ with_part region at bytes ∷ regions)

abbrev pub ChangesOthers : (region : Region) (regions : List Region) (at : ℕ) (bytes : List ℕ) (new : List Region) → Type 0
ChangesOthers region regions at bytes new =
    (contains region Write at (length bytes) ≡ false) × ((others : List Region) × (with_bytes regions at bytes ≡ Some others) × (new ≡ region ∷ others))

behind : (region : Region) (changed : Option (List Region)) (new : List Region) → option_map (λ (others : List Region). region ∷ others) changed ≡ Some new
    → (others : List Region) × (changed ≡ Some others) × (new ≡ region ∷ others)
behind region None new h = absurd (let e : ◌≡◌ {A = Option (List Region)} None (Some new) = h in cc)
behind region (Some others) new h = (others, refl, cc)

pub with_bytes-cases : (region : Region) (regions : List Region) (at : ℕ) (bytes : List ℕ) (new : List Region) → with_bytes (region ∷ regions) at bytes ≡ Some new
    → ChangesFirst region regions at bytes new ⊎ ChangesOthers region regions at bytes new
unfolding with_bytes
with_bytes-cases region regions at bytes new =
    elim (contains region Write at (length bytes)) as (λ b.
    cond b (Some (with_part region at bytes ∷ regions)) (option_map (λ (others : List Region). region ∷ others) (with_bytes regions at bytes)) ≡ Some new
    → ((b ≡ true) × (new ≡ with_part region at bytes ∷ regions)) ⊎ ((b ≡ false) × ((others : List Region) × (with_bytes regions at bytes ≡ Some others) × (new ≡ region ∷ others)))) [
      | true ↦ λ h. inl (refl, cc)
      | false ↦ λ h. inr (refl, behind region (with_bytes regions at bytes) new h)
    ]

pub with_bytes-last : (at : ℕ) (bytes : List ℕ) (new : List Region) → with_bytes [] at bytes ≡ Some new → new ≡ []
unfolding with_bytes
with_bytes-last at bytes new =
    elim (eqb (length bytes) 0) as (λ b. ◌≡◌ {A = Option (List Region)} (cond b (Some []) None) (Some new) → new ≡ []) [
      | true ↦ λ h. cc
      | false ↦ λ h. absurd (cc)
    ]

pub length-with_part : (region : Region) (at : ℕ) (bytes : List ℕ) → Within region at (length bytes) → length (with_part region at bytes).bytes ≡ length region.bytes
length-with_part region at bytes h = length-overwritten region.bytes (at - region.address) bytes (omega arith)

pub extent_of-with_part : (region : Region) (at : ℕ) (bytes : List ℕ) → Within region at (length bytes) → extent_of (with_part region at bytes) ≡ extent_of region
extent_of-with_part region at bytes h =
    ap (λ (size : ℕ). let e : Extent = record { address = region.address; flags = region.flags; size = size } in e) (length-with_part region at bytes h)

-- a store keeps each region's address, flags and size
pub layout-with_bytes : (regions : List Region) (at : ℕ) (bytes : List ℕ) (new : List Region) → with_bytes regions at bytes ≡ Some new → layout new ≡ layout regions
layout-with_bytes [] at bytes new h = ap layout (with_bytes-last at bytes new h)
layout-with_bytes (region ∷ regions) at bytes new h =
    elim (with_bytes-cases region regions at bytes new h) [
      | inl first ↦ ap layout first.1 ∙ ap (λ (e : Extent). e ∷ layout regions) (extent_of-with_part region at bytes (within_served region Write at (length bytes) first.0))
      | inr others ↦ ap layout others.1.2 ∙ ap (λ (es : List Extent). extent_of region ∷ es) (layout-with_bytes regions at bytes others.1.0 others.1.1)
    ]

-- whether an access is covered depends on the layout alone
abbrev allows : (extent : Extent) → Right → (at n : ℕ) → Bool
allows extent right at n =
    (extent.flags / flag_of right % 2 == 1) && (nat_le extent.address at && nat_le (at + n) (extent.address + extent.size))

allowed : List Extent → Right → (at n : ℕ) → Bool
allowed [] right at n = n == 0
allowed (extent ∷ extents) right at n = allows extent right at n || allowed extents right at n

covers-allowed : (regions : List Region) (right : Right) (at n : ℕ) → covers regions right at n ≡ allowed (layout regions) right at n
unfolding bytes_at allowed
covers-allowed [] right at n = elim (n == 0) as (λ b. is_some {T = List ℕ} (cond b (Some []) None) ≡ b) [ true ↦ refl | false ↦ refl ]
covers-allowed (region ∷ regions) right at n =
    elim (contains region right at n) as (λ b. is_some (cond b (Some (part region at n)) (bytes_at regions right at n)) ≡ (b || allowed (layout regions) right at n)) [
      | true ↦ refl
      | false ↦ covers-allowed regions right at n
    ]

pub covers-layout : (regions new : List Region) (right : Right) (at n : ℕ) → layout new ≡ layout regions → covers new right at n ≡ covers regions right at n
covers-layout regions new right at n h =
    covers-allowed new right at n ∙ ap (λ (es : List Extent). allowed es right at n) h ∙ sym (covers-allowed regions right at n)

-- so does whether the regions are apart
abbrev ApartExtents : Extent → Extent → Type 0
ApartExtents a b = (a.address + a.size ≤ b.address) ⊎ (b.address + b.size ≤ a.address)

AllApartExtents : List Extent → Type 0
AllApartExtents [] = Unit {0}
AllApartExtents (extent ∷ others) = All (ApartExtents extent) others × AllApartExtents others

to_extents : (regions : List Region) → AllApart regions → AllApartExtents (layout regions)
unfolding AllApartExtents
to_extents [] h = tt
to_extents (region ∷ regions) h = (All-map (ApartExtents (extent_of region)) extent_of regions h.0, to_extents regions h.1)

from_extents : (regions : List Region) → AllApartExtents (layout regions) → AllApart regions
unfolding AllApartExtents
from_extents [] h = tt
from_extents (region ∷ regions) h =
    (λ k d lt. let e = h.0 k (extent_of d) (omega (arith, length-map regions extent_of)) in rw (get_or-map extent_of regions k d (extent_of d) lt) at e, from_extents regions h.1)

pub AllApart-layout : (regions new : List Region) → layout new ≡ layout regions → AllApart regions → AllApart new
AllApart-layout regions new h apart = from_extents new (subst AllApartExtents (sym h) (to_extents regions apart))

-- a region is as large as its segment
pub length-region_of : (segment : Segment) → length segment.bytes ≤ segment.size → length (region_of segment).bytes ≡ segment.size
length-region_of segment h = simp (length-append, length-replicate) (omega arith)

apart_regions : (a b : Segment) → image.IsSoundSegment a → image.IsSoundSegment b → image.Apart a b → Apart (region_of a) (region_of b)
apart_regions a b is_a is_b h =
    let m = length-region_of a is_a.roomy in
    let n = length-region_of b is_b.roomy in
    elim h [ inl before ↦ inl (omega arith) | inr behind ↦ inr (omega arith) ]

-- the regions of a sound image are apart
extents_of : (segments : List Segment) → All image.IsSoundSegment segments → image.AllApart segments → AllApart (map region_of segments)
extents_of [] each h = tt
extents_of (segment ∷ segments) each h = (
  All-map (Apart (region_of segment)) region_of segments (λ k d lt.
      apart_regions segment (get_or segments k d) (All-head image.IsSoundSegment segment segments each) (each (suc k) d (omega arith)) (h.0 k d lt)),
  extents_of segments (All-tail image.IsSoundSegment segment segments each) h.1,
)

pub AllApart-memory_of : (i : Image) → image.IsSound i → AllApart (memory_of i)
AllApart-memory_of i h = extents_of i.segments h.each h.apart

-- a store of bytes leaves bytes
bytes-with_part : (region : Region) (at : ℕ) (bytes : List ℕ) → AreBytes bytes → AreBytes region.bytes → AreBytes (with_part region at bytes).bytes
bytes-with_part region at bytes put held =
    let P : ℕ → Type 0 = λ byte. byte < 256 in
    let place : ℕ = at - region.address in
    All-append P (take place region.bytes) (bytes ++ drop (place + length bytes) region.bytes) (All-take P place region.bytes held)
    (All-append P bytes (drop (place + length bytes) region.bytes) put (All-drop P (place + length bytes) region.bytes held))

abbrev Holds : Region → Type 0
Holds region = AreBytes region.bytes

pub HoldBytes-with_bytes : (regions : List Region) (at : ℕ) (bytes : List ℕ) (new : List Region) → with_bytes regions at bytes ≡ Some new
    → AreBytes bytes → HoldBytes regions → HoldBytes new
HoldBytes-with_bytes [] at bytes new h put held = subst HoldBytes (sym (with_bytes-last at bytes new h)) (All-nil Holds)
HoldBytes-with_bytes (region ∷ regions) at bytes new h put held =
    elim (with_bytes-cases region regions at bytes new h) [
      | inl first ↦ subst HoldBytes (sym first.1)
          (All-cons Holds (with_part region at bytes) regions (bytes-with_part region at bytes put (All-head Holds region regions held)) (All-tail Holds region regions held))
      | inr others ↦ subst HoldBytes (sym others.1.2)
          (All-cons Holds region others.1.0 (All-head Holds region regions held) (HoldBytes-with_bytes regions at bytes others.1.0 others.1.1 put (All-tail Holds region regions held)))
    ]

-- an image of bytes is memory of bytes
pub HoldBytes-memory_of : (i : Image) → All (λ (segment : Segment). AreBytes segment.bytes) i.segments → HoldBytes (memory_of i)
HoldBytes-memory_of i h =
    All-map Holds region_of i.segments (λ k d lt.
    let segment : Segment = get_or i.segments k d in
    All-append (λ byte. byte < 256) segment.bytes (replicate (segment.size - length segment.bytes) 0) (h k d lt) (All-replicate (λ byte. byte < 256) (segment.size - length segment.bytes) 0 (omega arith)))
