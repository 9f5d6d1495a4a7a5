-- Loads, fetches and stores by the bytes that they meet.
use Rattle.std.proofs.Common.{◌≡◌, ℕ, ◌+◌, ◌%◌, ◌^◌, ◌<◌, ◌≤◌, ◌⊎◌, inl, inr, eqb, is_some, true, false, List, length, Option, Some, None, Result, Ok, Err, refl, sym, ap, ◌∙◌, subst}
use Rattle.std.proofs.lemmas.Bool.{cases_Bool, eqb-true}
use Rattle.guest_mem.specs.declared.right.Right.{Right}
use Rattle.guest_mem.specs.declared.right.Right.TheVariants.{Execute, Write, Read}
use Rattle.guest_mem.specs.declared.fault.Fault.{Fault}
use Rattle.guest_mem.specs.declared.fault.Fault.TheVariants as fault
use Rattle.guest_mem.specs.Regions.{Region}
use Rattle.guest_mem.specs.Guest.{bytes_at, with_bytes, covers, little_endian, little_endian_bytes, number_in, number_at, memory_in, loaded, fetched, stored}
use Rattle.guest_mem.specs.Layout.{layout, AllApart, HoldBytes}
use Rattle.guest_mem.proofs.Places.{covers-with_bytes}
use Rattle.guest_mem.proofs.Layouts.{layout-with_bytes, HoldBytes-with_bytes}
use Rattle.guest_mem.proofs.Changes.{length-bytes_at, AreBytes-bytes_at, bytes_at-with_bytes_same, bytes_at-with_bytes_apart}
use Rattle.guest_mem.proofs.LittleEndian.{length-little_endian_bytes, AreBytes-little_endian_bytes, little_endian-lt, little_endian-little_endian_bytes}

-- what an access gives that is not refused
number_at-from : (width : ℕ) (regions : List Region) (right : Right) (at : ℕ) (bytes : List ℕ) → at % width ≡ 0 → bytes_at regions right at width ≡ Some bytes
    → number_at width regions right at ≡ Ok (little_endian bytes)
number_at-from width regions right at bytes aligned h = rw (aligned, h) refl

pub loaded-from : (width : ℕ) (regions : List Region) (at : ℕ) (bytes : List ℕ) → at % width ≡ 0 → bytes_at regions Read at width ≡ Some bytes
    → loaded width regions at ≡ Ok (little_endian bytes)
unfolding loaded
loaded-from width regions at bytes aligned h = number_at-from width regions Read at bytes aligned h

pub fetched-from : (regions : List Region) (at : ℕ) (bytes : List ℕ) → at % 4 ≡ 0 → bytes_at regions Execute at 4 ≡ Some bytes → fetched regions at ≡ Ok (little_endian bytes)
unfolding fetched
fetched-from regions at bytes aligned h = number_at-from 4 regions Execute at bytes aligned h

pub stored-from : (width : ℕ) (regions : List Region) (at value : ℕ) (new : List Region) → at % width ≡ 0
    → with_bytes regions at (little_endian_bytes width value) ≡ Some new → stored width regions at value ≡ Ok new
unfolding stored
stored-from width regions at value new aligned h = rw (aligned, h) refl

-- an access is not refused where it is aligned and covered
covered : (A : Type 0) (o : Option A) → is_some o ≡ true → (x : A) × (o ≡ Some x)
covered A None h = absurd (let e : false ≡ true = h in cc)
covered A (Some x) h = (x, refl)

pub loaded-covered : (width : ℕ) (regions : List Region) (at : ℕ) → at % width ≡ 0 → covers regions Read at width ≡ true
    → (value : ℕ) × (loaded width regions at ≡ Ok value)
loaded-covered width regions at aligned h =
    let found = covered (List ℕ) (bytes_at regions Read at width) h in
    (little_endian found.0, loaded-from width regions at found.0 aligned found.1)

pub fetched-covered : (regions : List Region) (at : ℕ) → at % 4 ≡ 0 → covers regions Execute at 4 ≡ true → (value : ℕ) × (fetched regions at ≡ Ok value)
fetched-covered regions at aligned h =
    let found = covered (List ℕ) (bytes_at regions Execute at 4) h in
    (little_endian found.0, fetched-from regions at found.0 aligned found.1)

pub stored-covered : (width : ℕ) (regions : List Region) (at value : ℕ) → at % width ≡ 0 → covers regions Write at width ≡ true
    → (new : List Region) × (stored width regions at value ≡ Ok new)
stored-covered width regions at value aligned h =
    let bytes : List ℕ = little_endian_bytes width value in
    let n : length bytes ≡ width = length-little_endian_bytes width value in
    let done = covered (List Region) (with_bytes regions at bytes) (covers-with_bytes regions at bytes ∙ rw n h) in
    (done.0, stored-from width regions at value done.0 aligned done.1)

-- an access that is not refused, by what it gave
in_bytes : (found : Option (List ℕ)) (value : ℕ) → number_in found ≡ Ok value → (bytes : List ℕ) × (found ≡ Some bytes) × (value ≡ little_endian bytes)
in_bytes None value h = absurd (let e : ◌≡◌ {A = Result ℕ Fault} (Err fault.Outside) (Ok value) = h in cc)
in_bytes (Some bytes) value h = (bytes, refl, cc)

abbrev pub ReadsNumber : (width : ℕ) → List Region → Right → (at value : ℕ) → Type 0
ReadsNumber width regions right at value = (at % width ≡ 0) × ((bytes : List ℕ) × (bytes_at regions right at width ≡ Some bytes) × (value ≡ little_endian bytes))

number_at-Ok : (width : ℕ) (regions : List Region) (right : Right) (at value : ℕ) → number_at width regions right at ≡ Ok value → ReadsNumber width regions right at value
number_at-Ok width regions right at value h =
    elim (cases_Bool (eqb (at % width) 0)) [
      | inl aligned ↦ (eqb-true (at % width) 0 aligned, in_bytes (bytes_at regions right at width) value (rw aligned at h))
      | inr odd ↦ absurd (let e : ◌≡◌ {A = Result ℕ Fault} (Err fault.Misaligned) (Ok value) = rw odd at h in cc)
    ]

pub loaded-Ok : (width : ℕ) (regions : List Region) (at value : ℕ) → loaded width regions at ≡ Ok value → ReadsNumber width regions Read at value
unfolding loaded
loaded-Ok width regions at value h = number_at-Ok width regions Read at value h

pub fetched-Ok : (regions : List Region) (at value : ℕ) → fetched regions at ≡ Ok value → ReadsNumber 4 regions Execute at value
unfolding fetched
fetched-Ok regions at value h = number_at-Ok 4 regions Execute at value h

in_memory : (changed : Option (List Region)) (new : List Region) → memory_in changed ≡ Ok new → changed ≡ Some new
in_memory None new h = absurd (let e : ◌≡◌ {A = Result (List Region) Fault} (Err fault.Outside) (Ok new) = h in cc)
in_memory (Some regions) new h = cc

pub stored-Ok : (width : ℕ) (regions : List Region) (at value : ℕ) (new : List Region) → stored width regions at value ≡ Ok new
    → (at % width ≡ 0) × (with_bytes regions at (little_endian_bytes width value) ≡ Some new)
unfolding stored
stored-Ok width regions at value new h =
    elim (cases_Bool (eqb (at % width) 0)) [
      | inl aligned ↦ (eqb-true (at % width) 0 aligned, in_memory (with_bytes regions at (little_endian_bytes width value)) new (rw aligned at h))
      | inr odd ↦ absurd (let e : ◌≡◌ {A = Result (List Region) Fault} (Err fault.Misaligned) (Ok new) = rw odd at h in cc)
    ]

-- a load gives a number of its width
pub loaded-lt : (width : ℕ) (regions : List Region) (at value : ℕ) → HoldBytes regions → loaded width regions at ≡ Ok value → value < 256 ^ width
loaded-lt width regions at value held h =
    let read = loaded-Ok width regions at value h in
    let n = length-bytes_at regions Read at width read.1.0 read.1.1 in
    let below = little_endian-lt read.1.0 (AreBytes-bytes_at regions Read at width read.1.0 read.1.1 held) in
    subst (λ (w : ℕ). value < 256 ^ w) n (subst (λ (v : ℕ). v < 256 ^ length read.1.0) (sym read.1.2) below)

-- a load after a store at the same place, in memory whose regions are apart
pub loaded-stored_same : (width : ℕ) (regions : List Region) (at value : ℕ) (new : List Region) → AllApart regions → stored width regions at value ≡ Ok new
    → covers regions Read at width ≡ true → loaded width new at ≡ Ok (value % 256 ^ width)
loaded-stored_same width regions at value new apart h reads =
    let done = stored-Ok width regions at value new h in
    let bytes : List ℕ = little_endian_bytes width value in
    let n : length bytes ≡ width = length-little_endian_bytes width value in
    let read : bytes_at new Read at width ≡ Some bytes =
    rw n at (bytes_at-with_bytes_same regions Read at bytes new apart done.1 (rw n reads)) in
    loaded-from width new at bytes done.0 read ∙ ap Ok (little_endian-little_endian_bytes width value)

unread : (right : Right) (width : ℕ) (regions : List Region) (at value : ℕ) (new : List Region) (n from : ℕ) → stored width regions at value ≡ Ok new
    → (from + n ≤ at) ⊎ (at + width ≤ from) → bytes_at new right from n ≡ bytes_at regions right from n
unread right width regions at value new n from h apart =
    bytes_at-with_bytes_apart regions right at (little_endian_bytes width value) new from n (stored-Ok width regions at value new h).1
    (rw length-little_endian_bytes apart)

-- beside it a load and a fetch give what they gave before
pub loaded-stored_apart : (width : ℕ) (regions : List Region) (at value : ℕ) (new : List Region) (n from : ℕ) → stored width regions at value ≡ Ok new
    → (from + n ≤ at) ⊎ (at + width ≤ from) → loaded n new from ≡ loaded n regions from
unfolding loaded
loaded-stored_apart width regions at value new n from h apart =
    rw (unread Read width regions at value new n from h apart) refl

pub fetched-stored_apart : (width : ℕ) (regions : List Region) (at value : ℕ) (new : List Region) (from : ℕ) → stored width regions at value ≡ Ok new
    → (from + 4 ≤ at) ⊎ (at + width ≤ from) → fetched new from ≡ fetched regions from
unfolding fetched
fetched-stored_apart width regions at value new from h apart =
    rw (unread Execute width regions at value new 4 from h apart) refl

-- a store keeps each region's address, flags and size, and that memory holds bytes
pub layout-stored : (width : ℕ) (regions : List Region) (at value : ℕ) (new : List Region) → stored width regions at value ≡ Ok new → layout new ≡ layout regions
layout-stored width regions at value new h = layout-with_bytes regions at (little_endian_bytes width value) new (stored-Ok width regions at value new h).1

pub HoldBytes-stored : (width : ℕ) (regions : List Region) (at value : ℕ) (new : List Region) → stored width regions at value ≡ Ok new → HoldBytes regions → HoldBytes new
HoldBytes-stored width regions at value new h held =
    HoldBytes-with_bytes regions at (little_endian_bytes width value) new (stored-Ok width regions at value new h).1 (AreBytes-little_endian_bytes width value) held
