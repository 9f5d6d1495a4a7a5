-- Bytes that move between a region and the streams in pieces, each behind the last.
use Rattle.std.proofs.Common.{◌≡◌, ℕ, ◌+◌, ◌-◌, ◌<◌, ◌≤◌, List, [], ◌++◌, length, take, drop, refl, sym, ap, subst, ◌∙◌, append_assoc, arith}
use Rattle.std.proofs.lemmas.List.{length-append, length-drop, length-take-le, drop-drop, append-nil}
use Rattle.std.proofs.Math.Seq.{take-add}
use Rattle.std.proofs.Math.Seq.{drop-append_seam, take-append_seam}
use Rattle.guest_mem.specs.Regions.{Region}
use Rattle.guest_mem.specs.Guest.{part, with_part, overwritten}
use Rattle.guest_mem.proofs.Parts.{overwritten_then}
use Rattle.guest_mem.proofs.Places.{overwritten-nothing}

pub with_part-nothing : (region : Region) (at : ℕ) → with_part region at [] ≡ region
with_part-nothing region at = ap (λ (l : List ℕ). record region { bytes = l }) (overwritten-nothing region.bytes (at - region.address))

pub with_part-then : (region : Region) (at : ℕ) (front bytes : List ℕ) → region.address ≤ at → at + (length front + length bytes) ≤ region.address + length region.bytes
    → with_part (with_part region at front) (at + length front) bytes ≡ with_part region at (front ++ bytes)
with_part-then region at front bytes from to =
    let place : at + length front - region.address ≡ at - region.address + length front = omega arith in
    ap (λ (l : List ℕ). record region { bytes = l })
    (ap (λ (p : ℕ). overwritten (overwritten region.bytes (at - region.address) front) p bytes) place
    ∙ overwritten_then region.bytes (at - region.address) front bytes (omega arith))

pub part-then : (region : Region) (at n m : ℕ) → region.address ≤ at → part region at n ++ part region (at + n) m ≡ part region at (n + m)
part-then region at n m from =
    let place : at + n - region.address ≡ at - region.address + n = omega arith in
    ap (λ (p : ℕ). part region at n ++ take m (drop p region.bytes)) place
    ∙ ap (λ (l : List ℕ). part region at n ++ take m l) (sym (drop-drop n (at - region.address) region.bytes))
    ∙ sym (take-add n m (drop (at - region.address) region.bytes))

pub length-of_part : (region : Region) (at n : ℕ) → region.address ≤ at → at + n ≤ region.address + length region.bytes → length (part region at n) ≡ n
length-of_part region at n from to =
    length-take-le n (drop (at - region.address) region.bytes) (omega (arith, length-drop (at - region.address) region.bytes))
