-- What is executed is not changed by stores, and a part of what is read is read.
use Rattle.std.proofs.Common.{◌≡◌, ℕ, ◌+◌, ◌-◌, ◌/◌, ◌%◌, ◌<◌, ◌≤◌, inl, inr, true, false, eqb, List, [], ◌∷◌, length, take, drop, Option, Some, None, All, refl, sym, ap, ◌∙◌, arith, rules}
use Rattle.std.specs.Prelude.{◌==◌, nat_le, ◌&&◌}
use Rattle.std.proofs.lemmas.Bool.{cases_Bool, eqb-true, eq-eqb, le-leb}
use Rattle.std.proofs.lemmas.List.{drop-take, drop-drop, take-take}
use Rattle.std.proofs.lemmas.List.Elements.{All-head, All-tail}
use Rattle.guest_mem.specs.declared.right.Right.{Right}
use Rattle.guest_mem.specs.declared.right.Right.TheVariants.{Execute, Write}
use Rattle.guest_mem.specs.Regions.{Region}
use Rattle.guest_mem.specs.Rights.{flag_of}
use Rattle.guest_mem.specs.Guest.{contains, part, with_part, bytes_at, with_bytes, fetched}
use Rattle.guest_mem.specs.Layout.{extent_of, layout, Apart, AllApart, IsFixed, KeepsCode}
use Rattle.guest_mem.proofs.Places.{Within, within_served}
use Rattle.guest_mem.proofs.Layouts.{with_bytes-cases, with_bytes-last}
use Rattle.guest_mem.proofs.Changes.{bytes_at-cases, bytes_at-first, bytes_at-others, misses, serves-with_part, nothing_last}

-- a region that serves an access gives the right
gives_right : (region : Region) (right : Right) (at n : ℕ) → contains region right at n ≡ true → region.flags / flag_of right % 2 ≡ 1
gives_right region right at n h = search rules

-- one that may be written is not executed
not_executed : (region : Region) (at n from m : ℕ) → IsFixed (extent_of region) → contains region Write at n ≡ true → contains region Execute from m ≡ false
not_executed region at n from m fixed writes =
    elim (cases_Bool (contains region Execute from m)) [
      | inl has ↦ absurd (let none = fixed (gives_right region Execute from m has) in let one = gives_right region Write at n writes in omega arith)
      | inr lacks ↦ lacks
    ]

pub executed-with_bytes : (regions : List Region) (at : ℕ) (bytes : List ℕ) (new : List Region) → KeepsCode (layout regions) → with_bytes regions at bytes ≡ Some new
    → (from n : ℕ) → bytes_at new Execute from n ≡ bytes_at regions Execute from n
executed-with_bytes [] at bytes new keeps h from n = ap (λ (m : List Region). bytes_at m Execute from n) (with_bytes-last at bytes new h)
executed-with_bytes (region ∷ regions) at bytes new keeps h from n =
    let fixed = All-head IsFixed (extent_of region) (layout regions) keeps in
    elim (with_bytes-cases region regions at bytes new h) [
      | inl first ↦
          let lacks = not_executed region at (length bytes) from n fixed first.0 in
          let still : contains (with_part region at bytes) Execute from n ≡ false =
          serves-with_part region at bytes Execute from n (within_served region Write at (length bytes) first.0) ∙ lacks in
          ap (λ (m : List Region). bytes_at m Execute from n) first.1
          ∙ bytes_at-others (with_part region at bytes) regions Execute from n still
          ∙ sym (bytes_at-others region regions Execute from n lacks)
      | inr others ↦
          ap (λ (m : List Region). bytes_at m Execute from n) others.1.2
          ∙ elim (cases_Bool (contains region Execute from n)) [
            | inl has ↦ bytes_at-first region others.1.0 Execute from n has ∙ sym (bytes_at-first region regions Execute from n has)
            | inr lacks ↦
                bytes_at-others region others.1.0 Execute from n lacks
                ∙ executed-with_bytes regions at bytes others.1.0 (All-tail IsFixed (extent_of region) (layout regions) keeps) others.1.1 from n
                ∙ sym (bytes_at-others region regions Execute from n lacks)
          ]
    ]

-- no store changes what is fetched
pub fetched-with_bytes : (regions : List Region) (at : ℕ) (bytes : List ℕ) (new : List Region) → KeepsCode (layout regions) → with_bytes regions at bytes ≡ Some new
    → (from : ℕ) → fetched new from ≡ fetched regions from
unfolding fetched
fetched-with_bytes regions at bytes new keeps h from = rw (executed-with_bytes regions at bytes new keeps h from 4) refl

-- ---- a part of what is read

part-part : (region : Region) (at n k m : ℕ) → region.address ≤ at → k + m ≤ n → part region (at + k) m ≡ take m (drop k (part region at n))
part-part region at n k m from inside =
    let all = region.bytes in
    let o = at - region.address in
    let place : at + k - region.address ≡ o + k = omega arith in
    let whole : n ≡ k + (n - k) = omega arith in
    ap (λ (j : ℕ). take m (drop j all)) place
    ∙ ap (take m) (sym (drop-drop k o all))
    ∙ sym (ap (λ (j : ℕ). take m (drop k (take j (drop o all)))) whole ∙ ap (take m) (drop-take k (n - k) (drop o all)) ∙ take-take m (n - k) (drop k (drop o all)) (omega arith))

serves_part : (region : Region) (right : Right) (at n k m : ℕ) → k + m ≤ n → contains region right at n ≡ true → contains region right (at + k) m ≡ true
serves_part region right at n k m inside h =
    let within = within_served region right at n h in
    let gives = gives_right region right at n h in
    let right_is : eqb (region.flags / flag_of right % 2) 1 ≡ true = eq-eqb (region.flags / flag_of right % 2) 1 gives in
    let begun = le-leb region.address (at + k) (omega arith) in
    let held = le-leb (at + k + m) (region.address + length region.bytes) (omega arith) in
    rw (right_is, begun, held) refl

pub bytes_at-part : (regions : List Region) (right : Right) (at n : ℕ) (bytes : List ℕ) (k m : ℕ) → AllApart regions → bytes_at regions right at n ≡ Some bytes
    → k + m ≤ n → 0 < m → bytes_at regions right (at + k) m ≡ Some (take m (drop k bytes))
bytes_at-part [] right at n bytes k m apart h inside some =
    absurd (let said : ◌≡◌ {A = Option (List ℕ)} None (Some bytes) = sym (nothing_last right at n (omega arith)) ∙ h in cc)
bytes_at-part (region ∷ regions) right at n bytes k m apart h inside some =
    elim (bytes_at-cases region regions right at n bytes h) [
      | inl first ↦
          bytes_at-first region regions right (at + k) m (serves_part region right at n k m inside first.0)
          ∙ ap Some (part-part region at n k m (within_served region right at n first.0).0 inside ∙ ap (λ (l : List ℕ). take m (drop k l)) (sym first.1))
      | inr others ↦
          elim (cases_Bool (contains region right (at + k) m)) [
            | inl has ↦ absurd (
                let none = misses region regions right at n (at + k) m apart.0 (within_served region right (at + k) m has) some (omega arith, omega arith) in
                let said : ◌≡◌ {A = Option (List ℕ)} None (Some bytes) = sym none ∙ others.1 in cc)
            | inr lacks ↦
                bytes_at-others region regions right (at + k) m lacks
                ∙ bytes_at-part regions right at n bytes k m apart.1 others.1 inside some
          ]
    ]
