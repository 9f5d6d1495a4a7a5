-- What is read of memory, and after a change of it.
use Rattle.std.proofs.Common.{◌≡◌, ℕ, zero, suc, ◌+◌, ◌-◌, ◌<◌, ◌≤◌, ◌⊎◌, inl, inr, true, false, cond, List, [], ◌∷◌, length, take, drop, Option, Some, None, All, refl, sym, ap, ◌∙◌, subst, arith, rules}
use Rattle.std.specs.Prelude.{is_some, ◌/◌, ◌%◌, ◌==◌, nat_le, ◌&&◌}
use Rattle.std.proofs.lemmas.Bool.{cases_Bool}
use Rattle.std.proofs.lemmas.Bool.Decides.{nat_tests}
use Rattle.std.proofs.lemmas.List.{length-take-le, length-drop, drop-take, drop-drop, take-take}
use Rattle.std.proofs.lemmas.List.Elements.{All-head, All-tail, All-take, All-drop}
use Rattle.guest_mem.specs.declared.right.Right.{Right}
use Rattle.guest_mem.specs.declared.right.Right.TheVariants.{Write}
use Rattle.guest_mem.specs.Regions.{Region}
use Rattle.guest_mem.specs.Rights.{flag_of}
use Rattle.guest_mem.specs.Guest.{contains, part, with_part, bytes_at, with_bytes, covers}
use Rattle.guest_mem.specs.Layout.{Apart, AllApart, AreBytes, HoldBytes}
use Rattle.guest_mem.proofs.Parts.{part_same, part_apart}
use Rattle.guest_mem.proofs.Places.{Within, within_served, bytes_at-nothing, covers-with_bytes}
use Rattle.guest_mem.proofs.Layouts.{with_bytes-cases, with_bytes-last, length-with_part}

-- Bytes that are read are those of the first region, or of the others.
abbrev pub ReadsFirst : (region : Region) (right : Right) (at n : ℕ) (bytes : List ℕ) → Type 0
ReadsFirst region right at n bytes = (contains region right at n ≡ true) × (bytes ≡ part region at n)

abbrev pub ReadsOthers : (region : Region) (regions : List Region) (right : Right) (at n : ℕ) (bytes : List ℕ) → Type 0
ReadsOthers region regions right at n bytes = (contains region right at n ≡ false) × (bytes_at regions right at n ≡ Some bytes)

pub bytes_at-cases : (region : Region) (regions : List Region) (right : Right) (at n : ℕ) (bytes : List ℕ) → bytes_at (region ∷ regions) right at n ≡ Some bytes
    → ReadsFirst region right at n bytes ⊎ ReadsOthers region regions right at n bytes
unfolding bytes_at
bytes_at-cases region regions right at n bytes =
    elim (contains region right at n) as (λ b. cond b (Some (part region at n)) (bytes_at regions right at n) ≡ Some bytes
    → ((b ≡ true) × (bytes ≡ part region at n)) ⊎ ((b ≡ false) × (bytes_at regions right at n ≡ Some bytes))) [
      | true ↦ λ h. inl (refl, cc)
      | false ↦ λ h. inr (refl, h)
    ]

pub bytes_at-first : (region : Region) (regions : List Region) (right : Right) (at n : ℕ) → contains region right at n ≡ true
    → bytes_at (region ∷ regions) right at n ≡ Some (part region at n)
unfolding bytes_at
bytes_at-first region regions right at n h = rw h refl

pub bytes_at-others : (region : Region) (regions : List Region) (right : Right) (at n : ℕ) → contains region right at n ≡ false
    → bytes_at (region ∷ regions) right at n ≡ bytes_at regions right at n
unfolding bytes_at
bytes_at-others region regions right at n h = rw h refl

pub nothing_last : (right : Right) (at n : ℕ) → 0 < n → bytes_at [] right at n ≡ None
unfolding bytes_at
nothing_last right at n some = grind (arith, nat_tests)

bytes_at-last : (right : Right) (at n : ℕ) (bytes : List ℕ) → bytes_at [] right at n ≡ Some bytes → (n ≡ 0) × (bytes ≡ [])
unfolding bytes_at
bytes_at-last right at zero bytes h = (refl, cc)
bytes_at-last right at (suc n) bytes h =
    absurd (let e : ◌≡◌ {A = Option (List ℕ)} None (Some bytes) = sym (nothing_last right at (suc n) (omega arith)) ∙ h in cc)

-- n bytes are read
length-part : (region : Region) (at n : ℕ) → Within region at n → length (part region at n) ≡ n
length-part region at n h =
    length-take-le n (drop (at - region.address) region.bytes) (omega (arith, length-drop (at - region.address) region.bytes))

pub length-bytes_at : (regions : List Region) (right : Right) (at n : ℕ) (bytes : List ℕ) → bytes_at regions right at n ≡ Some bytes → length bytes ≡ n
length-bytes_at [] right at n bytes h =
    let last = bytes_at-last right at n bytes h in
    ap length last.1 ∙ sym last.0
length-bytes_at (region ∷ regions) right at n bytes h =
    elim (bytes_at-cases region regions right at n bytes h) [
      | inl first ↦ ap length first.1 ∙ length-part region at n (within_served region right at n first.0)
      | inr others ↦ length-bytes_at regions right at n bytes others.1
    ]

-- and they are bytes
pub AreBytes-bytes_at : (regions : List Region) (right : Right) (at n : ℕ) (bytes : List ℕ) → bytes_at regions right at n ≡ Some bytes → HoldBytes regions → AreBytes bytes
AreBytes-bytes_at [] right at n bytes h held = subst AreBytes (sym (bytes_at-last right at n bytes h).1) (search rules)
AreBytes-bytes_at (region ∷ regions) right at n bytes h held =
    elim (bytes_at-cases region regions right at n bytes h) [
      | inl first ↦ subst AreBytes (sym first.1)
          (All-take (λ byte. byte < 256) n (drop (at - region.address) region.bytes)
          (All-drop (λ byte. byte < 256) (at - region.address) region.bytes (All-head (λ (r : Region). AreBytes r.bytes) region regions held)))
      | inr others ↦ AreBytes-bytes_at regions right at n bytes others.1 (All-tail (λ (r : Region). AreBytes r.bytes) region regions held)
    ]

-- of two regions that are apart only one has the bytes at a place
pub misses : (region : Region) (regions : List Region) (right : Right) (at n from m : ℕ) → All (Apart region) regions → Within region from m → 0 < m
    → (at ≤ from) × (from + m ≤ at + n) → bytes_at regions right at n ≡ None
misses region [] right at n from m apart within some inside = nothing_last right at n (omega arith)
misses region (other ∷ regions) right at n from m apart within some inside =
    elim (cases_Bool (contains other right at n)) [
      | inl has ↦
          let other_within = within_served other right at n has in
          elim (All-head (Apart region) other regions apart) [ inl before ↦ absurd (omega arith) | inr behind ↦ absurd (omega arith) ]
      | inr lacks ↦ bytes_at-others other regions right at n lacks ∙ misses region regions right at n from m (All-tail (Apart region) other regions apart) within some inside
    ]

-- a part of what is read, in memory whose regions are apart
part_of_part : (xs : List ℕ) (p n k m : ℕ) → k + m ≤ n → take m (drop k (take n (drop p xs))) ≡ take m (drop (p + k) xs)
part_of_part xs p n k m h =
    let split : k + (n - k) ≡ n = omega arith in
    ap (λ (i : ℕ). take m (drop k (take i (drop p xs)))) (sym split)
    ∙ ap (λ (ys : List ℕ). take m ys) (drop-take k (n - k) (drop p xs))
    ∙ take-take m (n - k) (drop k (drop p xs)) (omega arith)
    ∙ ap (λ (ys : List ℕ). take m ys) (drop-drop k p xs)

serves_part : (region : Region) (right : Right) (at n k m : ℕ) → contains region right at n ≡ true → k + m ≤ n → contains region right (at + k) m ≡ true
serves_part region right at n k m h le = let within = within_served region right at n h in search rules

pub bytes_at-part : (regions : List Region) (right : Right) (at n k m : ℕ) (bytes : List ℕ) → AllApart regions → bytes_at regions right at n ≡ Some bytes → k + m ≤ n
    → bytes_at regions right (at + k) m ≡ Some (take m (drop k bytes))
bytes_at-part regions right at n k zero bytes apart h le = bytes_at-nothing regions right (at + k)
bytes_at-part [] right at n k (suc m) bytes apart h le = absurd (let last = bytes_at-last right at n bytes h in omega arith)
bytes_at-part (region ∷ regions) right at n k (suc m) bytes apart h le =
    elim (bytes_at-cases region regions right at n bytes h) [
      | inl first ↦
          bytes_at-first region regions right (at + k) (suc m) (serves_part region right at n k (suc m) first.0 le)
          ∙ (let within = within_served region right at n first.0 in
          let same : at - region.address + k ≡ at + k - region.address = omega arith in
          ap (λ (i : ℕ). Some (take (suc m) (drop i region.bytes))) (sym same)
          ∙ ap Some (sym (part_of_part region.bytes (at - region.address) n k (suc m) le))
          ∙ ap (λ (ys : List ℕ). Some (take (suc m) (drop k ys))) (sym first.1))
      | inr others ↦
          elim (cases_Bool (contains region right (at + k) (suc m))) [
            | inl has ↦ absurd (
                let none = misses region regions right at n (at + k) (suc m) apart.0 (within_served region right (at + k) (suc m) has) (omega arith) (omega arith, omega arith) in
                let e : ◌≡◌ {A = Option (List ℕ)} None (Some bytes) = sym none ∙ others.1 in
                cc)
            | inr lacks ↦ bytes_at-others region regions right (at + k) (suc m) lacks ∙ bytes_at-part regions right at n k (suc m) bytes apart.1 others.1 le
          ]
    ]

-- a change leaves what a region serves
pub serves-with_part : (region : Region) (at : ℕ) (bytes : List ℕ) (right : Right) (from n : ℕ) → Within region at (length bytes)
    → contains (with_part region at bytes) right from n ≡ contains region right from n
serves-with_part region at bytes right from n within =
    ap (λ (size : ℕ). (region.flags / flag_of right % 2 == 1) && (nat_le region.address from && nat_le (from + n) (region.address + size)))
    (length-with_part region at bytes within)

served : (regions : List Region) (right : Right) (at n : ℕ) → bytes_at regions right at n ≡ None → covers regions right at n ≡ true → ⊥
served regions right at n none h = let e : false ≡ true = ap is_some (sym none) ∙ h in cc

changed_somewhere : (regions : List Region) (at : ℕ) (bytes : List ℕ) (new : List Region) → with_bytes regions at bytes ≡ Some new → covers regions Write at (length bytes) ≡ true
changed_somewhere regions at bytes new h = sym (covers-with_bytes regions at bytes) ∙ ap is_some h

reads_change : (regions : List Region) (right : Right) (at : ℕ) (bytes : List ℕ) (new : List Region) → 0 < length bytes → AllApart regions
    → with_bytes regions at bytes ≡ Some new → covers regions right at (length bytes) ≡ true → bytes_at new right at (length bytes) ≡ Some bytes
reads_change [] right at bytes new some apart h reads = absurd (served [] right at (length bytes) (nothing_last right at (length bytes) some) reads)
reads_change (region ∷ regions) right at bytes new some apart h reads =
    let n : ℕ = length bytes in
    elim (with_bytes-cases region regions at bytes new h) [
      | inl first ↦
          let within = within_served region Write at n first.0 in
          elim (cases_Bool (contains region right at n)) [
            | inl has ↦
                ap (λ (m : List Region). bytes_at m right at n) first.1
                ∙ bytes_at-first (with_part region at bytes) regions right at n (serves-with_part region at bytes right at n within ∙ has)
                ∙ ap Some (part_same region.bytes (at - region.address) bytes (omega arith))
            | inr lacks ↦ absurd (
                served regions right at n (misses region regions right at n at n apart.0 within some (omega arith, omega arith))
                (ap is_some (sym (bytes_at-others region regions right at n lacks)) ∙ reads))
          ]
      | inr others ↦
          elim (cases_Bool (contains region right at n)) [
            | inl has ↦ absurd (
                served regions Write at n (misses region regions Write at n at n apart.0 (within_served region right at n has) some (omega arith, omega arith))
                (changed_somewhere regions at bytes others.1.0 others.1.1))
            | inr lacks ↦
                ap (λ (m : List Region). bytes_at m right at n) others.1.2
                ∙ bytes_at-others region others.1.0 right at n lacks
                ∙ reads_change regions right at bytes others.1.0 some apart.1 others.1.1
                (ap is_some (sym (bytes_at-others region regions right at n lacks)) ∙ reads)
          ]
    ]

-- What was put somewhere is read there, in memory whose regions are apart.
pub bytes_at-with_bytes_same : (regions : List Region) (right : Right) (at : ℕ) (bytes : List ℕ) (new : List Region) → AllApart regions
    → with_bytes regions at bytes ≡ Some new → covers regions right at (length bytes) ≡ true → bytes_at new right at (length bytes) ≡ Some bytes
bytes_at-with_bytes_same regions right at [] new apart h reads = bytes_at-nothing new right at
bytes_at-with_bytes_same regions right at (byte ∷ bytes) new apart h reads = reads_change regions right at (byte ∷ bytes) new (omega arith) apart h reads

-- What stands beside it is read as before.
pub bytes_at-with_bytes_apart : (regions : List Region) (right : Right) (at : ℕ) (bytes : List ℕ) (new : List Region) (from n : ℕ)
    → with_bytes regions at bytes ≡ Some new → (from + n ≤ at) ⊎ (at + length bytes ≤ from) → bytes_at new right from n ≡ bytes_at regions right from n
bytes_at-with_bytes_apart [] right at bytes new from n h apart = ap (λ (m : List Region). bytes_at m right from n) (with_bytes-last at bytes new h)
bytes_at-with_bytes_apart (region ∷ regions) right at bytes new from n h apart =
    elim (with_bytes-cases region regions at bytes new h) [
      | inl first ↦
          let within = within_served region Write at (length bytes) first.0 in
          ap (λ (m : List Region). bytes_at m right from n) first.1
          ∙ elim (cases_Bool (contains region right from n)) [
            | inl has ↦
                let read = within_served region right from n has in
                let beside : (from - region.address + n ≤ at - region.address) ⊎ (at - region.address + length bytes ≤ from - region.address) =
                elim apart [ inl below ↦ inl (omega arith) | inr above ↦ inr (omega arith) ] in
                bytes_at-first (with_part region at bytes) regions right from n (serves-with_part region at bytes right from n within ∙ has)
                ∙ ap Some (part_apart region.bytes (at - region.address) bytes (from - region.address) n (omega arith) beside)
                ∙ sym (bytes_at-first region regions right from n has)
            | inr lacks ↦
                bytes_at-others (with_part region at bytes) regions right from n (serves-with_part region at bytes right from n within ∙ lacks)
                ∙ sym (bytes_at-others region regions right from n lacks)
          ]
      | inr others ↦
          ap (λ (m : List Region). bytes_at m right from n) others.1.2
          ∙ elim (cases_Bool (contains region right from n)) [
            | inl has ↦ bytes_at-first region others.1.0 right from n has ∙ sym (bytes_at-first region regions right from n has)
            | inr lacks ↦
                bytes_at-others region others.1.0 right from n lacks
                ∙ bytes_at-with_bytes_apart regions right at bytes others.1.0 from n others.1.1 apart
                ∙ sym (bytes_at-others region regions right from n lacks)
          ]
    ]
