-- Memory whose regions do not overlap: there the first region that has the room is also the first that has the bytes.
use Rattle.std.proofs.Common.{◌≡◌, ℕ, zero, suc, ◌+◌, ◌-◌, ◌<◌, ◌≤◌, ◌⊎◌, IsTrue, true, false, List, [], ◌∷◌, ◌++◌, length, take, drop, set, get_or, position, Some, refl, sym, ap, ◌∙◌, append_assoc, take-append-drop, inl, inr, arith}
use Rattle.std.specs.Prelude.{All}
use Rattle.std.proofs.lemmas.Bool.Decides.{nat_tests}
use Rattle.std.proofs.lemmas.List.{drop-drop, drop-append-le}
use Rattle.std.proofs.lemmas.List.Elements.{All-get_or}
use Rattle.std.proofs.lemmas.List.Quantifiers.{position-Some}
use Rattle.guest_mem.specs.declared.right.Right.{Right}
use Rattle.guest_mem.specs.declared.right.Right.TheVariants.{Write}
use Rattle.guest_mem.specs.Regions.{Region}
use Rattle.guest_mem.specs.Guest.{contains, part, with_part, with_bytes, covers}
use Rattle.guest_mem.specs.Filling.{over_front, with_front}
use Rattle.guest_mem.proofs.Places.{serves, Within, IsFirst, within_served, within_place, with_bytes-nothing}
use Rattle.guest_mem.proofs.Filling.{nowhere, by_place, length-part, length-over_front, with_front-place, with_front-nothing}

-- one ends before the other begins
abbrev pub AreApart : Region → Region → Type 0
AreApart a b = (a.address + length a.bytes ≤ b.address) ⊎ (b.address + length b.bytes ≤ a.address)

abbrev pub AllRegionsApart : List Region → Type 0
AllRegionsApart [] = Unit {0}
AllRegionsApart (region ∷ others) = All (AreApart region) others × AllRegionsApart others

serves_fewer : (region : Region) (right : Right) (at n k : ℕ) → k ≤ n → contains region right at n ≡ true → contains region right at k ≡ true
serves_fewer region right at n k few h = grind (arith, nat_tests)

-- a region apart from one that has the n bytes has none of them
serves_none : (region other : Region) (at n k : ℕ) → AreApart region other → contains other Write at n ≡ true → 0 < k → k ≤ n → contains region Write at k ≡ false
serves_none region other at n k apart h some few =
    let there = within_served other Write at n h in
    elim (contains region Write at k) as (λ b. contains region Write at k ≡ b → b ≡ false) [
      | true ↦ λ is. absurd (let here = within_served region Write at k is in elim apart [ inl le ↦ omega arith | inr le ↦ omega arith ])
      | false ↦ λ is. refl
    ] refl

changes_there : (regions : List Region) (at n place : ℕ) (bytes : List ℕ) (d : Region) → AllRegionsApart regions → 0 < length bytes → length bytes ≤ n
    → IsFirst (serves Write at n) regions place d → with_bytes regions at bytes ≡ Some (set regions place (with_part (get_or regions place d) at bytes))
unfolding with_bytes
changes_there [] at n place bytes d apart some few h = absurd (omega (arith, h.0))
changes_there (region ∷ regions) at n zero bytes d apart some few h = rw (serves_fewer region Write at n (length bytes) few h.1) refl
changes_there (region ∷ regions) at n (suc i) bytes d apart some few h =
    let inside : i < length regions = omega (arith, h.0) in
    let none = serves_none region (get_or regions i d) at n (length bytes) (All-get_or (AreApart region) regions i d inside apart.0) h.1 some few in
    rw (none, changes_there regions at n i bytes d apart.1 some few (inside, h.1, λ k lt. h.2 (suc k) (omega arith))) refl

-- the rest of the room keeps its bytes
pub part_kept : (region : Region) (at n : ℕ) (bytes : List ℕ) → Within region at n → length bytes ≤ n → with_part region at (over_front bytes (part region at n)) ≡ with_part region at bytes
part_kept region at n bytes within few =
    let place = at - region.address in
    let all = region.bytes in
    let k = length bytes in
    let behind = drop place all in
    let whole = length-part region at n within in
    let long : length (over_front bytes (part region at n)) ≡ n = length-over_front bytes (part region at n) (omega arith) ∙ whole in
    let inner : drop k (take n behind) ++ drop n behind ≡ drop k behind =
    sym (drop-append-le k (take n behind) (drop n behind) (omega arith)) ∙ ap (λ (l : List ℕ). drop k l) (take-append-drop n behind) in
    let rest : drop (place + length (over_front bytes (part region at n))) all ≡ drop n behind = rw long (sym (drop-drop n place all)) in
    let joined : over_front bytes (part region at n) ++ drop (place + length (over_front bytes (part region at n))) all ≡ bytes ++ drop (place + k) all =
    ap (λ (l : List ℕ). over_front bytes (part region at n) ++ l) rest ∙ append_assoc bytes (drop k (take n behind)) (drop n behind)
    ∙ ap (λ (l : List ℕ). bytes ++ l) (inner ∙ drop-drop k place all) in
    ap (λ (l : List ℕ). record region { bytes = take place all ++ l }) joined

pub with_front-apart : (regions : List Region) (at n : ℕ) (bytes : List ℕ) → AllRegionsApart regions → IsTrue (covers regions Write at n) → length bytes ≤ n
    → with_front regions at n bytes ≡ with_bytes regions at bytes
with_front-apart regions at n [] apart covered few = with_front-nothing regions at n covered ∙ sym (with_bytes-nothing regions at [] refl)
with_front-apart regions at n (byte ∷ bytes) apart covered few =
    by_place regions at n _ _ covered
    (λ (place : ℕ) (is : position (serves Write at n) regions ≡ Some place).
    let region = get_or regions place nowhere in
    with_front-place regions at n place (byte ∷ bytes) nowhere is few
    ∙ ap (λ (r : Region). Some (set regions place r)) (part_kept region at n (byte ∷ bytes) (within_place regions Write at n place nowhere is) few)
    ∙ sym (changes_there regions at n place (byte ∷ bytes) nowhere apart (omega arith) few (position-Some (serves Write at n) regions place nowhere is)))
    (λ (empty : n ≡ 0). absurd (omega arith))
