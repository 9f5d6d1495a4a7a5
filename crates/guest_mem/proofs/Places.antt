-- The region that an access finds: the first that has all its bytes and gives the right.
use Rattle.std.proofs.Common.{◌≡◌, ℕ, zero, suc, ◌+◌, ◌<◌, ◌≤◌, Bool, true, false, cond, ltb, eqb, not, List, [], ◌∷◌, length, get_or, set, Option, Some, None, refl, arith, rules, inl, inr, add-zero, take-append-drop, sym, ap, ◌∙◌, subst}
use Rattle.std.specs.Prelude.{position, is_some}
use Rattle.std.specs.Option.{option_map}
use Rattle.std.specs.List.{position_or_len}
use Rattle.std.proofs.lemmas.Bool.{cases_lt, lt-ltb}
use Rattle.std.proofs.lemmas.Bool.Decides.{nat_tests}
use Rattle.std.proofs.lemmas.List.{nil_from_length}
use Rattle.std.proofs.lemmas.List.Quantifiers.{position-Some}
use Rattle.guest_mem.specs.declared.right.Right.{Right}
use Rattle.guest_mem.specs.declared.right.Right.TheVariants.{Write}
use Rattle.guest_mem.specs.Regions.{Region}
use Rattle.guest_mem.specs.Guest.{contains, overwritten, part, with_part, bytes_at, with_bytes, covers}

-- whether a region has the bytes and gives the right
abbrev pub serves : Right → (at n : ℕ) → Region → Bool
serves right at n region = contains region right at n

abbrev pub IsFirst : (p : Region → Bool) (regions : List Region) (i : ℕ) (d : Region) → Type 0
IsFirst p regions i d = (i < length regions) × (p (get_or regions i d) ≡ true) × ((k : ℕ) → k < i → p (get_or regions k d) ≡ false)

no_place : (k n : ℕ) → cond (ltb k n) (Some k) None ≡ None → n ≤ k
no_place k n h =
    elim (cases_lt k n) [
      | inl lt ↦ absurd (let e = lt-ltb k n lt in let said : ◌≡◌ {A = Option ℕ} (Some k) None = rw e at h in cc)
      | inr le ↦ le
    ]

first_read : (regions : List Region) (right : Right) (at n i : ℕ) (d : Region) → IsFirst (serves right at n) regions i d
    → bytes_at regions right at n ≡ Some (part (get_or regions i d) at n)
unfolding bytes_at
first_read [] right at n i d h = absurd (omega (arith, h.0))
first_read (region ∷ regions) right at n zero d h = rw h.1 refl
first_read (region ∷ regions) right at n (suc i) d h =
    rw (h.2 0 (omega arith), first_read regions right at n i d (omega arith, h.1, λ k lt. h.2 (suc k) (omega arith))) refl

none_read : (regions : List Region) (right : Right) (at n : ℕ) → 0 < n → length regions ≤ position_or_len (serves right at n) regions
    → bytes_at regions right at n ≡ None
unfolding bytes_at
none_read [] right at n some h = grind (arith, nat_tests)
none_read (region ∷ regions) right at n some h =
    elim (contains region right at n) as (λ b. suc (length regions) ≤ cond (not b) (1 + position_or_len (serves right at n) regions) 0
    → cond b (Some (part region at n)) (bytes_at regions right at n) ≡ None) [
      | true ↦ λ le. absurd (omega arith)
      | false ↦ λ le. none_read regions right at n some (omega arith)
    ] h

first_changes : (regions : List Region) (at i : ℕ) (bytes : List ℕ) (d : Region) → IsFirst (serves Write at (length bytes)) regions i d
    → with_bytes regions at bytes ≡ Some (set regions i (with_part (get_or regions i d) at bytes))
unfolding with_bytes
first_changes [] at i bytes d h = absurd (omega (arith, h.0))
first_changes (region ∷ regions) at zero bytes d h = rw h.1 refl
first_changes (region ∷ regions) at (suc i) bytes d h =
    rw (h.2 0 (omega arith), first_changes regions at i bytes d (omega arith, h.1, λ k lt. h.2 (suc k) (omega arith))) refl

none_changes : (regions : List Region) (at : ℕ) (bytes : List ℕ) → 0 < length bytes
    → length regions ≤ position_or_len (serves Write at (length bytes)) regions → with_bytes regions at bytes ≡ None
unfolding with_bytes
none_changes [] at bytes some h = grind (arith, nat_tests)
none_changes (region ∷ regions) at bytes some h =
    elim (contains region Write at (length bytes)) as (λ b. suc (length regions) ≤ cond (not b) (1 + position_or_len (serves Write at (length bytes)) regions) 0
    → cond b (Some (with_part region at bytes ∷ regions)) (option_map (λ (others : List Region). region ∷ others) (with_bytes regions at bytes)) ≡ None) [
      | true ↦ λ le. absurd (omega arith)
      | false ↦ λ le. rw (none_changes regions at bytes some (omega arith)) refl
    ] h

-- no bytes are anywhere
pub bytes_at-nothing : (regions : List Region) (right : Right) (at : ℕ) → bytes_at regions right at 0 ≡ Some []
unfolding bytes_at
bytes_at-nothing [] right at = refl
bytes_at-nothing (region ∷ regions) right at =
    elim (contains region right at 0) as (λ b. cond b (Some []) (bytes_at regions right at 0) ≡ Some []) [
      | true ↦ refl
      | false ↦ bytes_at-nothing regions right at
    ]

pub overwritten-nothing : (all : List ℕ) (place : ℕ) → overwritten all place [] ≡ all
overwritten-nothing all place = rw (add-zero, take-append-drop) refl

changes-nothing : (regions : List Region) (at : ℕ) → with_bytes regions at [] ≡ Some regions
unfolding with_bytes
changes-nothing [] at = refl
changes-nothing (region ∷ regions) at =
    elim (contains region Write at 0) as (λ b.
    cond b (Some (with_part region at [] ∷ regions)) (option_map (λ (others : List Region). region ∷ others) (with_bytes regions at [])) ≡ Some (region ∷ regions)) [
      | true ↦ rw overwritten-nothing refl
      | false ↦ rw (changes-nothing regions at) refl
    ]

pub with_bytes-nothing : (regions : List Region) (at : ℕ) (bytes : List ℕ) → length bytes ≡ 0 → with_bytes regions at bytes ≡ Some regions
with_bytes-nothing regions at bytes h = rw (nil_from_length bytes h) (changes-nothing regions at)

pub bytes_at-place : (regions : List Region) (right : Right) (at n place : ℕ) (d : Region) → position (serves right at n) regions ≡ Some place
    → bytes_at regions right at n ≡ Some (part (get_or regions place d) at n)
bytes_at-place regions right at n place d h = first_read regions right at n place d (position-Some (serves right at n) regions place d h)

pub bytes_at-no_place : (regions : List Region) (right : Right) (at n : ℕ) → 0 < n → position (serves right at n) regions ≡ None
    → bytes_at regions right at n ≡ None
bytes_at-no_place regions right at n some h = none_read regions right at n some (no_place _ _ h)

pub with_bytes-place : (regions : List Region) (at place : ℕ) (bytes : List ℕ) (d : Region) → position (serves Write at (length bytes)) regions ≡ Some place
    → with_bytes regions at bytes ≡ Some (set regions place (with_part (get_or regions place d) at bytes))
with_bytes-place regions at place bytes d h = first_changes regions at place bytes d (position-Some (serves Write at (length bytes)) regions place d h)

pub with_bytes-no_place : (regions : List Region) (at : ℕ) (bytes : List ℕ) → 0 < length bytes → position (serves Write at (length bytes)) regions ≡ None
    → with_bytes regions at bytes ≡ None
with_bytes-no_place regions at bytes some h = none_changes regions at bytes some (no_place _ _ h)

-- a region that serves an access has its bytes
abbrev pub Within : Region → (at n : ℕ) → Type 0
Within region at n = (region.address ≤ at) × (at + n ≤ region.address + length region.bytes)

pub within_served : (region : Region) (right : Right) (at n : ℕ) → contains region right at n ≡ true → Within region at n
within_served region right at n h = search rules

pub within_place : (regions : List Region) (right : Right) (at n place : ℕ) (d : Region) → position (serves right at n) regions ≡ Some place
    → Within (get_or regions place d) at n
within_place regions right at n place d h = within_served (get_or regions place d) right at n (position-Some (serves right at n) regions place d h).1

-- the same of the region that was read there
pub within_read : (regions : List Region) (right : Right) (at n place : ℕ) (region : Region) → position (serves right at n) regions ≡ Some place
    → region ≡ get_or regions place region → Within region at n
within_read regions right at n place region h is = subst (λ (r : Region). Within r at n) (sym is) (within_place regions right at n place region h)

pub bytes_at-read : (regions : List Region) (right : Right) (at n place : ℕ) (region : Region) → position (serves right at n) regions ≡ Some place
    → region ≡ get_or regions place region → bytes_at regions right at n ≡ Some (part region at n)
bytes_at-read regions right at n place region h is =
    bytes_at-place regions right at n place region h ∙ ap (λ (r : Region). Some (part r at n)) (sym is)

is_some-map : {A B : Type 0} (f : A → B) (o : Option A) → is_some (option_map f o) ≡ is_some o
is_some-map f None = refl
is_some-map f (Some x) = refl

-- bytes can be put where as many may be written
pub covers-with_bytes : (regions : List Region) (at : ℕ) (bytes : List ℕ) → is_some (with_bytes regions at bytes) ≡ covers regions Write at (length bytes)
unfolding bytes_at with_bytes
covers-with_bytes [] at bytes = elim (eqb (length bytes) 0) as (λ b. is_some {T = List Region} (cond b (Some []) None) ≡ is_some {T = List ℕ} (cond b (Some []) None)) [ true ↦ refl | false ↦ refl ]
covers-with_bytes (region ∷ regions) at bytes =
    elim (contains region Write at (length bytes)) as (λ b.
    is_some (cond b (Some (with_part region at bytes ∷ regions)) (option_map (λ (others : List Region). region ∷ others) (with_bytes regions at bytes)))
    ≡ is_some (cond b (Some (part region at (length bytes))) (bytes_at regions Write at (length bytes)))) [
      | true ↦ refl
      | false ↦ is_some-map (λ (others : List Region). region ∷ others) (with_bytes regions at bytes) ∙ covers-with_bytes regions at bytes
    ]

pub not_covered : (regions : List Region) (at : ℕ) (bytes : List ℕ) → with_bytes regions at bytes ≡ None → covers regions Write at (length bytes) ≡ false
not_covered regions at bytes h = sym (covers-with_bytes regions at bytes) ∙ ap is_some h
