-- What a fill has taken after each turn, and what it leaves in memory.
use Rattle.std.proofs.Common.{◌≡◌, ℕ, ◌+◌, ◌-◌, ◌<◌, ◌≤◌, IsTrue, List, [], ◌++◌, length, take, drop, set, get_or, position, Option, Some, None, is_some, true, refl, sym, ap, subst, ◌∙◌, append_assoc, length-append, length-drop, take-append-drop, inl, inr, arith}
use Rattle.std.proofs.lemmas.Bool.{cases_lt}
use Rattle.std.proofs.lemmas.List.{append-nil, drop-drop, length-take-le, nil_from_length, set-get_or, take_all, drop_all}
use Rattle.std.proofs.lemmas.List.Elements.{All-nil, All-take, All-from_get_or}
use Rattle.std.proofs.Math.Seq.{drop-append_seam, take-append_seam}
use Rattle.fsc_outside.specs.Streams.{Takes, AtEnd}
use Rattle.guest_mem.specs.declared.right.Right.TheVariants.{Write}
use Rattle.guest_mem.specs.Regions.{Region}
use Rattle.guest_mem.specs.Layout.{AreBytes}
use Rattle.guest_mem.specs.Guest.{part, with_part, with_bytes, covers}
use Rattle.guest_mem.specs.Filling.{TakesUpTo, TakesFront, TakesBy, over_front, front_over, with_front, FillsRegion, Fills}
use Rattle.guest_mem.specs.declared.streams.Filled.{Filled}
use Rattle.guest_mem.specs.declared.streams.Filled.TheVariants.{Read}
use Rattle.guest_mem.proofs.Places.{serves, Within, within_place, bytes_at-nothing, bytes_at-place, bytes_at-no_place, with_bytes-nothing, with_bytes-place}

-- ---- the input

pub takes_nothing : (told : Option (List ℕ)) → Takes told told []
takes_nothing None = tt
takes_nothing (Some left) = (left, refl, refl)

pub takes_then : (old now new : Option (List ℕ)) (front bytes : List ℕ) → Takes old now front → Takes now new bytes → Takes old new (front ++ bytes)
takes_then None now new front bytes first then = tt
takes_then (Some left) now new front bytes first then =
    let more : Takes (Some first.0) new bytes = subst (λ (told : Option (List ℕ)). Takes told new bytes) first.2 then in
    (more.0, first.1 ∙ ap (λ (rest : List ℕ). front ++ rest) more.1 ∙ sym (append_assoc front bytes more.0), more.2)

pub takes_no_more : (old now new : Option (List ℕ)) (front : List ℕ) → Takes old now front → Takes now new [] → Takes old new front
takes_no_more old now new front first then =
    subst (λ (bytes : List ℕ). Takes old new bytes) (append-nil front) (takes_then old now new front [] first then)

-- what was taken is a front of what was left
pub takes_front : (old new : Option (List ℕ)) (bytes : List ℕ) → Takes old new bytes → TakesFront bytes old new
takes_front None new bytes h = tt
takes_front (Some left) new bytes h =
    let front : bytes ≡ take (length bytes) left = rw (h.1, take-append_seam bytes h.0) refl in
    let rest : drop (length bytes) left ≡ h.0 = rw (h.1, drop-append_seam bytes h.0) refl in
    (front, h.2 ∙ ap (λ (r : List ℕ). Some r) (sym rest))

-- a fill that has no room for more
pub takes_all : (old new : Option (List ℕ)) (bytes : List ℕ) (n : ℕ) → length bytes ≡ n → Takes old new bytes → TakesUpTo n old new bytes
takes_all None new bytes n long h = omega arith
takes_all (Some left) new bytes n long h = rw (← long) (takes_front (Some left) new bytes h)

-- a fill at the end of the input
pub takes_rest : (old now new : Option (List ℕ)) (bytes : List ℕ) (n : ℕ) → length bytes ≤ n → Takes old now bytes → AtEnd now → Takes now new [] → TakesUpTo n old new bytes
takes_rest None now new bytes n few first end then = few
takes_rest (Some left) now new bytes n few first end then =
    let ended : first.0 ≡ [] = subst AtEnd first.2 end in
    let more : Takes (Some first.0) new [] = subst (λ (told : Option (List ℕ)). Takes told new []) first.2 then in
    let whole : left ≡ bytes = first.1 ∙ ap (λ (rest : List ℕ). bytes ++ rest) ended ∙ append-nil bytes in
    let nothing : new ≡ Some [] = more.2 ∙ ap (λ (rest : List ℕ). Some rest) (sym more.1 ∙ ended) in
    let all : take n left ≡ left = take_all n left (omega (arith, ap length whole)) in
    let none : drop n left ≡ [] = drop_all n left (omega (arith, ap length whole)) in
    (sym (all ∙ whole), nothing ∙ ap (λ (rest : List ℕ). Some rest) (sym none))

-- a front of bytes is bytes
pub taken_bytes : (target : List ℕ) (n : ℕ) → ((i : ℕ) → get_or target i 0 < 256) → AreBytes (take n target)
taken_bytes target n h =
    let byte : ℕ → Type 0 = λ b. b < 256 in
    All-take byte n target (All-from_get_or byte target 0 (λ i below. h i))

-- ---- memory

pub length-over_front : (bytes all : List ℕ) → length bytes ≤ length all → length (over_front bytes all) ≡ length all
length-over_front bytes all few = length-append bytes (drop (length bytes) all) ∙ omega (arith, length-drop (length bytes) all)

pub length-part : (region : Region) (at n : ℕ) → Within region at n → length (part region at n) ≡ n
length-part region at n within = length-take-le n (drop (at - region.address) region.bytes) (omega (arith, length-drop (at - region.address) region.bytes, within.0, within.1))

-- the first region that has the n bytes and may be written begins with the bytes there now
pub with_front-place : (regions : List Region) (at n place : ℕ) (bytes : List ℕ) (d : Region) → position (serves Write at n) regions ≡ Some place → length bytes ≤ n
    → with_front regions at n bytes ≡ Some (set regions place (with_part (get_or regions place d) at (over_front bytes (part (get_or regions place d) at n))))
with_front-place regions at n place bytes d is few =
    let region = get_or regions place d in
    let whole : length (part region at n) ≡ n = length-part region at n (within_place regions Write at n place d is) in
    let long : length (over_front bytes (part region at n)) ≡ n = length-over_front bytes (part region at n) (omega arith) ∙ whole in
    let there : position (serves Write at (length (over_front bytes (part region at n)))) regions ≡ Some place = rw long is in
    ap (front_over regions at bytes) (bytes_at-place regions Write at n place d is) ∙ with_bytes-place regions at place (over_front bytes (part region at n)) d there

pub fills_place : (regions : List Region) (at n place : ℕ) (d new : Region) (answer : Filled) (before after : Option (List ℕ)) → position (serves Write at n) regions ≡ Some place
    → FillsRegion answer (get_or regions place d) new at n before after → Fills answer regions (set regions place new) at n before after
fills_place regions at n place d new answer before after is fills =
    (fills.0, fills.1, with_front-place regions at n place fills.0 d is fills.1 ∙ ap (λ (r : Region). Some (set regions place r)) (sym fills.2), fills.3, fills.4)

-- where no region has the bytes, there are none
no_bytes : (regions : List Region) (at n : ℕ) → position (serves Write at n) regions ≡ None → IsTrue (covers regions Write at n) → n ≡ 0
no_bytes regions at n none covered =
    elim (cases_lt 0 n) [
      | inl some ↦ absurd (let nowhere = bytes_at-no_place regions Write at n some none in let said : is_some {T = List ℕ} None ≡ true = rw nowhere at covered in cc)
      | inr le ↦ omega arith
    ]

-- no bytes of none are new
front_of_none : (regions : List Region) (at n : ℕ) → n ≡ 0 → with_front regions at n [] ≡ Some regions
front_of_none regions at n empty =
    ap (λ k. with_front regions at k []) empty ∙ ap (front_over regions at []) (bytes_at-nothing regions Write at) ∙ with_bytes-nothing regions at [] refl

pub fills_nothing : (regions : List Region) (at n : ℕ) (told : Option (List ℕ)) → position (serves Write at n) regions ≡ None → IsTrue (covers regions Write at n)
    → Fills (Read 0) regions regions at n told told
fills_nothing regions at n told none covered =
    let empty = no_bytes regions at n none covered in
    ([], omega arith, front_of_none regions at n empty, (refl, takes_all told told [] n (sym empty) (takes_nothing told)), All-nil (λ byte. byte < 256))

-- ---- what the word says in the plain cases

pub nowhere : Region
nowhere = record { address = 0; flags = 0; bytes = [] }

-- whatever is the same for each region that has the bytes, and without any bytes, is the same
pub by_place : (regions : List Region) (at n : ℕ) (left right : Option (List Region)) → IsTrue (covers regions Write at n)
    → ((place : ℕ) → position (serves Write at n) regions ≡ Some place → left ≡ right) → (n ≡ 0 → left ≡ right) → left ≡ right
by_place regions at n left right covered some none =
    elim (position (serves Write at n) regions) as (λ found. position (serves Write at n) regions ≡ found → left ≡ right) [
      | Some place ↦ λ is. some place is
      | None ↦ λ is. none (no_bytes regions at n is covered)
    ] refl

over_front_all : (bytes all : List ℕ) → length all ≡ length bytes → over_front bytes all ≡ bytes
over_front_all bytes all same = ap (λ (l : List ℕ). bytes ++ l) (drop_all (length bytes) all (omega arith)) ∙ append-nil bytes

-- a part with its own bytes in it is as it was
put_back : (region : Region) (at n : ℕ) → Within region at n → with_part region at (part region at n) ≡ region
put_back region at n within =
    let place = at - region.address in
    let all = region.bytes in
    let long = length-part region at n within in
    let rest : drop (place + length (part region at n)) all ≡ drop n (drop place all) = rw long (sym (drop-drop n place all)) in
    let behind : take n (drop place all) ++ drop (place + length (part region at n)) all ≡ drop place all =
    ap (λ (l : List ℕ). take n (drop place all) ++ l) rest ∙ take-append-drop n (drop place all) in
    ap (λ (l : List ℕ). record region { bytes = l }) (ap (λ (l : List ℕ). take place all ++ l) behind ∙ take-append-drop place all)

-- where all n bytes are new
pub with_front-all : (regions : List Region) (at n : ℕ) (bytes : List ℕ) → IsTrue (covers regions Write at n) → length bytes ≡ n
    → with_front regions at n bytes ≡ with_bytes regions at bytes
with_front-all regions at n bytes covered long =
    by_place regions at n _ _ covered
    (λ (place : ℕ) (is : position (serves Write at n) regions ≡ Some place).
    let region = get_or regions place nowhere in
    let whole = length-part region at n (within_place regions Write at n place nowhere is) in
    let there : position (serves Write at (length bytes)) regions ≡ Some place = rw long is in
    with_front-place regions at n place bytes nowhere is (omega arith) ∙ ap (λ (l : List ℕ). Some (set regions place (with_part region at l))) (over_front_all bytes (part region at n) (omega arith))
    ∙ sym (with_bytes-place regions at place bytes nowhere there))
    (λ (empty : n ≡ 0).
    let none : bytes ≡ [] = nil_from_length bytes (omega arith) in
    ap (with_front regions at n) none ∙ front_of_none regions at n empty ∙ sym (with_bytes-nothing regions at bytes (omega arith)))

-- where none is
pub with_front-nothing : (regions : List Region) (at n : ℕ) → IsTrue (covers regions Write at n) → with_front regions at n [] ≡ Some regions
with_front-nothing regions at n covered =
    by_place regions at n _ _ covered
    (λ (place : ℕ) (is : position (serves Write at n) regions ≡ Some place).
    let region = get_or regions place nowhere in
    let same = put_back region at n (within_place regions Write at n place nowhere is) in
    with_front-place regions at n place [] nowhere is (omega arith) ∙ ap (λ (r : Region). Some (set regions place r)) same ∙ ap (λ (rs : List Region). Some rs) (set-get_or regions place nowhere))
    (λ (empty : n ≡ 0). front_of_none regions at n empty)
