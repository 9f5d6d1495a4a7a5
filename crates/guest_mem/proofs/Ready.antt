-- Memory by pages: an access finds the same region as without them, and what is ready for stores stays so.
use Rattle.std.proofs.Common.{◌≡◌, ◌≢◌, ℕ, zero, suc, ◌+◌, ◌-◌, ◌<◌, ◌≤◌, ◌⊎◌, inl, inr, Bool, true, false, cond, ltb, leb, not, List, [], ◌∷◌, length, map, set, get_or, position, Option, Some, None, is_some, refl, sym, ap, subst, ◌∙◌, arith}
use Rattle.std.specs.Prelude.{IsTrue, is_ok, All, ◌/◌, ◌%◌, ◌==◌, nat_le, ◌&&◌}
use Rattle.std.specs.List.{position_or_len}
use Rattle.std.proofs.lemmas.Bool.{cases_eq, cases_lt, cases_Bool, lt-ltb}
use Rattle.std.proofs.lemmas.Bool.Decides.{nat_tests}
use Rattle.std.proofs.lemmas.List.{length-map, map-set, get_or-map, get_or-set_same, get_or-set_other, get_or_default, length-set}
use Rattle.std.proofs.lemmas.List.Elements.{All-get_or, All-set, All-from_get_or}
use Rattle.std.proofs.lemmas.List.Quantifiers.{position-Some}
use Rattle.std.proofs.Math.Seq.{map-set_same}
use Rattle.guest_mem.specs.declared.right.Right.{Right}
use Rattle.guest_mem.specs.declared.right.Right.TheVariants.{Write}
use Rattle.guest_mem.specs.declared.streams.Filled.{Filled}
use Rattle.guest_mem.specs.Rights.{flag_of}
use Rattle.guest_mem.specs.Regions.{Region, Paged, regions_of}
use Rattle.guest_mem.specs.Guest.{contains, part, with_part, bytes_at, with_bytes, covers, memory_in}
use Rattle.guest_mem.specs.Layout.{Extent, extent_of, layout, Apart, AllApart}
use Rattle.guest_mem.specs.Filling.{FillsRegion, Fills, over_front}
use Rattle.guest_mem.specs.Ready.{HasPage, StaysMade, IsReady, StaysReady}
use Rattle.guest_mem.proofs.Places.{serves, Within, within_served, bytes_at-place, bytes_at-no_place, with_bytes-place, with_bytes-no_place}
use Rattle.guest_mem.proofs.Layouts.{layout-with_bytes, extent_of-with_part}
use Rattle.guest_mem.proofs.Filling.{fills_place, length-over_front, length-part}

-- whether the region of a paged one serves an access
abbrev pub serving : Right → (at n : ℕ) → Paged → Bool
serving right at n paged = contains paged.region right at n

-- ---- the region that an access finds

position_map : (p : Region → Bool) (memory : List Paged) → position_or_len p (regions_of memory) ≡ position_or_len (λ (paged : Paged). p paged.region) memory
position_map p [] = refl
position_map p (paged ∷ memory) = ap (λ (n : ℕ). cond (not (p paged.region)) (1 + n) 0) (position_map p memory)

pub position_regions : (memory : List Paged) (right : Right) (at n : ℕ) → position (serving right at n) memory ≡ position (serves right at n) (regions_of memory)
position_regions memory right at n =
    let same = position_map (serves right at n) memory in
    let long : length (regions_of memory) ≡ length memory = length-map memory (λ (paged : Paged). paged.region) in
    ap (λ (m : ℕ). cond (ltb m (length memory)) (Some m) None) (sym same)
    ∙ ap (λ (l : ℕ). cond (ltb (position_or_len (serves right at n) (regions_of memory)) l) (Some (position_or_len (serves right at n) (regions_of memory))) None) (sym long)

-- what is known of a region that was found and read
pub record Found (memory : List Paged) (right : Right) (at n place : ℕ) (paged : Paged) : Type 0 where
  pub inside : place < length memory
  pub has : contains paged.region right at n ≡ true
  pub within : Within paged.region at n
  pub first : position (serves right at n) (regions_of memory) ≡ Some place
  pub region : get_or (regions_of memory) place paged.region ≡ paged.region
  pub read : paged ≡ get_or memory place paged

pub found : (memory : List Paged) (right : Right) (at n place : ℕ) (paged : Paged) → position (serving right at n) memory ≡ Some place → paged ≡ get_or memory place paged
    → Found memory right at n place paged
found memory right at n place paged at' is =
    let first = position-Some (serving right at n) memory place paged at' in
    let serves' : contains paged.region right at n ≡ true = subst (λ (p : Paged). contains p.region right at n ≡ true) (sym is) first.1 in record {
      inside = first.0;
      has = serves';
      within = within_served paged.region right at n serves';
      first = sym (position_regions memory right at n) ∙ at';
      region = get_or-map (λ (p : Paged). p.region) memory place paged paged.region first.0 ∙ ap (λ (p : Paged). p.region) (sym is);
      read = is;
    }

pub found_at : (memory : List Paged) (right : Right) (at n place : ℕ) (d : Paged) → position (serving right at n) memory ≡ Some place
    → Found memory right at n place (get_or memory place d)
found_at memory right at n place d at' =
    let first = position-Some (serving right at n) memory place d at' in
    found memory right at n place (get_or memory place d) at' (get_or_default memory place d (get_or memory place d) first.0)

pub bytes_at-found : (memory : List Paged) (right : Right) (at n place : ℕ) (paged : Paged) → Found memory right at n place paged
    → bytes_at (regions_of memory) right at n ≡ Some (part paged.region at n)
bytes_at-found memory right at n place paged f =
    bytes_at-place (regions_of memory) right at n place paged.region f.first ∙ ap (λ (r : Region). Some (part r at n)) f.region

pub bytes_at-not_found : (memory : List Paged) (right : Right) (at n : ℕ) → 0 < n → position (serving right at n) memory ≡ None → bytes_at (regions_of memory) right at n ≡ None
bytes_at-not_found memory right at n some none = bytes_at-no_place (regions_of memory) right at n some (sym (position_regions memory right at n) ∙ none)

pub with_bytes-not_found : (memory : List Paged) (at : ℕ) (bytes : List ℕ) → 0 < length bytes → position (serving Write at (length bytes)) memory ≡ None
    → with_bytes (regions_of memory) at bytes ≡ None
with_bytes-not_found memory at bytes some none = with_bytes-no_place (regions_of memory) at bytes some (sym (position_regions memory Write at (length bytes)) ∙ none)

pub with_bytes-found : (memory : List Paged) (at place : ℕ) (bytes : List ℕ) (paged new : Paged) → Found memory Write at (length bytes) place paged
    → new.region ≡ with_part paged.region at bytes → with_bytes (regions_of memory) at bytes ≡ Some (regions_of (set memory place new))
with_bytes-found memory at place bytes paged new f put =
    with_bytes-place (regions_of memory) at place bytes paged.region f.first
    ∙ ap (λ (r : Region). Some (set (regions_of memory) place (with_part r at bytes))) f.region
    ∙ ap (λ (r : Region). Some (set (regions_of memory) place r)) (sym put)
    ∙ ap (λ (rs : List Region). Some rs) (sym (map-set (λ (p : Paged). p.region) memory place new))

pub regions_of-same : (memory : List Paged) (place : ℕ) (paged new : Paged) → paged ≡ get_or memory place paged → new.region ≡ paged.region
    → regions_of (set memory place new) ≡ regions_of memory
regions_of-same memory place paged new is same =
    map-set_same (λ (p : Paged). p.region) memory place new paged (same ∙ ap (λ (p : Paged). p.region) is)

pub covers_found : (memory : List Paged) (right : Right) (at n : ℕ) (place : Option ℕ) → 0 < n → position (serving right at n) memory ≡ place
    → is_some place ≡ covers (regions_of memory) right at n
covers_found memory right at n None some is = sym (ap is_some (bytes_at-not_found memory right at n some is))
covers_found memory right at n (Some place) some is =
    sym (ap is_some (bytes_at-place (regions_of memory) right at n place (record { address = 0; flags = 0; bytes = [] }) (sym (position_regions memory right at n) ∙ is)))

pub none_covered : (memory : List Paged) (at n : ℕ) (right : Right) → position (serving right at n) memory ≡ None → IsTrue (covers (regions_of memory) right at n) → n ≡ 0
none_covered memory at n right none covered =
    elim (cases_lt 0 n) [
      | inl some ↦ absurd (let no : false ≡ true = covers_found memory right at n None some none ∙ covered in cc)
      | inr le ↦ omega arith
    ]

pub may_change : (memory : List Paged) (at place : ℕ) (bytes : List ℕ) (paged : Paged) → Found memory Write at (length bytes) place paged
    → IsTrue (is_ok (memory_in (with_bytes (regions_of memory) at bytes)))
may_change memory at place bytes paged f = ap (λ (o : Option (List Region)). is_ok (memory_in o)) (with_bytes-place (regions_of memory) at place bytes paged.region f.first)

pub fills_found : (memory : List Paged) (at n place : ℕ) (paged new : Paged) (answer : Filled) (before after : Option (List ℕ)) → Found memory Write at n place paged
    → FillsRegion answer paged.region new.region at n before after → Fills answer (regions_of memory) (regions_of (set memory place new)) at n before after
fills_found memory at n place paged new answer before after f fills =
    subst (λ (rs : List Region). Fills answer (regions_of memory) rs at n before after) (sym (map-set (λ (p : Paged). p.region) memory place new))
    (fills_place (regions_of memory) at n place paged.region new.region answer before after f.first
    (subst (λ (r : Region). FillsRegion answer r new.region at n before after) (sym f.region) fills))

-- ---- where the regions lie

pub layout_set : (memory : List Paged) (place : ℕ) (paged new : Paged) → place < length memory → paged ≡ get_or memory place paged → extent_of new.region ≡ extent_of paged.region
    → layout (regions_of (set memory place new)) ≡ layout (regions_of memory)
layout_set memory place paged new inside is same =
    ap layout (map-set (λ (p : Paged). p.region) memory place new)
    ∙ map-set_same extent_of (regions_of memory) place new.region paged.region
    (same ∙ ap extent_of (sym (get_or-map (λ (p : Paged). p.region) memory place paged paged.region inside ∙ ap (λ (p : Paged). p.region) (sym is))))

pub extent_of-filled : (old new : Region) (at n : ℕ) (answer : Filled) (before after : Option (List ℕ)) → Within old at n → FillsRegion answer old new at n before after
    → extent_of new ≡ extent_of old
extent_of-filled old new at n answer before after within fills =
    let whole : length (part old at n) ≡ n = length-part old at n within in
    let long : length (over_front fills.0 (part old at n)) ≡ n = length-over_front fills.0 (part old at n) (omega (arith, fills.1)) ∙ whole in
    ap extent_of fills.2 ∙ extent_of-with_part old at (over_front fills.0 (part old at n)) (subst (λ (m : ℕ). Within old at m) (sym long) within)

-- whether a region serves an access depends on its extent
abbrev serves_extent : Extent → Right → (at n : ℕ) → Bool
serves_extent extent right at n =
    (extent.flags / flag_of right % 2 == 1) && (nat_le extent.address at && nat_le (at + n) (extent.address + extent.size))

contains_extent : (old new : Region) (right : Right) (at n : ℕ) → extent_of new ≡ extent_of old → contains new right at n ≡ contains old right at n
contains_extent old new right at n same = ap (λ (e : Extent). serves_extent e right at n) same

-- ---- what is ready

serves_one : (region : Region) (at n k : ℕ) → k < n → contains region Write at n ≡ true → contains region Write (at + k) 1 ≡ true
serves_one region at n k lt h = grind (arith, nat_tests)

pub nothing_ready : (memory : List Paged) (at n : ℕ) → n ≡ 0 → IsReady memory at n
nothing_ready memory at n none k lt = absurd (omega arith)

pub has_pages : (memory : List Paged) (at n place : ℕ) (paged : Paged) → Found memory Write at n place paged → IsReady memory at n
    → (k : ℕ) → k < n → HasPage paged (at + k)
has_pages memory at n place paged f ready k lt =
    let ready' : Paged → Type 0 = λ (p : Paged). IsTrue (contains p.region Write (at + k) 1) → HasPage p (at + k) in
    let here : ready' paged = subst ready' (sym f.read) (All-get_or ready' memory place paged f.inside (ready k lt)) in
    here (serves_one paged.region at n k lt f.has)

pub stays_ready : (memory : List Paged) (place : ℕ) (paged new : Paged) → place < length memory → paged ≡ get_or memory place paged
    → extent_of new.region ≡ extent_of paged.region → StaysMade paged new → StaysReady memory (set memory place new)
stays_ready memory place paged new inside is same made at n ready k lt =
    let ready' : Paged → Type 0 = λ (p : Paged). IsTrue (contains p.region Write (at + k) 1) → HasPage p (at + k) in
    let before : ready' paged = subst ready' (sym is) (All-get_or ready' memory place paged inside (ready k lt)) in
    let address : new.region.address ≡ paged.region.address = ap (λ (e : Extent). e.address) same in
    let here : ready' new = λ (serves : IsTrue (contains new.region Write (at + k) 1)).
    let was : IsTrue (contains paged.region Write (at + k) 1) = subst IsTrue (contains_extent paged.region new.region Write (at + k) 1 same) serves in
    subst (λ (a : ℕ). IsTrue (get_or new.made (at + k - a) false)) (sym address) (made (at + k - paged.region.address) (before was)) in
    All-set ready' memory place new here (ready k lt)

apart_any : (regions : List Region) (i j : ℕ) (d : Region) → AllApart regions → i < length regions → j < length regions → (i ≡ j → ⊥)
    → Apart (get_or regions i d) (get_or regions j d)
apart_any [] i j d apart in_i in_j differs = absurd (omega arith)
apart_any (region ∷ regions) zero zero d apart in_i in_j differs = absurd (differs refl)
apart_any (region ∷ regions) zero (suc j) d apart in_i in_j differs = apart.0 j d (omega arith)
apart_any (region ∷ regions) (suc i) zero d apart in_i in_j differs =
    elim (apart.0 i d (omega arith)) [ inl before ↦ inr before | inr behind ↦ inl behind ]
apart_any (region ∷ regions) (suc i) (suc j) d apart in_i in_j differs =
    apart_any regions i j d apart.1 (omega arith) (omega arith) (λ same. differs (ap suc same))

same_default : (memory : List Paged) (i : ℕ) (d : Paged) → i < length memory → get_or memory i d ≡ get_or memory i (get_or memory i d)
same_default memory i d inside = get_or_default memory i d (get_or memory i d) inside

-- no other region has one of these bytes
alone : (memory : List Paged) (at n place i k : ℕ) (paged other : Paged) → AllApart (regions_of memory) → Found memory Write at n place paged → i < length memory
    → other ≡ get_or memory i other → (i ≡ place → ⊥) → k < n → contains other.region Write (at + k) 1 ≡ true → ⊥
alone memory at n place i k paged other apart f inside is differs lt serves =
    let long : length (regions_of memory) ≡ length memory = length-map memory (λ (p : Paged). p.region) in
    let in_place = f.inside in
    let theirs : get_or (regions_of memory) i paged.region ≡ other.region =
    get_or-map (λ (p : Paged). p.region) memory i other paged.region inside ∙ ap (λ (p : Paged). p.region) (sym is) in
    let beside : Apart other.region paged.region =
    subst (λ (r : Region). Apart other.region r) f.region
    (subst (λ (r : Region). Apart r (get_or (regions_of memory) place paged.region)) theirs
    (apart_any (regions_of memory) i place paged.region apart (omega arith) (omega arith) differs)) in
    let here = f.within in
    let there = within_served other.region Write (at + k) 1 serves in
    elim beside [ inl before ↦ omega arith | inr behind ↦ omega arith ]

pub ready_found : (memory : List Paged) (at n place : ℕ) (paged new : Paged) → AllApart (regions_of memory) → Found memory Write at n place paged
    → ((k : ℕ) → k < n → HasPage new (at + k)) → IsReady (set memory place new) at n
ready_found memory at n place paged new apart f pages k lt =
    let ready' : Paged → Type 0 = λ (p : Paged). IsTrue (contains p.region Write (at + k) 1) → HasPage p (at + k) in
    All-from_get_or ready' (set memory place new) paged (λ (i : ℕ) (in_set : i < length (set memory place new)).
    let inside : i < length memory = omega (arith, length-set memory place new) in
    elim (cases_eq i place) [
      | inl here ↦
          let is : get_or (set memory place new) i paged ≡ new = ap (λ (m : ℕ). get_or (set memory place new) m paged) here ∙ get_or-set_same memory place new paged f.inside in
          subst ready' (sym is) (λ (serves : IsTrue (contains new.region Write (at + k) 1)). pages k lt)
      | inr away ↦
          let is : get_or (set memory place new) i paged ≡ get_or memory i paged = get_or-set_other memory place i new paged away in
          subst ready' (sym is) (λ (serves : IsTrue (contains (get_or memory i paged).region Write (at + k) 1)).
          absurd (alone memory at n place i k paged (get_or memory i paged) apart f inside (same_default memory i paged inside) away lt serves))
    ])

pub has_page_same : (old new : Paged) (a b : ℕ) → new.made ≡ old.made → new.region.address ≡ old.region.address → a ≡ b → HasPage old a → HasPage new b
has_page_same old new a b made address same has =
    subst (λ (l : List Bool). IsTrue (get_or l (b - new.region.address) false)) (sym made)
    (subst (λ (m : ℕ). IsTrue (get_or old.made (b - m) false)) (sym address) (subst (λ (m : ℕ). IsTrue (get_or old.made (m - old.region.address) false)) same has))

pub stays_same : (old new : Paged) → new.made ≡ old.made → StaysMade old new
stays_same old new made i was = subst (λ (l : List Bool). IsTrue (get_or l i false)) (sym made) was

pub stays_all : (memory : List Paged) → StaysReady memory memory
stays_all memory at n ready = ready

-- ---- looking from the last region on

first_of : (memory : List Paged) (right : Right) (at n i : ℕ) (d : Paged) → AllApart (regions_of memory) → 0 < n → i < length memory
    → contains (get_or memory i d).region right at n ≡ true → position_or_len (serving right at n) memory ≡ i
first_of [] right at n i d apart some inside has = absurd (omega arith)
first_of (paged ∷ memory) right at n zero d apart some inside has = rw has refl
first_of (paged ∷ memory) right at n (suc i) d apart some inside has =
    let behind' : i < length memory = omega arith in
    let long : length (regions_of memory) ≡ length memory = length-map memory (λ (p : Paged). p.region) in
    let beside : Apart paged.region (get_or memory i d).region =
    subst (λ (r : Region). Apart paged.region r) (get_or-map (λ (p : Paged). p.region) memory i d d.region behind') (apart.0 i d.region (omega arith)) in
    let there = within_served (get_or memory i d).region right at n has in
    let lacks : contains paged.region right at n ≡ false =
    elim (cases_Bool (contains paged.region right at n)) [
      | inl also ↦ absurd (let here = within_served paged.region right at n also in elim beside [ inl before ↦ omega arith | inr behind ↦ omega arith ])
      | inr lacks ↦ lacks
    ] in
    rw lacks (omega (arith, first_of memory right at n i d apart.1 some behind' has))

pub found_alone : (memory : List Paged) (right : Right) (at n i : ℕ) (d : Paged) → AllApart (regions_of memory) → 0 < n → i < length memory
    → contains (get_or memory i d).region right at n ≡ true → position (serving right at n) memory ≡ Some i
found_alone memory right at n i d apart some inside has =
    let first = first_of memory right at n i d apart some inside has in
    ap (λ (k : ℕ). cond (ltb k (length memory)) (Some k) None) first ∙ ap (λ (b : Bool). cond b (Some i) None) (lt-ltb i (length memory) inside)

none_of : (memory : List Paged) (right : Right) (at n : ℕ) (d : Paged) → ((k : ℕ) → k < length memory → contains (get_or memory k d).region right at n ≡ false)
    → position_or_len (serving right at n) memory ≡ length memory
none_of [] right at n d none = refl
none_of (paged ∷ memory) right at n d none =
    let lacks : contains paged.region right at n ≡ false = none 0 (omega arith) in
    rw lacks (omega (arith, none_of memory right at n d (λ (k : ℕ) (lt : k < length memory). none (suc k) (omega arith))))

pub not_found : (memory : List Paged) (right : Right) (at n : ℕ) (d : Paged) → ((k : ℕ) → k < length memory → contains (get_or memory k d).region right at n ≡ false)
    → position (serving right at n) memory ≡ None
not_found memory right at n d none =
    ap (λ (k : ℕ). cond (ltb k (length memory)) (Some k) None) (none_of memory right at n d none)
    ∙ (let same : ltb (length memory) (length memory) ≡ false = grind (arith, nat_tests) in ap (λ (b : Bool). cond b (Some (length memory)) None) same)
