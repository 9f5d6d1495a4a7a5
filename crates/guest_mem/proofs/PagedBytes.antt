-- The bytes of a region by its pages: what a page holds of them, and what they are after pages were made or bytes put.
use Rattle.std.proofs.Common.{◌≡◌, ℕ, ◌+◌, ◌-◌, ◌*◌, ◌/◌, ◌%◌, ◌^◌, ◌<◌, ◌≤◌, ◌⊎◌, inl, inr, eqb, leb, Bool, true, false, List, [], ◌∷◌, ◌++◌, length, take, drop, map, get_or, replicate, zero, suc, refl, sym, ap, subst, ◌∙◌, arith}
use Rattle.std.specs.Prelude.{IsTrue, ◌==◌, nat_le, ◌&&◌}
use Rattle.std.specs.List.{range_with_len}
use Rattle.std.proofs.lemmas.Bool.{cases_lt}
use Rattle.std.proofs.lemmas.List.{same_lists, length-take, length-drop, length-take-le, length-replicate, get_or-take, get_or-drop, get_or-replicate, get_or_past, take-replicate}
use Rattle.std.proofs.lemmas.List.FromFn.{length-map-range_with_len, get_or-map-range_with_len}
use Rattle.std.proofs.lemmas.Grind.{same_number_lists}
use Rattle.guest_mem.specs.declared.right.Right.{Right}
use Rattle.guest_mem.specs.Rights.{flag_of}
use Rattle.guest_mem.specs.Regions.{Region, Paged, paged_of}
use Rattle.guest_mem.specs.Guest.{contains, part, with_part, overwritten, little_endian, blank_region}
use Rattle.guest_mem.specs.Ready.{HasPage, StaysMade}
use Rattle.guest_mem.specs.Pages.{page_at, byte_at, is_made, zeros, blanks, bytes_from, made_from, Keeps, Writes, AreMade}
use Rattle.guest_mem.proofs.Parts.{length-overwritten, get_or-overwritten, get_or-overwritten_in}
use Rattle.guest_mem.proofs.Pages.{length-zeros, get_or-zeros, length-blanks, byte_at-blanks, page_at-same}

-- ---- lists of places

pub length-bytes_from : (tables : List (List (List ℕ))) (place n : ℕ) → length (bytes_from tables place n) ≡ n
unfolding bytes_from
length-bytes_from tables place n = length-map-range_with_len (byte_at tables) place n

pub get_or-bytes_from : (tables : List (List (List ℕ))) (place n k d : ℕ) → k < n → get_or (bytes_from tables place n) k d ≡ byte_at tables (place + k)
unfolding bytes_from
get_or-bytes_from tables place n k d lt = get_or-map-range_with_len (byte_at tables) place n k (place + k) d lt refl

length-made_from : (tables : List (List (List ℕ))) (place n : ℕ) → length (made_from tables place n) ≡ n
unfolding made_from
length-made_from tables place n = length-map-range_with_len (is_made tables) place n

get_or-made_from : (tables : List (List (List ℕ))) (place n k : ℕ) (d : Bool) → k < n → get_or (made_from tables place n) k d ≡ is_made tables (place + k)
unfolding made_from
get_or-made_from tables place n k d lt = get_or-map-range_with_len (is_made tables) place n k (place + k) d lt refl

same_bytes : (old new : List (List (List ℕ))) (place n : ℕ) → ((other : ℕ) → byte_at new other ≡ byte_at old other) → bytes_from new place n ≡ bytes_from old place n
same_bytes old new place n same =
    same_number_lists (bytes_from new place n) (bytes_from old place n) (length-bytes_from new place n ∙ sym (length-bytes_from old place n))
    (λ (k : ℕ) (lt : k < length (bytes_from new place n)).
    let inside : k < n = omega (arith, length-bytes_from new place n) in
    get_or-bytes_from new place n k 0 inside ∙ same (place + k) ∙ sym (get_or-bytes_from old place n k 0 inside))

same_made : (old new : List (List (List ℕ))) (place n : ℕ) → ((other : ℕ) → is_made new other ≡ is_made old other) → made_from new place n ≡ made_from old place n
same_made old new place n same =
    same_lists (made_from new place n) (made_from old place n) (length-made_from new place n ∙ sym (length-made_from old place n))
    (λ (k : ℕ) (d : Bool) (lt : k < length (made_from new place n)).
    let inside : k < n = omega (arith, length-made_from new place n) in
    get_or-made_from new place n k d inside ∙ same (place + k) ∙ sym (get_or-made_from old place n k d inside))

written_bytes : (old new : List (List (List ℕ))) (lead size i : ℕ) (bytes : List ℕ) → i + length bytes ≤ size → Writes old new (lead + i) bytes
    → bytes_from new lead size ≡ overwritten (bytes_from old lead size) i bytes
written_bytes old new lead size i bytes within writes =
    let before = length-bytes_from old lead size in
    let fits : i + length bytes ≤ length (bytes_from old lead size) = omega arith in
    let long : length (overwritten (bytes_from old lead size) i bytes) ≡ size = length-overwritten (bytes_from old lead size) i bytes fits ∙ before in
    same_number_lists (bytes_from new lead size) (overwritten (bytes_from old lead size) i bytes) (length-bytes_from new lead size ∙ sym long)
    (λ (k : ℕ) (lt : k < length (bytes_from new lead size)).
    let inside : k < size = omega (arith, length-bytes_from new lead size) in
    let beside : (k < i) ⊎ (i + length bytes ≤ k) → byte_at new (lead + k) ≡ get_or (overwritten (bytes_from old lead size) i bytes) k 0 =
    λ (apart : (k < i) ⊎ (i + length bytes ≤ k)).
    let away : (lead + k < lead + i) ⊎ (lead + i + length bytes ≤ lead + k) = elim apart [ inl below ↦ inl (omega arith) | inr above ↦ inr (omega arith) ] in
    writes.others (lead + k) away ∙ sym (get_or-bytes_from old lead size k 0 inside) ∙ sym (get_or-overwritten (bytes_from old lead size) i bytes k 0 fits apart) in
    get_or-bytes_from new lead size k 0 inside
    ∙ elim (cases_lt k i) [
      | inl below ↦ beside (inl below)
      | inr from ↦ elim (cases_lt k (i + length bytes)) [
        | inl in' ↦
            let there : lead + k ≡ lead + i + (k - i) = omega arith in
            let here : i + (k - i) ≡ k = omega arith in
            ap (byte_at new) there ∙ writes.written (k - i) (omega arith)
            ∙ sym (get_or-overwritten_in (bytes_from old lead size) i bytes (k - i) 0 fits (omega arith))
            ∙ ap (λ (m : ℕ). get_or (overwritten (bytes_from old lead size) i bytes) m 0) here
        | inr above ↦ beside (inr above)
      ]
    ])

-- ---- where a region's bytes stand

-- n bytes from an address on lie in a region, and its directory has room for all of it
pub record Inside (address size : ℕ) (tables : List (List (List ℕ))) (at n : ℕ) : Type 0 where
  pub from : address ≤ at
  pub to : at + n ≤ address + size
  pub span : address % 4096 + size ≤ 4194304 * length tables
  pub end : address + size ≤ 2 ^ 32

pub inside_of : (address flags size : ℕ) (tables : List (List (List ℕ))) (now : Paged) (at n : ℕ) → paged_of address flags size tables ≡ now → now.region.address ≤ at
    → at + n ≤ now.region.address + length now.region.bytes → (address + size ≤ 2 ^ 32) × (address % 4096 + size ≤ 4194304 * length tables) → Inside address size tables at n
inside_of address flags size tables now at n is from to span =
    let begins : now.region.address ≡ address = ap (λ (p : Paged). p.region.address) (sym is) in
    let long : length now.region.bytes ≡ size = ap (λ (p : Paged). length p.region.bytes) (sym is) ∙ length-bytes_from tables (address % 4096) size in
    record { from = omega arith; to = omega arith; span = span.1; end = span.0 }

pub in_table : (address size : ℕ) (tables : List (List (List ℕ))) (at n place : ℕ) → Inside address size tables at n → 0 < n → place ≡ address % 4096 + (at - address)
    → place / 4194304 < length tables
in_table address size tables at n place h some is = let from = h.from in let to = h.to in let span = h.span in omega arith

pub in_tables : (address size : ℕ) (tables : List (List (List ℕ))) (at n place : ℕ) → Inside address size tables at n → place ≡ address % 4096 + (at - address)
    → place + n ≤ 4194304 * length tables
in_tables address size tables at n place h is = let from = h.from in let to = h.to in let span = h.span in omega arith

pub in_range : (address size : ℕ) (tables : List (List (List ℕ))) (at n place : ℕ) → Inside address size tables at n → place ≡ address % 4096 + (at - address)
    → place + n < 2 ^ 63
in_range address size tables at n place h is = let from = h.from in let to = h.to in let end = h.end in omega arith

pub contains_paged : (address flags size : ℕ) (tables : List (List (List ℕ))) (now : Paged) (right : Right) (at n : ℕ) → paged_of address flags size tables ≡ now
    → ((flags / flag_of right % 2 == 1) && (nat_le address at && nat_le (at + n) (address + size))) ≡ contains now.region right at n
contains_paged address flags size tables now right at n is =
    ap (λ (m : ℕ). (flags / flag_of right % 2 == 1) && (nat_le address at && nat_le (at + n) (address + m))) (sym (length-bytes_from tables (address % 4096) size))
    ∙ ap (λ (p : Paged). contains p.region right at n) is

-- ---- what a page holds of them

held : (tables : List (List (List ℕ))) (place k : ℕ) (page : List ℕ) → page_at tables place ≡ page → place % 4096 + k < 4096
    → byte_at tables (place + k) ≡ get_or page (place % 4096 + k) 0
unfolding byte_at
held tables place k page is fits =
    let same : (place + k) / 4096 ≡ place / 4096 = omega arith in
    let offset : (place + k) % 4096 ≡ place % 4096 + k = omega arith in
    ap (λ (i : ℕ). get_or (page_at tables (place + k)) i 0) offset ∙ ap (λ (l : List ℕ). get_or l (place % 4096 + k) 0) (page_at-same tables (place + k) place same ∙ is)

taken : (tables : List (List (List ℕ))) (lead size i n : ℕ) (page : List ℕ) → i + n ≤ size → page_at tables (lead + i) ≡ page → (lead + i) % 4096 + n ≤ 4096
    → (k : ℕ) → k < n → get_or (take n (drop i (bytes_from tables lead size))) k 0 ≡ get_or page ((lead + i) % 4096 + k) 0
taken tables lead size i n page within is fits k lt =
    get_or-take n (drop i (bytes_from tables lead size)) k 0 lt
    ∙ get_or-drop i (bytes_from tables lead size) k 0
    ∙ get_or-bytes_from tables lead size (i + k) 0 (omega arith)
    ∙ ap (byte_at tables) (let e : lead + (i + k) ≡ lead + i + k = omega arith in e)
    ∙ held tables (lead + i) k page is (omega arith)

length-taken : (tables : List (List (List ℕ))) (lead size i n : ℕ) → i + n ≤ size → length (take n (drop i (bytes_from tables lead size))) ≡ n
length-taken tables lead size i n within =
    length-take-le n (drop i (bytes_from tables lead size)) (omega (arith, length-drop i (bytes_from tables lead size), length-bytes_from tables lead size))

pub part_of_page : (address flags size : ℕ) (tables : List (List (List ℕ))) (at n place : ℕ) (page : List ℕ) → Inside address size tables at n
    → place ≡ address % 4096 + (at - address) → page ≡ page_at tables place → length page ≡ 4096 → place % 4096 + n ≤ 4096
    → take n (drop (place % 4096) page) ≡ part (paged_of address flags size tables).region at n
part_of_page address flags size tables at n place page h there is whole fits =
    let from = h.from in
    let to = h.to in
    let lead = address % 4096 in
    let i = at - address in
    let read : page_at tables (lead + i) ≡ page = ap (page_at tables) (sym there) ∙ sym is in
    let offset : (lead + i) % 4096 ≡ place % 4096 = ap (λ (m : ℕ). m % 4096) (sym there) in
    let long : length (take n (drop (place % 4096) page)) ≡ n = length-take-le n (drop (place % 4096) page) (omega (arith, length-drop (place % 4096) page)) in
    same_number_lists (take n (drop (place % 4096) page)) (take n (drop i (bytes_from tables lead size))) (long ∙ sym (length-taken tables lead size i n (omega arith)))
    (λ (k : ℕ) (lt : k < length (take n (drop (place % 4096) page))).
    let inside : k < n = omega arith in
    get_or-take n (drop (place % 4096) page) k 0 inside ∙ get_or-drop (place % 4096) page k 0
    ∙ ap (λ (m : ℕ). get_or page (m + k) 0) (sym offset)
    ∙ sym (taken tables lead size i n page (omega arith) read (omega arith) k inside))

pub part_of_none : (address flags size : ℕ) (tables : List (List (List ℕ))) (at n place : ℕ) (page : List ℕ) → Inside address size tables at n
    → place ≡ address % 4096 + (at - address) → page ≡ page_at tables place → length page ≡ 0 → place % 4096 + n ≤ 4096
    → part (paged_of address flags size tables).region at n ≡ zeros n
part_of_none address flags size tables at n place page h there is none fits =
    let from = h.from in
    let to = h.to in
    let lead = address % 4096 in
    let i = at - address in
    let read : page_at tables (lead + i) ≡ page = ap (page_at tables) (sym there) ∙ sym is in
    let offset : (lead + i) % 4096 ≡ place % 4096 = ap (λ (m : ℕ). m % 4096) (sym there) in
    let long = length-taken tables lead size i n (omega arith) in
    same_number_lists (take n (drop i (bytes_from tables lead size))) (zeros n) (long ∙ sym (length-zeros n))
    (λ (k : ℕ) (lt : k < length (take n (drop i (bytes_from tables lead size)))).
    taken tables lead size i n page (omega arith) read (omega arith) k (omega arith) ∙ get_or_past page ((lead + i) % 4096 + k) 0 (omega arith) ∙ sym (get_or-zeros n k))

pub little_endian-zeros : (n : ℕ) → little_endian (zeros n) ≡ 0
unfolding zeros
little_endian-zeros zero = refl
little_endian-zeros (suc n) = omega (arith, little_endian-zeros n)

-- ---- what changes

pub blank_paged : (address flags size n : ℕ) → (paged_of address flags size (blanks n)).region ≡ blank_region address flags size
blank_paged address flags size n =
    let bytes : bytes_from (blanks n) (address % 4096) size ≡ replicate size 0 =
    same_number_lists (bytes_from (blanks n) (address % 4096) size) (replicate size 0) (length-bytes_from (blanks n) (address % 4096) size ∙ sym (length-replicate size 0))
    (λ (k : ℕ) (lt : k < length (bytes_from (blanks n) (address % 4096) size)).
    let inside : k < size = omega (arith, length-bytes_from (blanks n) (address % 4096) size) in
    get_or-bytes_from (blanks n) (address % 4096) size k 0 inside ∙ byte_at-blanks n (address % 4096 + k) ∙ sym (get_or-replicate size k 0 0 inside)) in
    ap (λ (l : List ℕ). let r : Region = record { address = address; flags = flags; bytes = l } in r) bytes

pub region_keeps : (address flags size : ℕ) (old new : List (List (List ℕ))) → Keeps old new → (paged_of address flags size new).region ≡ (paged_of address flags size old).region
region_keeps address flags size old new kept =
    ap (λ (l : List ℕ). let r : Region = record { address = address; flags = flags; bytes = l } in r) (same_bytes old new (address % 4096) size kept.bytes)

pub region_writes : (address flags size : ℕ) (old new : List (List (List ℕ))) (at place : ℕ) (bytes : List ℕ) → Inside address size old at (length bytes)
    → place ≡ address % 4096 + (at - address) → Writes old new place bytes
    → (paged_of address flags size new).region ≡ with_part (paged_of address flags size old).region at bytes
region_writes address flags size old new at place bytes h there writes =
    let from = h.from in
    let to = h.to in
    let w : Writes old new (address % 4096 + (at - address)) bytes = subst (λ (m : ℕ). Writes old new m bytes) there writes in
    ap (λ (l : List ℕ). let r : Region = record { address = address; flags = flags; bytes = l } in r) (written_bytes old new (address % 4096) size (at - address) bytes (omega arith) w)

pub made_writes : (address flags size : ℕ) (old new : List (List (List ℕ))) (place : ℕ) (bytes : List ℕ) → Writes old new place bytes
    → (paged_of address flags size new).made ≡ (paged_of address flags size old).made
made_writes address flags size old new place bytes writes = same_made old new (address % 4096) size writes.made

pub stays_kept : (address flags size : ℕ) (old new : List (List (List ℕ))) → Keeps old new → StaysMade (paged_of address flags size old) (paged_of address flags size new)
stays_kept address flags size old new kept i was =
    let lead = address % 4096 in
    elim (cases_lt i size) [
      | inl lt ↦
          subst IsTrue (sym (get_or-made_from new lead size i false lt)) (kept.made (lead + i) (subst IsTrue (get_or-made_from old lead size i false lt) was))
      | inr past ↦
          let none : get_or (made_from old lead size) i false ≡ false = get_or_past (made_from old lead size) i false (omega (arith, length-made_from old lead size)) in
          let not' : IsTrue false = subst IsTrue none was in absurd (cc)
    ]

pub has_page_of : (address flags size : ℕ) (tables : List (List (List ℕ))) (at n place k : ℕ) → Inside address size tables at n → place ≡ address % 4096 + (at - address) → k < n
    → IsTrue (is_made tables (place + k)) → HasPage (paged_of address flags size tables) (at + k)
has_page_of address flags size tables at n place k h there lt made =
    let from = h.from in
    let to = h.to in
    let i : place + k ≡ address % 4096 + (at + k - address) = omega arith in
    subst IsTrue (ap (is_made tables) i ∙ sym (get_or-made_from tables (address % 4096) size (at + k - address) false (omega arith))) made

pub page_of_has : (address flags size : ℕ) (tables : List (List (List ℕ))) (at n place k : ℕ) → Inside address size tables at n → place ≡ address % 4096 + (at - address) → k < n
    → HasPage (paged_of address flags size tables) (at + k) → IsTrue (is_made tables (place + k))
page_of_has address flags size tables at n place k h there lt has =
    let from = h.from in
    let to = h.to in
    let i : address % 4096 + (at + k - address) ≡ place + k = omega arith in
    subst IsTrue (get_or-made_from tables (address % 4096) size (at + k - address) false (omega arith) ∙ ap (is_made tables) i) has

pub take-zeros : (m n : ℕ) → m ≤ n → take m (zeros n) ≡ zeros m
unfolding zeros
take-zeros m n le = take-replicate m n 0 le

pub narrower : (address size : ℕ) (tables : List (List (List ℕ))) (at n m : ℕ) → Inside address size tables at n → m ≤ n → Inside address size tables at m
narrower address size tables at n m h le = let to = h.to in record { from = h.from; to = omega arith; span = h.span; end = h.end }

pub wider : (address size : ℕ) (old new : List (List (List ℕ))) (at n : ℕ) → Inside address size old at n → length new ≡ length old → Inside address size new at n
wider address size old new at n h long = let span = h.span in record { from = h.from; to = h.to; span = omega arith; end = h.end }
