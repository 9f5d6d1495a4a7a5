-- Places in pages: which page has one, and what a new page or a changed one leaves at each place.
use Rattle.std.proofs.Common.{◌≡◌, ◌≢◌, ℕ, ◌+◌, ◌-◌, ◌*◌, ◌/◌, ◌%◌, ◌<◌, ◌≤◌, ◌⊎◌, inl, inr, eqb, not, Bool, true, false, cond, List, [], ◌++◌, length, take, drop, get_or, set, replicate, refl, sym, ap, subst, ◌∙◌, arith}
use Rattle.std.specs.Prelude.{IsTrue}
use Rattle.std.proofs.lemmas.Bool.{cases_lt, cases_eq}
use Rattle.std.proofs.lemmas.Bool.Decides.{nat_tests}
use Rattle.std.proofs.lemmas.List.{length-set, length-replicate, get_or-replicate, get_or_past, get_or-set_same, get_or-set_other, get_or_read, get_or_append_left, get_or-append_right, length-append}
use Rattle.guest_mem.specs.Guest.{overwritten}
use Rattle.guest_mem.specs.Pages.{page_at, byte_at, is_made, zeros, blanks, IsTable, IsPage, KeepsPage, KeepsTable, Keeps, Writes, IsDirectory}
use Rattle.guest_mem.proofs.Parts.{length-overwritten, get_or-overwritten, get_or-overwritten_in}

-- ---- what was not made

pub length-blanks : (X : Type 0) (n : ℕ) → length (blanks {X = X} n) ≡ n
unfolding blanks
length-blanks X n = length-replicate n []

pub get_or-blanks : (X : Type 0) (n k : ℕ) → get_or (blanks {X = X} n) k [] ≡ []
unfolding blanks
get_or-blanks X n k =
    elim (cases_lt k n) [
      | inl lt ↦ get_or-replicate n k [] [] lt
      | inr le ↦ get_or_past (replicate n []) k [] (rw length-replicate le)
    ]

pub length-zeros : (n : ℕ) → length (zeros n) ≡ n
unfolding zeros
length-zeros n = length-replicate n 0

pub get_or-zeros : (n k : ℕ) → get_or (zeros n) k 0 ≡ 0
unfolding zeros
get_or-zeros n k =
    elim (cases_lt k n) [
      | inl lt ↦ get_or-replicate n k 0 0 lt
      | inr le ↦ get_or_past (replicate n 0) k 0 (rw length-replicate le)
    ]

-- ---- one page that is made

pub same_page : (page : List ℕ) → KeepsPage page page
same_page page = record { bytes = λ offset. refl; made = λ some. some; whole = λ whole. whole }

pub new_page : (page : List ℕ) → length page ≡ 0 → KeepsPage page (zeros 4096)
new_page page none = record {
  bytes = λ offset. get_or-zeros 4096 offset ∙ sym (get_or_past page offset 0 (omega arith));
  made = λ some. omega (arith, length-zeros 4096);
  whole = λ whole. inr (length-zeros 4096);
}

pub same_table : (old new : List (List ℕ)) → ((k : ℕ) → get_or new k [] ≡ get_or old k []) → IsTable new → KeepsTable old new
same_table old new same table = record {
  each = λ k. subst (λ (page : List ℕ). KeepsPage (get_or old k []) page) (sym (same k)) (same_page (get_or old k []));
  table = table;
}

set_table : (pages : List (List ℕ)) (index : ℕ) (page : List ℕ) → IsTable pages → IsTable (set pages index page)
set_table pages index page table = elim table [ inl none ↦ inl (length-set pages index page ∙ none) | inr all ↦ inr (length-set pages index page ∙ all) ]

-- one page of a table that is as it was, or was made with pages that were not
pub page_of_table : (old mid : List (List ℕ)) (index : ℕ) (was page : List ℕ) → ((k : ℕ) → get_or mid k [] ≡ get_or old k []) → IsTable mid → index < length mid
    → was ≡ get_or mid index was → KeepsPage was page → KeepsTable old (set mid index page)
page_of_table old mid index was page same table inside is kept =
    let read : was ≡ get_or old index [] = get_or_read mid index was inside is [] ∙ same index in record {
      each = λ k. elim (cases_eq k index) [
        | inl here ↦
            let there : get_or (set mid index page) k [] ≡ page = ap (λ (i : ℕ). get_or (set mid index page) i []) here ∙ get_or-set_same mid index page [] inside in
            let before : was ≡ get_or old k [] = read ∙ ap (λ (i : ℕ). get_or old i []) (sym here) in
            subst (λ (p : List ℕ). KeepsPage p (get_or (set mid index page) k [])) before (subst (λ (p : List ℕ). KeepsPage was p) (sym there) kept)
        | inr away ↦
            subst (λ (p : List ℕ). KeepsPage (get_or old k []) p) (sym (get_or-set_other mid index k page [] away ∙ same k)) (same_page (get_or old k []))
      ];
      table = set_table mid index page table;
    }

pub page_of_table-made : (mid : List (List ℕ)) (index : ℕ) (page : List ℕ) → index < length mid → 0 < length page → 0 < length (get_or (set mid index page) index [])
page_of_table-made mid index page inside some = rw (get_or-set_same mid index page [] inside) some

-- ---- the page that has a place

pub page_at-same : (tables : List (List (List ℕ))) (a b : ℕ) → a / 4096 ≡ b / 4096 → page_at tables a ≡ page_at tables b
unfolding page_at
page_at-same tables a b same =
    let table : a / 4194304 ≡ b / 4194304 = omega arith in
    ap (λ (i : ℕ). get_or (get_or tables i []) (a / 4096 % 1024) []) table ∙ ap (λ (q : ℕ). get_or (get_or tables (b / 4194304) []) (q % 1024) []) same

pub is_made-some : (tables : List (List (List ℕ))) (place : ℕ) → IsTrue (is_made tables place) → 0 < length (page_at tables place)
unfolding is_made
is_made-some tables place h = grind (arith, nat_tests)

pub some-is_made : (tables : List (List (List ℕ))) (place : ℕ) → 0 < length (page_at tables place) → IsTrue (is_made tables place)
unfolding is_made
some-is_made tables place h = grind (arith, nat_tests)

pub is_made-same : (tables : List (List (List ℕ))) (a b : ℕ) → a / 4096 ≡ b / 4096 → is_made tables a ≡ is_made tables b
unfolding is_made
is_made-same tables a b same = ap (λ (page : List ℕ). not (eqb (length page) 0)) (page_at-same tables a b same)

none_past : (tables : List (List (List ℕ))) (place : ℕ) → length tables ≤ place / 4194304 → length (page_at tables place) ≡ 0
unfolding page_at
none_past tables place past = ap (λ (pages : List (List ℕ)). length (get_or pages (place / 4096 % 1024) [])) (get_or_past tables (place / 4194304) [] past)

none_behind : (tables : List (List (List ℕ))) (place : ℕ) → length (get_or tables (place / 4194304) []) ≤ place / 4096 % 1024 → length (page_at tables place) ≡ 0
unfolding page_at
none_behind tables place past = ap length (get_or_past (get_or tables (place / 4194304) []) (place / 4096 % 1024) [] past)

pub has_table : (tables : List (List (List ℕ))) (place : ℕ) → 0 < length (page_at tables place) → place / 4194304 < length tables
has_table tables place some =
    elim (cases_lt (place / 4194304) (length tables)) [
      | inl lt ↦ lt
      | inr le ↦ absurd (omega (arith, none_past tables place le))
    ]

pub has_page : (tables : List (List (List ℕ))) (place : ℕ) → 0 < length (page_at tables place) → place / 4096 % 1024 < length (get_or tables (place / 4194304) [])
has_page tables place some =
    elim (cases_lt (place / 4096 % 1024) (length (get_or tables (place / 4194304) []))) [
      | inl lt ↦ lt
      | inr le ↦ absurd (omega (arith, none_behind tables place le))
    ]

-- what the program reads of a directory
pub no_page_read : (tables : List (List (List ℕ))) (place : ℕ) (table : List (List ℕ)) → place / 4194304 < length tables → table ≡ get_or tables (place / 4194304) table
    → length table ≡ 0 → [] ≡ page_at tables place
unfolding page_at
no_page_read tables place table inside is none =
    sym (ap (λ (pages : List (List ℕ)). get_or pages (place / 4096 % 1024) []) (sym (get_or_read tables (place / 4194304) table inside is []))
    ∙ get_or_past table (place / 4096 % 1024) [] (omega arith))

pub page_read : (tables : List (List (List ℕ))) (place : ℕ) (table : List (List ℕ)) (page : List ℕ) → place / 4194304 < length tables
    → table ≡ get_or tables (place / 4194304) table → place / 4096 % 1024 < length table → page ≡ get_or table (place / 4096 % 1024) page → page ≡ page_at tables place
unfolding page_at
page_read tables place table page inside is within read =
    get_or_read table (place / 4096 % 1024) page within read []
    ∙ ap (λ (pages : List (List ℕ)). get_or pages (place / 4096 % 1024) []) (get_or_read tables (place / 4194304) table inside is [])

pub table_read : (tables : List (List (List ℕ))) (i : ℕ) (table : List (List ℕ)) → IsDirectory tables → i < length tables → table ≡ get_or tables i table → IsTable table
table_read tables i table whole inside is = subst IsTable (sym (get_or_read tables i table inside is [])) (whole.each_table i)

pub page_whole : (tables : List (List (List ℕ))) (place : ℕ) (page : List ℕ) → IsDirectory tables → page ≡ page_at tables place → 0 < length page → length page ≡ 4096
page_whole tables place page whole is some =
    let long : IsPage page = subst IsPage (sym is) (whole.each_page place) in
    elim long [ inl none ↦ absurd (omega arith) | inr all ↦ all ]

-- ---- a table in which pages are made

table_at : (tables : List (List (List ℕ))) (i j : ℕ) (table : List (List ℕ)) → i < length tables → KeepsTable (get_or tables i []) table
    → (other : ℕ) → KeepsPage (get_or (get_or tables j []) other []) (get_or (get_or (set tables i table) j []) other [])
table_at tables i j table inside kept other =
    elim (cases_eq j i) [
      | inl here ↦
          let there : get_or (set tables i table) j [] ≡ table = ap (λ (k : ℕ). get_or (set tables i table) k []) here ∙ get_or-set_same tables i table [] inside in
          let before : get_or tables i [] ≡ get_or tables j [] = ap (λ (k : ℕ). get_or tables k []) (sym here) in
          subst (λ (pages : List (List ℕ)). KeepsPage (get_or pages other []) (get_or (get_or (set tables i table) j []) other [])) before
          (subst (λ (pages : List (List ℕ)). KeepsPage (get_or (get_or tables i []) other []) (get_or pages other [])) (sym there) (kept.each other))
      | inr away ↦
          subst (λ (pages : List (List ℕ)). KeepsPage (get_or (get_or tables j []) other []) (get_or pages other [])) (sym (get_or-set_other tables i j table [] away))
          (same_page (get_or (get_or tables j []) other []))
    ]

page_kept : (tables : List (List (List ℕ))) (i : ℕ) (table : List (List ℕ)) → i < length tables → KeepsTable (get_or tables i []) table
    → (place : ℕ) → KeepsPage (page_at tables place) (page_at (set tables i table) place)
unfolding page_at
page_kept tables i table inside kept place = table_at tables i (place / 4194304) table inside kept (place / 4096 % 1024)

byte_kept : (tables new : List (List (List ℕ))) (place : ℕ) → KeepsPage (page_at tables place) (page_at new place) → byte_at new place ≡ byte_at tables place
unfolding byte_at
byte_kept tables new place kept = kept.bytes (place % 4096)

pub keeps : (tables : List (List (List ℕ))) (i : ℕ) (table : List (List ℕ)) → i < length tables → KeepsTable (get_or tables i []) table → Keeps tables (set tables i table)
keeps tables i table inside kept = record {
  bytes = λ place. byte_kept tables (set tables i table) place (page_kept tables i table inside kept place);
  made = λ place was. some-is_made (set tables i table) place ((page_kept tables i table inside kept place).made (is_made-some tables place was));
  long = length-set tables i table;
}

set_tables : (tables : List (List (List ℕ))) (i : ℕ) (table : List (List ℕ)) → i < length tables → IsTable table → ((k : ℕ) → IsTable (get_or tables k []))
    → (k : ℕ) → IsTable (get_or (set tables i table) k [])
set_tables tables i table inside whole each k =
    elim (cases_eq k i) [
      | inl here ↦ subst IsTable (sym (ap (λ (n : ℕ). get_or (set tables i table) n []) here ∙ get_or-set_same tables i table [] inside)) whole
      | inr away ↦ subst IsTable (sym (get_or-set_other tables i k table [] away)) (each k)
    ]

pub IsDirectory-kept : (tables : List (List (List ℕ))) (i : ℕ) (table : List (List ℕ)) → i < length tables → KeepsTable (get_or tables i []) table → IsDirectory tables
    → IsDirectory (set tables i table)
IsDirectory-kept tables i table inside kept whole = record {
  each_table = set_tables tables i table inside kept.table whole.each_table;
  each_page = λ place. (page_kept tables i table inside kept place).whole (whole.each_page place);
}

pub table_kept : (tables : List (List (List ℕ))) (i : ℕ) (was table : List (List ℕ)) → i < length tables → was ≡ get_or tables i was → KeepsTable was table
    → KeepsTable (get_or tables i []) table
table_kept tables i was table inside is kept = subst (λ (pages : List (List ℕ)). KeepsTable pages table) (get_or_read tables i was inside is []) kept

pub made_there : (tables : List (List (List ℕ))) (place : ℕ) (table : List (List ℕ)) → place / 4194304 < length tables → 0 < length (get_or table (place / 4096 % 1024) [])
    → IsTrue (is_made (set tables (place / 4194304) table) place)
unfolding is_made page_at
made_there tables place table inside some = rw (get_or-set_same tables (place / 4194304) table [] inside) (grind (arith, nat_tests))

no_page : (n place : ℕ) → page_at (blanks n) place ≡ []
unfolding page_at
no_page n place = ap (λ (pages : List (List ℕ)). get_or pages (place / 4096 % 1024) []) (get_or-blanks (List ℕ) n (place / 4194304))

pub IsDirectory-blanks : (n : ℕ) → IsDirectory (blanks n)
IsDirectory-blanks n = record {
  each_table = λ i. inl (ap length (get_or-blanks (List ℕ) n i));
  each_page = λ place. inl (ap length (no_page n place));
}

pub byte_at-blanks : (n place : ℕ) → byte_at (blanks n) place ≡ 0
unfolding byte_at
byte_at-blanks n place = ap (λ (page : List ℕ). get_or page (place % 4096) 0) (no_page n place)

pub keeps_all : (tables : List (List (List ℕ))) → Keeps tables tables
keeps_all tables = record { bytes = λ place. refl; made = λ place was. was; long = refl }

pub keeps_then : (old mid new : List (List (List ℕ))) → Keeps old mid → Keeps mid new → Keeps old new
keeps_then old mid new first then = record {
  bytes = λ place. then.bytes place ∙ first.bytes place;
  made = λ place was. then.made place (first.made place was);
  long = then.long ∙ first.long;
}

-- ---- a page that is changed

-- the tables with this page in the place of the one that has a place
unfoldable pub with_page : List (List (List ℕ)) → (place : ℕ) → List ℕ → List (List (List ℕ))
with_page tables place page = set tables (place / 4194304) (set (get_or tables (place / 4194304) []) (place / 4096 % 1024) page)

with_page-here : (tables : List (List (List ℕ))) (place : ℕ) (page : List ℕ) → 0 < length (page_at tables place) → page_at (with_page tables place page) place ≡ page
unfolding page_at with_page
with_page-here tables place page some =
    let j = place / 4096 % 1024 in
    let pages = get_or tables (place / 4194304) [] in
    ap (λ (l : List (List ℕ)). get_or l j []) (get_or-set_same tables (place / 4194304) (set pages j page) [] (has_table tables place some))
    ∙ get_or-set_same pages j page [] (has_page tables place some)

page_at-with_page_same : (tables : List (List (List ℕ))) (place other : ℕ) (page : List ℕ) → 0 < length (page_at tables place) → other / 4096 ≡ place / 4096
    → page_at (with_page tables place page) other ≡ page
page_at-with_page_same tables place other page some same = page_at-same (with_page tables place page) other place same ∙ with_page-here tables place page some

page_at-with_page_other : (tables : List (List (List ℕ))) (place other : ℕ) (page : List ℕ) → 0 < length (page_at tables place) → (other / 4096 ≡ place / 4096 → ⊥)
    → page_at (with_page tables place page) other ≡ page_at tables other
unfolding page_at with_page
page_at-with_page_other tables place other page some differs =
    let i = place / 4194304 in
    let j = place / 4096 % 1024 in
    let pages = get_or tables i [] in
    elim (cases_eq (other / 4194304) i) [
      | inl here ↦
          let away : other / 4096 % 1024 ≡ j → ⊥ = λ same. differs (omega arith) in
          let there : get_or (set tables i (set pages j page)) (other / 4194304) [] ≡ set pages j page =
          ap (λ (k : ℕ). get_or (set tables i (set pages j page)) k []) here ∙ get_or-set_same tables i (set pages j page) [] (has_table tables place some) in
          ap (λ (l : List (List ℕ)). get_or l (other / 4096 % 1024) []) there
          ∙ get_or-set_other pages j (other / 4096 % 1024) page [] away
          ∙ ap (λ (k : ℕ). get_or (get_or tables k []) (other / 4096 % 1024) []) (sym here)
      | inr away ↦ ap (λ (l : List (List ℕ)). get_or l (other / 4096 % 1024) []) (get_or-set_other tables i (other / 4194304) (set pages j page) [] away)
    ]

length-page_at : (tables : List (List (List ℕ))) (place other : ℕ) (page : List ℕ) → 0 < length (page_at tables place) → length page ≡ length (page_at tables place)
    → length (page_at (with_page tables place page) other) ≡ length (page_at tables other)
length-page_at tables place other page some long =
    elim (cases_eq (other / 4096) (place / 4096)) [
      | inl here ↦ ap length (page_at-with_page_same tables place other page some here) ∙ long ∙ ap length (page_at-same tables place other (sym here))
      | inr away ↦ ap length (page_at-with_page_other tables place other page some away)
    ]

made_long : (old new : List (List (List ℕ))) (place : ℕ) → length (page_at new place) ≡ length (page_at old place) → is_made new place ≡ is_made old place
unfolding is_made
made_long old new place long = ap (λ (n : ℕ). not (eqb n 0)) long

table_long : (tables : List (List (List ℕ))) (place : ℕ) (page : List ℕ) → 0 < length (page_at tables place) → IsDirectory tables
    → (k : ℕ) → IsTable (get_or (with_page tables place page) k [])
unfolding with_page
table_long tables place page some whole k =
    let i = place / 4194304 in
    set_tables tables i (set (get_or tables i []) (place / 4096 % 1024) page) (has_table tables place some)
    (set_table (get_or tables i []) (place / 4096 % 1024) page (whole.each_table i)) whole.each_table k

page_long : (old new : List ℕ) → length new ≡ length old → IsPage old → IsPage new
page_long old new long whole = elim whole [ inl none ↦ inl (long ∙ none) | inr all ↦ inr (long ∙ all) ]

pub IsDirectory-with_page : (tables : List (List (List ℕ))) (place : ℕ) (page : List ℕ) → 0 < length (page_at tables place) → length page ≡ length (page_at tables place)
    → IsDirectory tables → IsDirectory (with_page tables place page)
IsDirectory-with_page tables place page some long whole = record {
  each_table = table_long tables place page some whole;
  each_page = λ other. page_long (page_at tables other) (page_at (with_page tables place page) other) (length-page_at tables place other page some long) (whole.each_page other);
}

length-with_page : (tables : List (List (List ℕ))) (place : ℕ) (page : List ℕ) → length (with_page tables place page) ≡ length tables
unfolding with_page
length-with_page tables place page = length-set tables (place / 4194304) (set (get_or tables (place / 4194304) []) (place / 4096 % 1024) page)

-- ---- bytes that are put into a page

byte_in : (tables : List (List (List ℕ))) (place : ℕ) (page : List ℕ) → page_at tables place ≡ page → byte_at tables place ≡ get_or page (place % 4096) 0
unfolding byte_at
byte_in tables place page is = ap (λ (l : List ℕ). get_or l (place % 4096) 0) is

-- the page of a place with these bytes in it from there on
abbrev pub put_page : List (List (List ℕ)) → (place : ℕ) → List ℕ → List ℕ
put_page tables place bytes = overwritten (page_at tables place) (place % 4096) bytes

put_there : (tables : List (List (List ℕ))) (place : ℕ) (bytes : List ℕ) → length (page_at tables place) ≡ 4096 → place % 4096 + length bytes ≤ 4096
    → (k : ℕ) → k < length bytes → byte_at (with_page tables place (put_page tables place bytes)) (place + k) ≡ get_or bytes k 0
put_there tables place bytes whole fits k lt =
    let page = put_page tables place bytes in
    let same : (place + k) / 4096 ≡ place / 4096 = omega arith in
    let offset : (place + k) % 4096 ≡ place % 4096 + k = omega arith in
    byte_in (with_page tables place page) (place + k) page (page_at-with_page_same tables place (place + k) page (omega arith) same)
    ∙ ap (λ (i : ℕ). get_or page i 0) offset
    ∙ get_or-overwritten_in (page_at tables place) (place % 4096) bytes k 0 (omega arith) lt

put_beside : (tables : List (List (List ℕ))) (place : ℕ) (bytes : List ℕ) → length (page_at tables place) ≡ 4096 → place % 4096 + length bytes ≤ 4096
    → (other : ℕ) → (other < place) ⊎ (place + length bytes ≤ other) → byte_at (with_page tables place (put_page tables place bytes)) other ≡ byte_at tables other
put_beside tables place bytes whole fits other apart =
    let page = put_page tables place bytes in
    elim (cases_eq (other / 4096) (place / 4096)) [
      | inl here ↦
          let beside : (other % 4096 < place % 4096) ⊎ (place % 4096 + length bytes ≤ other % 4096) =
          elim apart [ inl below ↦ inl (omega arith) | inr above ↦ inr (omega arith) ] in
          byte_in (with_page tables place page) other page (page_at-with_page_same tables place other page (omega arith) here)
          ∙ get_or-overwritten (page_at tables place) (place % 4096) bytes (other % 4096) 0 (omega arith) beside
          ∙ sym (byte_in tables other (page_at tables place) (page_at-same tables other place here))
      | inr away ↦
          byte_in (with_page tables place page) other (page_at tables other) (page_at-with_page_other tables place other page (omega arith) away)
          ∙ sym (byte_in tables other (page_at tables other) refl)
    ]

pub length-put_page : (tables : List (List (List ℕ))) (place : ℕ) (bytes : List ℕ) → length (page_at tables place) ≡ 4096 → place % 4096 + length bytes ≤ 4096
    → length (put_page tables place bytes) ≡ length (page_at tables place)
length-put_page tables place bytes whole fits = length-overwritten (page_at tables place) (place % 4096) bytes (omega arith)

pub writes_page : (tables : List (List (List ℕ))) (place : ℕ) (bytes : List ℕ) → length (page_at tables place) ≡ 4096 → place % 4096 + length bytes ≤ 4096
    → Writes tables (with_page tables place (put_page tables place bytes)) place bytes
writes_page tables place bytes whole fits = record {
  written = put_there tables place bytes whole fits;
  others = put_beside tables place bytes whole fits;
  made = λ other. made_long tables (with_page tables place (put_page tables place bytes)) other
      (length-page_at tables place other (put_page tables place bytes) (omega arith) (length-put_page tables place bytes whole fits));
  long = length-with_page tables place (put_page tables place bytes);
}

pub writes_nothing : (tables : List (List (List ℕ))) (place : ℕ) (bytes : List ℕ) → length bytes ≡ 0 → Writes tables tables place bytes
writes_nothing tables place bytes none = record {
  written = λ k lt. absurd (omega arith);
  others = λ other apart. refl;
  made = λ other. refl;
  long = refl;
}

-- some bytes, and then more behind them
pub writes_then : (old mid new : List (List (List ℕ))) (place : ℕ) (front bytes : List ℕ) → Writes old mid place front → Writes mid new (place + length front) bytes
    → Writes old new place (front ++ bytes)
writes_then old mid new place front bytes first then = record {
  written = λ k lt.
      elim (cases_lt k (length front)) [
        | inl inside ↦ then.others (place + k) (inl (omega arith)) ∙ first.written k inside ∙ sym (get_or_append_left front bytes 0 k inside)
        | inr behind ↦
            let long = length-append front bytes in
            let there : place + length front + (k - length front) ≡ place + k = omega arith in
            ap (byte_at new) (sym there) ∙ then.written (k - length front) (omega arith) ∙ sym (get_or-append_right front bytes (length front) k 0 refl behind)
      ];
  others = λ other apart.
      let long = length-append front bytes in
      elim apart [
        | inl below ↦ then.others other (inl (omega arith)) ∙ first.others other (inl below)
        | inr above ↦ then.others other (inr (omega arith)) ∙ first.others other (inr (omega arith))
      ];
  made = λ other. then.made other ∙ first.made other;
  long = then.long ∙ first.long;
}
