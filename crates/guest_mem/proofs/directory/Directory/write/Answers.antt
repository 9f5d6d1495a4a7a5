use Rattle.std.proofs.Common.{◌≡◌, ℕ, ◌+◌, ◌/◌, ◌%◌, ◌<◌, ◌≤◌, [], List, length, get_or, set, refl, sym, ap, ◌∙◌, subst, arith}
use Rattle.std.specs.Prelude.{IsTrue}
use Rattle.std.proofs.lemmas.List.{get_or_read}
use Rattle.guest_mem.specs.Guest.{overwritten}
use Rattle.guest_mem.specs.Pages.{page_at, is_made, IsDirectory, Writes}
use Rattle.guest_mem.proofs.Pages.{is_made-some, has_table, has_page, page_whole, with_page, put_page, length-put_page, writes_page, IsDirectory-with_page}
use Rattle.guest_mem.proofs.directory.Directory.write.Goals as goal

-- what is known of the table and the page that have the place
record Found (tables : List (List (List ℕ))) (place : ℕ) : Type 0 where
  some : 0 < length (page_at tables place)
  table : place / 4194304 < length tables
  page : place / 4096 % 1024 < length (get_or tables (place / 4194304) [])
  whole : length (page_at tables place) ≡ 4096

found : (tables now : List (List (List ℕ))) (place : ℕ) → tables ≡ now → IsDirectory tables → IsTrue (is_made now place) → Found tables place
found tables now place is whole made =
    let some = is_made-some tables place (subst (λ (ts : List (List (List ℕ))). IsTrue (is_made ts place)) (sym is) made) in record {
      some = some;
      table = has_table tables place some;
      page = has_page tables place some;
      whole = page_whole tables place (page_at tables place) whole refl some;
    }

page_is : (tables : List (List (List ℕ))) (place : ℕ) → get_or (get_or tables (place / 4194304) []) (place / 4096 % 1024) [] ≡ page_at tables place
unfolding page_at
page_is tables place = refl

pub index_mut-requires : goal.index_mut-requires
index_mut-requires c =
    let inside = (found c.self.inside.tables.items c.args.self.now c.args.place c.self.view_is c.self.invariant c.requires.made).table in
    omega (arith, inside, c.self.inside.tables.ok.0)

pub write-requires-clause-index : goal.write-requires-clause-index
write-requires-clause-index c =
    let f = found c.self.inside.tables.items c.args.self.now c.args.place c.self.view_is c.self.invariant c.requires.made in
    let is = get_or_read c.self.inside.tables.items (c.args.place / 4194304) c.index_mut.result.now f.table c.index_mut.ensures.value [] in
    subst (λ (pages : List (List ℕ)). c.args.place / 4096 % 1024 < length pages) (sym is) f.page

pub write-requires-clause-fits : goal.write-requires-clause-fits
write-requires-clause-fits c =
    let f = found c.self.inside.tables.items c.args.self.now c.args.place c.self.view_is c.self.invariant c.requires.made in
    let is = get_or_read c.self.inside.tables.items (c.args.place / 4194304) c.index_mut.result.now f.table c.index_mut.ensures.value [] in
    let page : get_or c.index_mut.result.now (c.args.place / 4096 % 1024) [] ≡ page_at c.self.inside.tables.items c.args.place =
    ap (λ (pages : List (List ℕ)). get_or pages (c.args.place / 4096 % 1024) []) is ∙ page_is c.self.inside.tables.items c.args.place in
    omega (arith, c.requires.fits, ap length page, f.whole)

put_is : (tables : List (List (List ℕ))) (place : ℕ) (was table : List (List ℕ)) (bytes : List ℕ) → was ≡ get_or tables (place / 4194304) []
    → table ≡ set was (place / 4096 % 1024) (overwritten (get_or was (place / 4096 % 1024) []) (place % 4096) bytes)
    → set tables (place / 4194304) table ≡ with_page tables place (put_page tables place bytes)
unfolding with_page page_at
put_is tables place was table bytes is put =
    ap (λ (t : List (List ℕ)). set tables (place / 4194304) t)
    (put ∙ ap (λ (t : List (List ℕ)). set t (place / 4096 % 1024) (overwritten (get_or t (place / 4096 % 1024) []) (place % 4096) bytes)) is)

same : (tables now : List (List (List ℕ))) (place : ℕ) (was table : List (List ℕ)) (bytes : List ℕ) → Found tables place → was ≡ get_or tables (place / 4194304) was
    → table ≡ set was (place / 4096 % 1024) (overwritten (get_or was (place / 4096 % 1024) []) (place % 4096) bytes)
    → set tables (place / 4194304) table ≡ with_page tables place (put_page tables place bytes)
same tables now place was table bytes f read put =
    put_is tables place was table bytes (get_or_read tables (place / 4194304) was f.table read []) put

pub invariant_of-self : goal.invariant_of-self
invariant_of-self c =
    let tables = c.self.inside.tables.items in
    let place = c.args.place in
    let bytes = c.args.bytes.now in
    let f = found tables c.args.self.now place c.self.view_is c.self.invariant c.requires.made in
    subst IsDirectory (sym (same tables c.args.self.now place c.index_mut.result.now c.write.new.self bytes f c.index_mut.ensures.value c.write.ensures))
    (IsDirectory-with_page tables place (put_page tables place bytes) f.some (length-put_page tables place bytes f.whole c.requires.fits) c.self.invariant)

pub returns : goal.returns
returns c =
    let tables = c.self.inside.tables.items in
    let place = c.args.place in
    let bytes = c.args.bytes.now in
    let f = found tables c.args.self.now place c.self.view_is c.self.invariant c.requires.made in
    subst (λ (ts : List (List (List ℕ))). Writes ts (set tables (place / 4194304) c.write.new.self) place bytes) c.self.view_is
    (subst (λ (ts : List (List (List ℕ))). Writes tables ts place bytes)
    (sym (same tables c.args.self.now place c.index_mut.result.now c.write.new.self bytes f c.index_mut.ensures.value c.write.ensures))
    (writes_page tables place bytes f.whole c.requires.fits))
