use Rattle.std.proofs.Common.{◌≡◌, ℕ, ◌/◌, ◌%◌, ◌<◌, [], List, length, get_or, sym, ap, ◌∙◌, subst, inl, inr, arith}
use Rattle.std.proofs.lemmas.Bool.Decides.{nat_tests}
use Rattle.guest_mem.specs.Pages.{page_at, IsTable, IsDirectory}
use Rattle.guest_mem.proofs.Pages.{no_page_read, page_read, table_read, page_whole}
use Rattle.guest_mem.proofs.directory.Directory.page.Goals as goal

pub returns-then-is_empty-clause-page : goal.returns-then-is_empty-clause-page
returns-then-is_empty-clause-page c =
    let inside : c.args.place / 4194304 < length c.self.inside.tables.items = subst (λ (ts : List (List (List ℕ))). c.args.place / 4194304 < length ts) (sym c.self.view_is) c.requires in
    let none : length c.index.result.now ≡ 0 = grind (arith, nat_tests) in
    subst (λ (ts : List (List (List ℕ))). ◌≡◌ {A = List ℕ} [] (page_at ts c.args.place)) c.self.view_is
    (no_page_read c.self.inside.tables.items c.args.place c.index.result.now inside c.index.ensures none)

within : (table : List (List ℕ)) (place : ℕ) → IsTable table → 0 < length table → place / 4096 % 1024 < length table
within table place whole some = elim whole [ inl none ↦ absurd (omega arith) | inr all ↦ omega arith ]

pub returns-clause-page : goal.returns-clause-page
returns-clause-page c =
    let inside : c.args.place / 4194304 < length c.self.inside.tables.items = subst (λ (ts : List (List (List ℕ))). c.args.place / 4194304 < length ts) (sym c.self.view_is) c.requires in
    let some : 0 < length c.index.result.now = grind (arith, nat_tests) in
    let whole = table_read c.self.inside.tables.items (c.args.place / 4194304) c.index.result.now c.self.invariant inside c.index.ensures in
    let read = subst (λ (table : List (List ℕ)). c.index-pages-place.result ≡ get_or table (c.args.place / 4096 % 1024) c.index-pages-place.result)
    c.pages-pages.ensures c.index-pages-place.is in
    c.bytes.ensures
    ∙ page_read c.self.inside.tables.items c.args.place c.index.result.now c.index-pages-place.result inside c.index.ensures
    (within c.index.result.now c.args.place whole some) read
    ∙ ap (λ (ts : List (List (List ℕ))). page_at ts c.args.place) c.self.view_is

pub returns-clause-whole : goal.returns-clause-whole
returns-clause-whole c some =
    page_whole c.args.self.now c.args.place c.bytes.result.now (subst IsDirectory c.self.view_is c.self.invariant) (returns-clause-page c) some
