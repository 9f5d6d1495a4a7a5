use Rattle.std.proofs.Common.{◌≡◌, ℕ, ◌+◌, ◌-◌, ◌%◌, ◌<◌, ◌≤◌, List, length, take, drop, sym, ap, subst, ◌∙◌, arith}
use Rattle.std.proofs.lemmas.Bool.Decides.{nat_tests}
use Rattle.guest_mem.specs.Regions.{Paged}
use Rattle.guest_mem.specs.Guest.{part, little_endian}
use Rattle.guest_mem.proofs.PagedBytes.{inside_of, in_table, part_of_page, part_of_none, little_endian-zeros}
use Rattle.guest_mem.proofs.region.PagedRegion.in_page.Goals as goal

pub page-page-requires : goal.page-page-requires
page-page-requires c =
    let i = c.self.inside in
    let h = inside_of i.address i.flags i.size i.pages c.args.self.now c.args.at c.args.n c.self.view_is c.requires.from c.requires.to c.self.invariant in
    in_table i.address i.size i.pages c.args.at c.args.n c.place_of-place.result h c.requires.some c.place_of-place.ensures

fits : (address at n place : ℕ) → address ≤ at → place ≡ address % 4096 + (at - address) → at % 4096 + n ≤ 4096 → place % 4096 + n ≤ 4096
fits address at n place from is page = omega arith

pub returns-then-is_empty-clause-number : goal.returns-then-is_empty-clause-number
returns-then-is_empty-clause-number c =
    let i = c.self.inside in
    let h = inside_of i.address i.flags i.size i.pages c.args.self.now c.args.at c.args.n c.self.view_is c.requires.from c.requires.to c.self.invariant in
    let none : length c.page-page.result.now ≡ 0 = grind (arith, nat_tests) in
    let blank = part_of_none i.address i.flags i.size i.pages c.args.at c.args.n c.place_of-place.result c.page-page.result.now h c.place_of-place.ensures c.page-page.ensures.page none
    (fits i.address c.args.at c.args.n c.place_of-place.result h.from c.place_of-place.ensures c.requires.page) in
    sym (ap (λ (p : Paged). little_endian (part p.region c.args.at c.args.n)) (sym c.self.view_is) ∙ ap little_endian blank ∙ little_endian-zeros c.args.n)

pub returns-clause-number : goal.returns-clause-number
returns-clause-number c =
    let i = c.self.inside in
    let h = inside_of i.address i.flags i.size i.pages c.args.self.now c.args.at c.args.n c.self.view_is c.requires.from c.requires.to c.self.invariant in
    let some : 0 < length c.page-page.result.now = grind (arith, nat_tests) in
    let o = c.place_of-place.result % 4096 in
    let same : o + c.args.n - o ≡ c.args.n = omega arith in
    ap (λ (k : ℕ). little_endian (take k (drop o c.page-page.result.now))) same
    ∙ ap little_endian (part_of_page i.address i.flags i.size i.pages c.args.at c.args.n c.place_of-place.result c.page-page.result.now h c.place_of-place.ensures c.page-page.ensures.page
    (c.page-page.ensures.whole some) (fits i.address c.args.at c.args.n c.place_of-place.result h.from c.place_of-place.ensures c.requires.page))
    ∙ ap (λ (p : Paged). little_endian (part p.region c.args.at c.args.n)) c.self.view_is
