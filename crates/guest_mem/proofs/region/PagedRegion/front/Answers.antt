use Rattle.std.proofs.Common.{◌≡◌, ℕ, ◌+◌, ◌-◌, ◌%◌, ◌<◌, ◌≤◌, List, length, take, drop, sym, ap, subst, ◌∙◌, arith}
use Rattle.std.proofs.lemmas.Bool.Decides.{nat_tests}
use Rattle.guest_mem.specs.Regions.{Paged}
use Rattle.guest_mem.specs.Guest.{part}
use Rattle.std.proofs.lemmas.List.{length-take-le, length-drop}
use Rattle.guest_mem.specs.Pages.{zeros}
use Rattle.guest_mem.proofs.PagedBytes.{inside_of, narrower, in_table, part_of_page, part_of_none, take-zeros}
use Rattle.guest_mem.proofs.region.PagedRegion.front.Goals as goal

pub page-page-requires : goal.page-page-requires
page-page-requires c =
    let i = c.self.inside in
    let h = inside_of i.address i.flags i.size i.pages c.args.self.now c.args.at c.args.n c.self.view_is c.requires.from c.requires.to c.self.invariant in
    in_table i.address i.size i.pages c.args.at c.args.n c.place_of-place.result h c.requires.some c.place_of-place.ensures

pub returns-then-is_empty-clause-bytes : goal.returns-then-is_empty-clause-bytes
returns-then-is_empty-clause-bytes c =
    let i = c.self.inside in
    let h = inside_of i.address i.flags i.size i.pages c.args.self.now c.args.at c.args.n c.self.view_is c.requires.from c.requires.to c.self.invariant in
    let none : length c.page-page.result.now ≡ 0 = grind (arith, nat_tests) in
    let m = c.min.result in
    let blank = c.args.blank.now in
    let few : m ≤ length blank = omega arith in
    let long : length (take m blank) ≡ m = length-take-le m blank few in
    let zeros' : take m blank ≡ zeros m = ap (take m) c.requires.blank ∙ take-zeros m (length blank) few in
    let part' = part_of_none i.address i.flags i.size i.pages c.args.at m c.place_of-place.result c.page-page.result.now
    (narrower i.address i.size i.pages c.args.at c.args.n m h (omega arith)) c.place_of-place.ensures c.page-page.ensures.page none (omega arith) in
    zeros' ∙ sym (ap (λ (p : Paged). part p.region c.args.at m) (sym c.self.view_is) ∙ part')
    ∙ ap (λ (k : ℕ). part c.args.self.now.region c.args.at k) (sym long)

pub returns-clause-bytes : goal.returns-clause-bytes
returns-clause-bytes c =
    let i = c.self.inside in
    let h = inside_of i.address i.flags i.size i.pages c.args.self.now c.args.at c.args.n c.self.view_is c.requires.from c.requires.to c.self.invariant in
    let some : 0 < length c.page-page.result.now = grind (arith, nat_tests) in
    let whole = c.page-page.ensures.whole some in
    let page = c.page-page.result.now in
    let o = c.place_of-place.result % 4096 in
    let m = c.min-room.result in
    let same : o + m - o ≡ m = omega arith in
    let read : take (o + m - o) (drop o page) ≡ take m (drop o page) = ap (λ (k : ℕ). take k (drop o page)) same in
    let long : length (take (o + m - o) (drop o page)) ≡ m = ap length read ∙ length-take-le m (drop o page) (omega (arith, length-drop o page)) in
    read
    ∙ part_of_page i.address i.flags i.size i.pages c.args.at m c.place_of-place.result page
    (narrower i.address i.size i.pages c.args.at c.args.n m h (omega arith)) c.place_of-place.ensures c.page-page.ensures.page whole (omega arith)
    ∙ ap (λ (p : Paged). part p.region c.args.at m) c.self.view_is
    ∙ ap (λ (k : ℕ). part c.args.self.now.region c.args.at k) (sym long)
