use Rattle.std.proofs.Common.{◌≡◌, ℕ, ◌+◌, ◌-◌, ◌%◌, ◌<◌, ◌≤◌, Result, Ok, Err, List, length, sym, ap, subst, ◌∙◌, arith}
use Rattle.std.specs.Prelude.{IfOk}
use Rattle.guest_mem.specs.Regions.{Paged, paged_of}
use Rattle.guest_mem.specs.Ready.{HasPage, StaysMade}
use Rattle.guest_mem.specs.Pages.{AreMade, Keeps}
use Rattle.guest_mem.proofs.PagedBytes.{Inside, inside_of, wider, in_tables, region_keeps, stays_kept, has_page_of}
use Rattle.guest_mem.proofs.region.PagedRegion.make.Goals as goal

pub make_all-requires-clause-inside : goal.make_all-requires-clause-inside
make_all-requires-clause-inside c =
    let i = c.self.inside in
    let h = inside_of i.address i.flags i.size i.pages c.args.self.now c.args.at c.args.n c.self.view_is c.requires.from c.requires.to c.self.invariant in
    in_tables i.address i.size i.pages c.args.at c.args.n c.place_of-place.result h c.place_of-place.ensures

pub returns-clause-same : goal.returns-clause-same
returns-clause-same c =
    let i = c.self.inside in
    region_keeps i.address i.flags i.size i.pages c.make_all.new.self c.make_all.ensures.kept ∙ ap (λ (p : Paged). p.region) c.self.view_is

pub returns-clause-kept : goal.returns-clause-kept
returns-clause-kept c =
    let i = c.self.inside in
    subst (λ (p : Paged). StaysMade p (paged_of i.address i.flags i.size c.make_all.new.self)) c.self.view_is
    (stays_kept i.address i.flags i.size i.pages c.make_all.new.self c.make_all.ensures.kept)

made_all : {E : Type 0} (address flags size : ℕ) (tables : List (List (List ℕ))) (at n place : ℕ) (result : Result (Unit {0}) E) → Inside address size tables at n
    → place ≡ address % 4096 + (at - address) → IfOk result (λ _. AreMade tables place n)
    → IfOk result (λ _. (k : ℕ) → k < n → HasPage (paged_of address flags size tables) (at + k))
made_all address flags size tables at n place (Ok x) h there each = λ k lt. has_page_of address flags size tables at n place k h there lt (each k lt)
made_all address flags size tables at n place (Err e) h there each = each

pub returns-clause-made : goal.returns-clause-made
returns-clause-made c =
    let i = c.self.inside in
    let h = inside_of i.address i.flags i.size i.pages c.args.self.now c.args.at c.args.n c.self.view_is c.requires.from c.requires.to c.self.invariant in
    made_all i.address i.flags i.size c.make_all.new.self c.args.at c.args.n c.place_of-place.result c.make_all.result
    (wider i.address i.size i.pages c.make_all.new.self c.args.at c.args.n h c.make_all.ensures.kept.long) c.place_of-place.ensures c.make_all.ensures.made
