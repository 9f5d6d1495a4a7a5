use Rattle.std.proofs.Common.{◌≡◌, ℕ, ◌+◌, ◌<◌, ◌≤◌, List, length, sym, ap, subst, ◌∙◌, arith}
use Rattle.std.proofs.lemmas.List.Elements.{All-from_get_or}
use Rattle.guest_mem.specs.Regions.{Paged, paged_of}
use Rattle.guest_mem.specs.Guest.{with_part}
use Rattle.guest_mem.specs.Ready.{HasPage}
use Rattle.guest_mem.proofs.PagedBytes.{inside_of, in_range, region_writes, made_writes, page_of_has}
use Rattle.guest_mem.proofs.region.PagedRegion.put.Goals as goal

pub put-requires-clause-made : goal.put-requires-clause-made
put-requires-clause-made c k lt =
    let i = c.self.inside in
    let h = inside_of i.address i.flags i.size i.pages c.args.self.now c.args.at (length c.args.bytes.now) c.self.view_is c.requires.from c.requires.to c.self.invariant in
    page_of_has i.address i.flags i.size i.pages c.args.at (length c.args.bytes.now) c.place_of-place.result k h c.place_of-place.ensures lt
    (subst (λ (p : Paged). HasPage p (c.args.at + k)) (sym c.self.view_is) (c.requires.made k lt))

pub put-requires-clause-fits : goal.put-requires-clause-fits
put-requires-clause-fits c =
    let i = c.self.inside in
    let h = inside_of i.address i.flags i.size i.pages c.args.self.now c.args.at (length c.args.bytes.now) c.self.view_is c.requires.from c.requires.to c.self.invariant in
    in_range i.address i.size i.pages c.args.at (length c.args.bytes.now) c.place_of-place.result h c.place_of-place.ensures

pub returns-clause-bytes : goal.returns-clause-bytes
returns-clause-bytes c =
    let i = c.self.inside in
    let h = inside_of i.address i.flags i.size i.pages c.args.self.now c.args.at (length c.args.bytes.now) c.self.view_is c.requires.from c.requires.to c.self.invariant in
    region_writes i.address i.flags i.size i.pages c.put.new.self c.args.at c.place_of-place.result c.args.bytes.now h c.place_of-place.ensures c.put.ensures
    ∙ ap (λ (p : Paged). with_part p.region c.args.at c.args.bytes.now) c.self.view_is

pub returns-clause-made : goal.returns-clause-made
returns-clause-made c =
    let i = c.self.inside in
    made_writes i.address i.flags i.size i.pages c.put.new.self c.place_of-place.result c.args.bytes.now c.put.ensures ∙ ap (λ (p : Paged). p.made) c.self.view_is

pub returns-clause-are_bytes : goal.returns-clause-are_bytes
returns-clause-are_bytes c =
    let byte : ℕ → Type 0 = λ b. b < 256 in
    All-from_get_or byte c.args.bytes.now 0 (λ i lt. omega (arith, c.type_inv.bytes i))
