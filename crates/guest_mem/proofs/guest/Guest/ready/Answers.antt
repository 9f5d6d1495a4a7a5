use Rattle.std.proofs.Common.{◌≡◌, List, sym, subst, ◌∙◌}
use Rattle.std.specs.Vec.{with_items}
use Rattle.std.proofs.lemmas.List.{with_items_is}
use Rattle.guest_mem.specs.Regions.{Paged, regions_of}
use Rattle.guest_mem.specs.Layout.{AllApart}
use Rattle.guest_mem.proofs.guest.Guest.ready.Goals as goal

pub invariant_of-self : goal.invariant_of-self
invariant_of-self c =
    let items = c.make_in.new.regions in
    let same : (with_items c.self.inside.regions items).items ≡ items = with_items_is c.self.inside.regions items (c.make_in.auto.regions ∙ c.as_mut_slice.ensures.len) in
    subst (λ (l : List Paged). AllApart (regions_of l)) (sym same)
    (subst AllApart (sym c.make_in.ensures.same)
    (subst (λ (l : List Paged). AllApart (regions_of l)) (sym c.as_mut_slice.ensures.value) c.self.invariant))
