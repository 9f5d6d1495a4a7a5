use Rattle.std.proofs.Common.{◌≡◌, get_or, sym, ◌∙◌}
use Rattle.guest_mem.specs.declared.right.Right.TheVariants.{Write}
use Rattle.guest_mem.specs.Regions.{regions_of}
use Rattle.guest_mem.proofs.Filling.{fills_nothing}
use Rattle.guest_mem.proofs.Ready.{position_regions, found_at, has_pages, fills_found, stays_ready, stays_same, layout_set, extent_of-filled}
use Rattle.guest_mem.proofs.streams.fill_in.Goals as goal

pub returns-in_default-clause-fills : goal.returns-in_default-clause-fills
returns-in_default-clause-fills g c =
    fills_nothing (regions_of c.args.regions.now) c.args.at c.args.n _ (sym (position_regions c.args.regions.now Write c.args.at c.args.n) ∙ sym c.in_default.ensures) c.requires.covered

pub fill_part-requires-clause-from : goal.fill_part-requires-clause-from
fill_part-requires-clause-from g c = (found_at c.args.regions.now Write c.args.at c.args.n c.in-Some.place c.index-regions-place.result (sym c.in-Some.ensures)).within.0

pub fill_part-requires-clause-to : goal.fill_part-requires-clause-to
fill_part-requires-clause-to g c = (found_at c.args.regions.now Write c.args.at c.args.n c.in-Some.place c.index-regions-place.result (sym c.in-Some.ensures)).within.1

pub fill_part-requires-clause-made : goal.fill_part-requires-clause-made
fill_part-requires-clause-made g c =
    let f = found_at c.args.regions.now Write c.args.at c.args.n c.in-Some.place c.index-regions-place.result (sym c.in-Some.ensures) in
    has_pages c.args.regions.now c.args.at c.args.n c.in-Some.place (get_or c.args.regions.now c.in-Some.place c.index-regions-place.result) f c.requires.ready

pub returns-clause-fills : goal.returns-clause-fills
returns-clause-fills g c =
    let f = found_at c.args.regions.now Write c.args.at c.args.n c.in-Some.place c.index-regions-place.result (sym c.in-Some.ensures) in
    fills_found c.args.regions.now c.args.at c.args.n c.in-Some.place (get_or c.args.regions.now c.in-Some.place c.index-regions-place.result) c.fill_part.new.self c.fill_part.result _ _ f c.fill_part.ensures.fills

pub returns-clause-kept : goal.returns-clause-kept
returns-clause-kept g c =
    let f = found_at c.args.regions.now Write c.args.at c.args.n c.in-Some.place c.index-regions-place.result (sym c.in-Some.ensures) in
    let paged = (get_or c.args.regions.now c.in-Some.place c.index-regions-place.result) in
    let same = extent_of-filled paged.region c.fill_part.new.self.region c.args.at c.args.n c.fill_part.result _ _ f.within c.fill_part.ensures.fills in
    stays_ready c.args.regions.now c.in-Some.place paged c.fill_part.new.self f.inside f.read same (stays_same paged c.fill_part.new.self c.fill_part.ensures.made)

pub returns-clause-laid : goal.returns-clause-laid
returns-clause-laid g c =
    let f = found_at c.args.regions.now Write c.args.at c.args.n c.in-Some.place c.index-regions-place.result (sym c.in-Some.ensures) in
    let paged = (get_or c.args.regions.now c.in-Some.place c.index-regions-place.result) in
    let same = extent_of-filled paged.region c.fill_part.new.self.region c.args.at c.args.n c.fill_part.result _ _ f.within c.fill_part.ensures.fills in
    layout_set c.args.regions.now c.in-Some.place paged c.fill_part.new.self f.inside f.read same
