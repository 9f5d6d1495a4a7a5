use Rattle.std.proofs.Common.{◌≡◌, ℕ, ◌+◌, ◌<◌, get_or, set, length, true, false, List, refl, sym, ap, subst, ◌∙◌, arith}
use Rattle.guest_mem.specs.declared.right.Right.TheVariants.{Write}
use Rattle.guest_mem.specs.Layout.{extent_of}
use Rattle.guest_mem.specs.Guest.{memory_in}
use Rattle.guest_mem.specs.Ready.{HasPage}
use Rattle.guest_mem.proofs.Layouts.{extent_of-with_part}
use Rattle.guest_mem.proofs.Ready.{found_at, with_bytes-not_found, with_bytes-found, may_change, regions_of-same, layout_set, stays_ready, has_pages}
use Rattle.guest_mem.proofs.guest.store_in.Goals as goal

pub returns-in_default-clause-stores : goal.returns-in_default-clause-stores
returns-in_default-clause-stores c =
    (ap memory_in (with_bytes-not_found c.args.regions.now c.args.at c.args.bytes.now c.requires.some (sym c.in_default.ensures)), refl)

pub store-requires-clause-from : goal.store-requires-clause-from
store-requires-clause-from c = (found_at c.args.regions.now Write c.args.at (length c.args.bytes.now) c.in-Some.place c.index-regions-place.result (sym c.in-Some.ensures)).within.0

pub store-requires-clause-to : goal.store-requires-clause-to
store-requires-clause-to c = (found_at c.args.regions.now Write c.args.at (length c.args.bytes.now) c.in-Some.place c.index-regions-place.result (sym c.in-Some.ensures)).within.1

pub returns-in-Ok-clause-stores : goal.returns-in-Ok-clause-stores
returns-in-Ok-clause-stores c =
    let f = found_at c.args.regions.now Write c.args.at (length c.args.bytes.now) c.in-Some.place c.index-regions-place.result (sym c.in-Some.ensures) in
    ap memory_in (with_bytes-found c.args.regions.now c.args.at c.in-Some.place c.args.bytes.now (get_or c.args.regions.now c.in-Some.place c.index-regions-place.result) c.store.new.self f c.in-Ok.ensures.stored)

pub returns-in-Ok-clause-kept : goal.returns-in-Ok-clause-kept
returns-in-Ok-clause-kept c =
    let f = found_at c.args.regions.now Write c.args.at (length c.args.bytes.now) c.in-Some.place c.index-regions-place.result (sym c.in-Some.ensures) in
    let paged = (get_or c.args.regions.now c.in-Some.place c.index-regions-place.result) in
    stays_ready c.args.regions.now c.in-Some.place paged c.store.new.self f.inside f.read
    (ap extent_of c.in-Ok.ensures.stored ∙ extent_of-with_part paged.region c.args.at c.args.bytes.now f.within) c.store.ensures.kept

pub returns-in-Ok-clause-laid : goal.returns-in-Ok-clause-laid
returns-in-Ok-clause-laid c =
    let f = found_at c.args.regions.now Write c.args.at (length c.args.bytes.now) c.in-Some.place c.index-regions-place.result (sym c.in-Some.ensures) in
    let paged = (get_or c.args.regions.now c.in-Some.place c.index-regions-place.result) in
    layout_set c.args.regions.now c.in-Some.place paged c.store.new.self f.inside f.read
    (ap extent_of c.in-Ok.ensures.stored ∙ extent_of-with_part paged.region c.args.at c.args.bytes.now f.within)

pub returns-in-Err-clause-stores : goal.returns-in-Err-clause-stores
returns-in-Err-clause-stores c =
    let f = found_at c.args.regions.now Write c.args.at (length c.args.bytes.now) c.in-Some.place c.index-regions-place.result (sym c.in-Some.ensures) in
    let paged = (get_or c.args.regions.now c.in-Some.place c.index-regions-place.result) in (
      may_change c.args.regions.now c.args.at c.in-Some.place c.args.bytes.now paged f,
      regions_of-same c.args.regions.now c.in-Some.place paged c.store.new.self f.read c.in-Err.ensures.refused,
    )

pub returns-in-Err-clause-ready : goal.returns-in-Err-clause-ready
returns-in-Err-clause-ready c ready no-memory =
    let f = found_at c.args.regions.now Write c.args.at (length c.args.bytes.now) c.in-Some.place c.index-regions-place.result (sym c.in-Some.ensures) in
    let paged = (get_or c.args.regions.now c.in-Some.place c.index-regions-place.result) in
    let first = has_pages c.args.regions.now c.args.at (length c.args.bytes.now) c.in-Some.place paged f ready 0 c.requires.some in
    let has : HasPage paged c.args.at = subst (HasPage paged) (let e : c.args.at + 0 ≡ c.args.at = omega arith in e) first in
    let no : false ≡ true = c.in-Err.ensures.ready has in
    cc

pub returns-in-Err-clause-laid : goal.returns-in-Err-clause-laid
returns-in-Err-clause-laid c =
    let f = found_at c.args.regions.now Write c.args.at (length c.args.bytes.now) c.in-Some.place c.index-regions-place.result (sym c.in-Some.ensures) in
    let paged = (get_or c.args.regions.now c.in-Some.place c.index-regions-place.result) in
    layout_set c.args.regions.now c.in-Some.place paged c.store.new.self f.inside f.read (ap extent_of c.in-Err.ensures.refused)
