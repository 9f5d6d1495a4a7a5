use Rattle.std.proofs.Common.{Ok, sym, ap, ◌∙◌}
use Rattle.guest_mem.specs.Guest.{number_in}
use Rattle.guest_mem.proofs.Ready.{found, bytes_at-found, bytes_at-not_found}
use Rattle.guest_mem.proofs.guest.part_in.Goals as goal

pub returns-in_default-clause-number : goal.returns-in_default-clause-number
returns-in_default-clause-number c = bytes_at-not_found c.args.regions.now c.args.right c.args.at c.args.n c.requires.some (sym c.in_default.ensures)

pub in_page-requires-clause-from : goal.in_page-requires-clause-from
in_page-requires-clause-from c =
    (found c.args.regions.now c.args.right c.args.at c.args.n c.in-Some.place c.index-regions-place.result (sym c.in-Some.ensures) c.index-regions-place.is).within.0

pub in_page-requires-clause-to : goal.in_page-requires-clause-to
in_page-requires-clause-to c =
    (found c.args.regions.now c.args.right c.args.at c.args.n c.in-Some.place c.index-regions-place.result (sym c.in-Some.ensures) c.index-regions-place.is).within.1

pub returns-clause-number : goal.returns-clause-number
returns-clause-number c =
    let f = found c.args.regions.now c.args.right c.args.at c.args.n c.in-Some.place c.index-regions-place.result (sym c.in-Some.ensures) c.index-regions-place.is in
    ap number_in (bytes_at-found c.args.regions.now c.args.right c.args.at c.args.n c.in-Some.place c.index-regions-place.result f) ∙ ap Ok (sym c.in_page.ensures.number)
