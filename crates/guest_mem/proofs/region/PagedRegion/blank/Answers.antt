use Rattle.std.proofs.Common.{◌≡◌, ℕ, ◌%◌, List, length, sym, ap, subst, ◌∙◌, arith}
use Rattle.guest_mem.specs.Regions.{Region}
use Rattle.guest_mem.specs.Pages.{bytes_from}
use Rattle.guest_mem.proofs.Pages.{length-blanks}
use Rattle.guest_mem.proofs.PagedBytes.{blank_paged}
use Rattle.guest_mem.proofs.region.PagedRegion.blank.Goals as goal

pub invariant_of-result : goal.invariant_of-result
invariant_of-result c =
    let long = ap length c.in_ok-new.ensures ∙ length-blanks (List ℕ) _ in
    (c.requires, omega arith)

pub returns : goal.returns
returns c =
    ap (λ (tables : List (List (List ℕ))). let r : Region = record { address = c.args.address; flags = c.args.flags; bytes = bytes_from tables (c.args.address % 4096) c.args.size } in r)
    c.in_ok-new.ensures
    ∙ blank_paged c.args.address c.args.flags c.args.size _
