use Rattle.std.proofs.Common.{subst}
use Rattle.block_report.specs.Listing.{ShapeOf, told}
use Rattle.block_report.proofs.listing.add.Goals as goal

pub returns : goal.returns
returns c =
    told c.in-Some.shape (subst (ShapeOf c.args.machine.now c.args.header.desc) c.in-Some.is c.in_ok-shape.ensures) c.in_ok-push.ensures.items
