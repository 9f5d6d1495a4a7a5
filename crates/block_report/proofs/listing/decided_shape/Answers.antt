use Rattle.std.proofs.Common.{ℕ, Some, None, subst}
use Rattle.block_report.specs.Memory.{ShapeAt}
use Rattle.block_report.specs.Listing.{decided, unknown}
use Rattle.block_report.proofs.listing.decided_shape.Goals as goal

pub returns-in-Some : goal.returns-in-Some
returns-in-Some c =
    decided c.requires c.in-Some.kinds
    (subst (λ (at : ℕ). ShapeAt c.args.machine.now at (Some c.in-Some.kinds)) c.from.ensures
    (subst (ShapeAt c.args.machine.now c.from.result) c.in-Some.is c.in_ok-kinds.ensures))

pub returns-in-None : goal.returns-in-None
returns-in-None c =
    unknown c.requires
    (subst (λ (at : ℕ). ShapeAt c.args.machine.now at None) c.from.ensures
    (subst (ShapeAt c.args.machine.now c.from.result) c.in-None.is c.in_ok-kinds.ensures))
