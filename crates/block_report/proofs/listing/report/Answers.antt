use Rattle.std.proofs.Common.{sym, subst}
use Rattle.block_report.specs.Listing.{Lists, none_made}
use Rattle.block_report.proofs.Lengthening.{one_block}
use Rattle.block_report.proofs.listing.report.Goals as goal

pub loop-before-init : goal.loop-before-init
loop-before-init c = subst (Lists c.args.machine.now 0) (sym c.new-lives.ensures.items) none_made

pub loop-before-preserved : goal.loop-before-preserved
loop-before-preserved c =
    one_block c.args.machine.now c.loop-before.before c.in-Some.header c.loop-before.lives.items c.add.new.lives.items c.loop-before.invariant
    (sym c.in-Some.ensures) c.in_ok-add.ensures
