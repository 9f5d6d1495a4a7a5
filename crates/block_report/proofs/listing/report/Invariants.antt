use Rattle.block_report.specs.Listing.{Lists}
use Rattle.block_report.proofs.listing.report.Given as goal

abbrev pub invariant-loop-before : goal.invariant-loop-before
invariant-loop-before l = Lists l.machine l.before l.lives.items
