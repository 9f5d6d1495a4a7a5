use Rattle.block_report.specs.Listing.{none, undecided}
use Rattle.block_report.proofs.listing.shape_of.Goals as goal

pub returns-then-desc-lt2 : goal.returns-then-desc-lt2
returns-then-desc-lt2 c = none c.if-desc-lt2.true

pub returns-then-desc-eq2 : goal.returns-then-desc-eq2
returns-then-desc-eq2 c = undecided c.if-desc-eq2.true
