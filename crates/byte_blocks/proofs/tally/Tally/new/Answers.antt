use Rattle.byte_blocks.proofs.Counting.{Counts-none}
use Rattle.byte_blocks.proofs.tally.Tally.new.Goals as goal

pub returns-clause-counts : goal.returns-clause-counts
returns-clause-counts c = Counts-none
