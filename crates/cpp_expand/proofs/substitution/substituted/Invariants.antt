use Rattle.std.proofs.Common.{length}
use Rattle.cpp_expand.proofs.substitution.substituted.Given as goal

abbrev pub decreases-loop-site : goal.decreases-loop-site
decreases-loop-site l = length l.rest
