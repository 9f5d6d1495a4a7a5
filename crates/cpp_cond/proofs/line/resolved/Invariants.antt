use Rattle.std.proofs.Common.{length}
use Rattle.cpp_cond.proofs.line.resolved.Given as goal

abbrev pub decreases-loop-rest : goal.decreases-loop-rest
decreases-loop-rest l = length l.rest
