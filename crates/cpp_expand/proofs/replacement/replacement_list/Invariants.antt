use Rattle.std.proofs.Common.{length}
use Rattle.cpp_expand.proofs.replacement.replacement_list.Given as goal

abbrev pub decreases-loop-rest : goal.decreases-loop-rest
decreases-loop-rest l = length l.rest
