use Rattle.cpp_expand.proofs.machine.Machine.open.Given as goal

abbrev pub decreases-loop-token : goal.decreases-loop-token
decreases-loop-token l = goal.left-loop-token l
