use Rattle.fat_code.specs.Walking.{HasWalkedOps}
use Rattle.fat_code.proofs.op_check.operations.Given as goal

abbrev pub invariant-loop-index : goal.invariant-loop-index
invariant-loop-index l = HasWalkedOps l.unit l.function l.start l.index l.at l.reached
