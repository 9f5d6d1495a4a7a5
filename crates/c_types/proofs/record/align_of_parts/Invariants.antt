use Rattle.c_types.proofs.Placing.{Aligning}
use Rattle.c_types.proofs.record.align_of_parts.Given as goal

abbrev pub invariant-loop-part : goal.invariant-loop-part
invariant-loop-part l = Aligning l.parts l.part-index l.align
