use Rattle.cpp_cond.proofs.ReadingLaws.{kept_on}
use Rattle.cpp_cond.proofs.evaluation.Evaluation.complete.Goals as goal

pub loop-pending-preserved : goal.loop-pending-preserved
loop-pending-preserved c = kept_on _ _ _ _ _ _ _ _ _ c.in-Some.ensures c.in_ok-value.ensures c.loop-pending.invariant
