use Rattle.std.proofs.Common.{◌≡◌, length}
use Rattle.cpp_cond.specs.Reading.{complete}
use Rattle.cpp_cond.proofs.evaluation.Evaluation.complete.Given as goal

abbrev pub invariant-loop-pending : goal.invariant-loop-pending
invariant-loop-pending l =
    (complete l.fn.level l.self.pending l.self.live l.value ≡ complete l.fn.level l.fn.self.pending l.fn.self.live l.fn.operand) × (l.self.operand ≡ l.fn.self.operand)

abbrev pub decreases-loop-pending : goal.decreases-loop-pending
decreases-loop-pending l = length l.self.pending
