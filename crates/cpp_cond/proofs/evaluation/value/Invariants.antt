use Rattle.std.proofs.Common.{◌≡◌, length}
use Rattle.cpp_cond.specs.Reading.{read, start}
use Rattle.cpp_cond.proofs.evaluation.value.Given as goal

abbrev pub invariant-loop-rest : goal.invariant-loop-rest
invariant-loop-rest l = read l.evaluation l.rest ≡ read start l.fn.terms

abbrev pub decreases-loop-rest : goal.decreases-loop-rest
decreases-loop-rest l = length l.rest
