use Rattle.std.proofs.Common.{drop}
use Rattle.cpp_cond.proofs.TermLaws.{SoFar}
use Rattle.cpp_cond.proofs.term.read_terms.Given as goal

abbrev pub invariant-loop-token : goal.invariant-loop-token
invariant-loop-token l = SoFar l.fn.tokens l.fn.hash (drop l.token-index l.fn.tokens) l.terms.items
