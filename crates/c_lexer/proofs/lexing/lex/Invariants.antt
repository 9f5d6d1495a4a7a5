use Rattle.std.proofs.Common.{drop}
use Rattle.c_lexer.proofs.LexingLaws.{SoFar}
use Rattle.c_lexer.proofs.lexing.lex.Given as goal

abbrev pub invariant-loop-token : goal.invariant-loop-token
invariant-loop-token l = SoFar l.fn.list (drop l.token-index l.fn.list) l.lexer
