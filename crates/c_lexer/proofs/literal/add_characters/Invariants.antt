use Rattle.std.proofs.Common.{length}
use Rattle.c_lexer.proofs.CharacterLaws.{Added}
use Rattle.c_lexer.proofs.literal.add_characters.Given as goal

abbrev pub invariant-loop-rest : goal.invariant-loop-rest
invariant-loop-rest l = Added l.fn.bytes.items l.bytes.items l.fn.text l.rest

abbrev pub decreases-loop-rest : goal.decreases-loop-rest
decreases-loop-rest l = length l.rest
