use Rattle.c_lexer.proofs.LexingLaws.{one_list}
use Rattle.c_lexer.proofs.lexing.one_meaning.Goals as goal

pub returns-clause-one : goal.returns-clause-one
returns-clause-one c = one_list

pub returns-clause-unbroken : goal.returns-clause-unbroken
returns-clause-unbroken c = λ list tokens lexed. lexed.unbroken
