use Rattle.c_lexer.proofs.LexingLaws.{all_end}
use Rattle.c_lexer.proofs.lexing.tokens.Goals as goal

pub returns-clause-ends : goal.returns-clause-ends
returns-clause-ends c = λ ends. all_end c.args.pp.now.tokens c.lex.result c.lex.ensures.lexed ends
