use Rattle.c_lexer.proofs.Digits.{counted}
use Rattle.c_lexer.proofs.integer.split_digits.Goals as goal

pub returns-clause-digits : goal.returns-clause-digits
returns-clause-digits c = rw (c.split_at.ensures.front, c.count_digits.ensures.count) (counted c.args.base c.args.text.now)
