use Rattle.c_grammar.proofs.Nearest.{else_is_nearest}
use Rattle.c_grammar.proofs.laws.else_is_nearest.Goals as goal

pub returns : goal.returns
returns c = else_is_nearest
