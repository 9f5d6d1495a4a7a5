use Rattle.std.proofs.Common.{refl}
use Rattle.c_lexer.specs.declared.punctuator.Punctuator.TheVariants.{Plus, Star}
use Rattle.c_grammar.specs.Samples.{on}
use Rattle.c_grammar.specs.Tokens.{binary_of}
use Rattle.c_grammar.specs.Levels.{level_of}
use Rattle.c_grammar.specs.Expressions.{name, operation}
use Rattle.c_grammar.proofs.Binding.{loosened, left_binds, right_binds, no_sum}
use Rattle.c_grammar.proofs.laws.operators_group.Goals as goal

pub returns-clause-sum : goal.returns-clause-sum
unfolding binary_of level_of
returns-clause-sum c = loosened 11 (operation Plus (on 2) refl refl (loosened 5 (name refl)) (operation Star (on 4) refl refl (loosened 4 (name refl)) (loosened 3 (name refl))))

pub returns-clause-left : goal.returns-clause-left
returns-clause-left c = left_binds

pub returns-clause-right : goal.returns-clause-right
returns-clause-right c = right_binds

pub returns-clause-wrong : goal.returns-clause-wrong
returns-clause-wrong c = no_sum
