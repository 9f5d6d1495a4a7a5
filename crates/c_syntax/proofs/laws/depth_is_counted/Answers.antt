use Rattle.std.proofs.Common.{refl}
use Rattle.c_syntax.specs.Depth.{expr_in}
use Rattle.c_syntax.proofs.laws.depth_is_counted.Goals as goal

pub returns-clause-name : goal.returns-clause-name
returns-clause-name c e name is = (rw (is, expr_in) refl, refl)

pub returns-clause-parentheses : goal.returns-clause-parentheses
returns-clause-parentheses c e inside depth is = rw (is, expr_in) refl

pub returns-clause-comma : goal.returns-clause-comma
returns-clause-comma c e parts depth is = rw (is, expr_in) refl
