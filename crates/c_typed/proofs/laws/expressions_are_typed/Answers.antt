use Rattle.c_typed.proofs.Sums.{sum_typed}
use Rattle.c_typed.proofs.laws.expressions_are_typed.Goals as goal

pub returns : goal.returns
returns c = sum_typed
