use Rattle.std.proofs.Common.{refl}
use Rattle.c_shapes.specs.Away.{watched_access}
use Rattle.c_shapes.proofs.laws.block_is_watched.Goals as goal

pub returns-clause-five : goal.returns-clause-five
unfolding watched_access
returns-clause-five c = (refl, refl)

pub returns-clause-failing : goal.returns-clause-failing
unfolding watched_access
returns-clause-failing c = refl

pub returns-clause-nothing : goal.returns-clause-nothing
unfolding watched_access
returns-clause-nothing c = refl

pub returns-clause-misplaced : goal.returns-clause-misplaced
unfolding watched_access
returns-clause-misplaced c = refl
