use Rattle.c_shapes.proofs.Watching.{watching_is_silent}
use Rattle.c_shapes.proofs.laws.runs_are_watched.Goals as goal

pub returns : goal.returns
returns g c = watching_is_silent
