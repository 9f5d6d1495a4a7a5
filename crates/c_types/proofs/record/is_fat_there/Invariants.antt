use Rattle.c_types.proofs.Looking.{Looked}
use Rattle.c_types.proofs.record.is_fat_there.Given as goal

abbrev pub invariant-loop-place : goal.invariant-loop-place
invariant-loop-place l = Looked l.places l.place-index l.w
