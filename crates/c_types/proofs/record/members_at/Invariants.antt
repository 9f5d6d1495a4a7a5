use Rattle.c_types.proofs.Gathering.{Gathered}
use Rattle.c_types.proofs.record.members_at.Given as goal

abbrev pub invariant-loop-place : goal.invariant-loop-place
invariant-loop-place l = Gathered l.places l.place-index l.members.items
