use Rattle.c_types.proofs.Placing.{Placing}
use Rattle.c_types.proofs.record.place_struct.Given as goal

abbrev pub invariant-loop-part : goal.invariant-loop-part
invariant-loop-part l = Placing l.parts l.part-index l.places.items l.end
