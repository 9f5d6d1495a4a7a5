use Rattle.c_types.proofs.Placing.{Lying}
use Rattle.c_types.proofs.record.place_union.Given as goal

abbrev pub invariant-loop-part : goal.invariant-loop-part
invariant-loop-part l = Lying l.parts l.part-index l.places.items l.end
