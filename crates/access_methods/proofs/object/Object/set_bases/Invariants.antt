use Rattle.access_methods.proofs.Filling.{BasesSoFar}
use Rattle.access_methods.proofs.object.Object.set_bases.Given as goal

abbrev pub invariant-loop-k : goal.invariant-loop-k
invariant-loop-k l = BasesSoFar l.fn.store l.store l.self l.w l.k l.bases
