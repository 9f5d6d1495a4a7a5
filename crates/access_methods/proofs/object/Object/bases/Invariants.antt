use Rattle.std.proofs.Common.{◌-◌, ◌/◌, vec_len}
use Rattle.access_methods.proofs.Taking.{BasesTaken}
use Rattle.access_methods.proofs.object.Object.bases.Given as goal

abbrev pub invariant-loop-w : goal.invariant-loop-w
invariant-loop-w l = BasesTaken l.store l.self l.to l.from l.n (l.w - l.to / 4) (vec_len l.bases) l.bases.items
