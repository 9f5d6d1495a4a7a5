use Rattle.std.proofs.Common.{◌-◌, length}
use Rattle.access_methods.proofs.Filling.{BytesSoFar}
use Rattle.access_methods.proofs.object.Object.set_bytes.Given as goal

abbrev pub invariant-loop-done : goal.invariant-loop-done
invariant-loop-done l = BytesSoFar l.fn.store l.store l.self l.offset l.done l.bytes

abbrev pub decreases-loop-done : goal.decreases-loop-done
decreases-loop-done l = length l.bytes - l.done
