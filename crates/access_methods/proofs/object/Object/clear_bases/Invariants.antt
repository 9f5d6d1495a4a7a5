use Rattle.std.proofs.Common.{◌-◌, ◌/◌, replicate}
use Rattle.c_memory.specs.Access.{touched}
use Rattle.access_methods.proofs.Filling.{BasesSoFar}
use Rattle.access_methods.proofs.object.Object.clear_bases.Given as goal

abbrev pub invariant-loop-w : goal.invariant-loop-w
invariant-loop-w l = BasesSoFar l.fn.store l.store l.self (l.offset / 4) (l.w - l.offset / 4) (replicate (touched l.offset l.n) 0)
