use Rattle.std.proofs.Common.{◌≡◌, ◌++◌, take, map}
use Rattle.fsc_ending.specs.Lives.{letter_of}
use Rattle.fsc_ending.proofs.lives.add_letters.Given as goal

abbrev pub invariant-loop-kind : goal.invariant-loop-kind
invariant-loop-kind l = l.line.items ≡ l.fn.line.items ++ map letter_of (take l.kind-index l.kinds)
