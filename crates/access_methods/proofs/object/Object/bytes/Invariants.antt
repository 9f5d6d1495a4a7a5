use Rattle.std.proofs.Common.{vec_len}
use Rattle.access_methods.proofs.Taking.{BytesTaken}
use Rattle.access_methods.proofs.object.Object.bytes.Given as goal

abbrev pub invariant-loop-k : goal.invariant-loop-k
invariant-loop-k l = BytesTaken l.store l.self l.offset l.k (vec_len l.bytes) l.bytes.items
