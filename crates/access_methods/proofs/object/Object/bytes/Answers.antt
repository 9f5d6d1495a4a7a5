use Rattle.std.proofs.Common.{vec_len, arith}
use Rattle.access_methods.proofs.Taking.{bytes_push}
use Rattle.access_methods.proofs.object.Object.bytes.Goals as goal

pub loop-k-preserved : goal.loop-k-preserved
loop-k-preserved c =
    bytes_push c.args.store.now c.args.self.now c.args.offset c.loop-k.k (vec_len c.loop-k.bytes) (vec_len c.push.new.self) c.byte.result
    c.loop-k.bytes.items c.push.new.self.items c.loop-k.invariant (omega arith) c.byte.ensures c.in_ok-push.ensures.len c.in_ok-push.ensures.items
