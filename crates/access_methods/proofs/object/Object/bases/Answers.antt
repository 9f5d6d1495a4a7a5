use Rattle.std.proofs.Common.{◌+◌, ◌-◌, ◌/◌, vec_len, arith}
use Rattle.access_methods.proofs.Taking.{bases_push}
use Rattle.access_methods.proofs.object.Object.bases.Goals as goal

pub loop-w-preserved : goal.loop-w-preserved
loop-w-preserved c =
    bases_push c.args.store.now c.args.self.now c.args.to c.args.from c.args.n (c.loop-w.w - c.args.to / 4) (c.loop-w.w + 1 - c.args.to / 4) c.loop-w.w
    (vec_len c.loop-w.bases) (vec_len c.push.new.self) c.copied_base.result c.loop-w.bases.items c.push.new.self.items
    c.loop-w.invariant (omega arith) (omega arith) c.copied_base.ensures c.in_ok-push.ensures.len c.in_ok-push.ensures.items
