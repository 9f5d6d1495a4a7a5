use Rattle.std.proofs.Common.{◌*◌, ◌/◌, arith}
use Rattle.cell_store.proofs.Seen.{kept_empty}
use Rattle.cell_store.proofs.store.CellStore.new.Goals as goal

pub invariant_of-result : goal.invariant_of-result
invariant_of-result c =
    let count = c.in_ok-resize.ensures.len in
    let all = c.resize.new.self.ok.0 in
    kept_empty c.resize.new.self.items c.in_ok-new.field-0 (c.args.bytes / 16 * 16) (omega arith) (omega arith) (omega (arith, count, all))
    c.in_ok-new.ensures.bottom c.in_ok-new.ensures.taken c.in_ok-new.ensures.lists c.in_ok-new.ensures.free
