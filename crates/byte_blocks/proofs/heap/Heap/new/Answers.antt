use Rattle.std.proofs.Common.{refl}
use Rattle.byte_blocks.proofs.heap.Heap.new.Goals as goal

pub returns : goal.returns
returns c = rw (c.new.ensures.items, c.new-2.ensures.greatest) refl
