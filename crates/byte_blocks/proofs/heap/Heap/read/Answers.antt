use Rattle.c_memory.proofs.Accesses.{around}
use Rattle.byte_blocks.proofs.heap.Heap.read.Goals as goal

pub word-requires-clause-within : goal.word-requires-clause-within
word-requires-clause-within c =
    let there = around c.args.self.now c.args.at c.bytes_of-n.result c.in-Some.block.now c.in-Some.ensures.block in
    rw c.distance.ensures there.fits
