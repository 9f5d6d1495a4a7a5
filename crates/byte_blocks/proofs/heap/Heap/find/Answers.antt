use Rattle.std.proofs.Common.{inl, inr, arith}
use Rattle.byte_blocks.specs.Counts.{heap_of}
use Rattle.c_memory.proofs.Places.{block_at-past, block_at-read}
use Rattle.byte_blocks.proofs.heap.Heap.find.Goals as goal
use Rattle.byte_blocks.proofs.heap.Heap.find.Goals.{else-number-ge1-via-then-number-ge1+else-number-len, else-number-ge1-via-else-number-ge1}

pub returns-then-number-len : goal.returns-then-number-len
returns-then-number-len c =
    let heap = heap_of c.self.inside.blocks.items c.self.inside.tally in
    rw (← c.self.view_is) (block_at-read heap c.args.number c.index.result.now (omega arith) (omega arith) c.index.ensures)

pub returns-else-number-ge1 : goal.returns-else-number-ge1
returns-else-number-ge1 c =
    let heap = heap_of c.self.inside.blocks.items c.self.inside.tally in
    elim c.else-number-ge1.branch [
      | else-number-ge1-via-then-number-ge1+else-number-len w ↦ rw (← c.self.view_is) (block_at-past heap c.args.number (inr (omega arith)))
      | else-number-ge1-via-else-number-ge1 w ↦ rw (← c.self.view_is) (block_at-past heap c.args.number (inl (omega arith)))
    ]
