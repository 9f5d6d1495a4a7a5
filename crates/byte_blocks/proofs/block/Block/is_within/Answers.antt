use Rattle.std.proofs.Common.{◌+◌, leb-true, arith}
use Rattle.byte_blocks.proofs.block.Block.is_within.Goals as goal

pub returns-then-self-clause-reach : goal.returns-then-self-clause-reach
returns-then-self-clause-reach c h =
    let fits = leb-true (c.from.result + c.from-then-self.result) c.from-then-self-2.result h in
    omega arith
