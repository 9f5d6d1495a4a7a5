use Rattle.std.proofs.Common.{inl, inr}
use Rattle.c_memory.proofs.LowBytes.{take-bytes, with_word-no_base}
use Rattle.byte_blocks.proofs.block.Block.put_word.Goals as goal
use Rattle.byte_blocks.proofs.block.Block.put_word.Goals.{else-n-eq4-via-then-n-eq4+else-offset-eq0, else-n-eq4-via-else-n-eq4}

pub returns-else-n-eq4 : goal.returns-else-n-eq4
returns-else-n-eq4 c =
    let bytes = take-bytes c.args.n c.args.what.value c.requires.few in
    rw (c.put_bytes.ensures, c.to_le_bytes.ensures, bytes)
    (with_word-no_base c.args.self.now c.args.offset c.args.n c.args.what
    (elim c.else-n-eq4.branch [
      | else-n-eq4-via-then-n-eq4+else-offset-eq0 w ↦ inr w.if-offset-eq0.false
      | else-n-eq4-via-else-n-eq4 w ↦ inl w.if-n-eq4.false
    ]))
