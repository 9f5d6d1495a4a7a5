use Rattle.plain_image.proofs.Placement.{code_more, code_done}
use Rattle.plain_image.proofs.code.Goals as goal

pub returns : goal.returns
returns c = code_done c.args.bytes.now c.loop-byte.byte-index c.args.status c.loop-byte.code.items _ c.loop-byte-test.false c.loop-byte.invariant c.in_ok-emit_epilogue.ensures

pub loop-byte-preserved : goal.loop-byte-preserved
loop-byte-preserved c = code_more c.args.bytes.now c.loop-byte.byte-index c.loop-byte.code.items _ c.loop-byte-test.true c.loop-byte.invariant c.in_ok-emit_byte.ensures
