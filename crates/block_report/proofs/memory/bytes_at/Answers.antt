use Rattle.std.proofs.Common.{sym, suc, arith}
use Rattle.block_report.proofs.Words.{cut, lacks}
use Rattle.block_report.proofs.memory.bytes_at.Goals as goal

pub returns-in_default : goal.returns-in_default
returns-in_default c =
    sym (lacks c.args.machine.now c.args.at (suc c.loop-i.i) c.args.words (omega arith)
    (cut c.args.machine.now c.args.at _ c.loop-i.i c.loop-i.bytes.items c.loop-i.invariant (omega (arith, c.from.ensures)) (sym c.in_default.ensures)))
