use Rattle.std.proofs.Common.{◌≡◌, Some}
use Rattle.block_report.specs.Memory.{bytes_at}
use Rattle.block_report.proofs.memory.bytes_at.Given as goal

abbrev pub invariant-loop-i : goal.invariant-loop-i
invariant-loop-i l = bytes_at l.machine l.at l.i ≡ Some l.bytes.items
