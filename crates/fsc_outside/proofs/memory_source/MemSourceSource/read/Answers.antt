use Rattle.std.proofs.Common.{ap, sym, arith, ◌≡◌, take, ◌≤◌, length}
use Rattle.std.proofs.lemmas.Grind.{common_steps}
use Rattle.fsc_outside.specs.Memory.{SourceState}
use Rattle.fsc_outside.proofs.Taken.{takes_front}
use Rattle.fsc_outside.proofs.memory_source.MemSourceSource.read.Goals as goal

pub returns-clause-taken : goal.returns-clause-taken
returns-clause-taken c =
    let left = ap (λ (s : SourceState). s.left) (sym c.self.view_is) in
    let fits : c.min-count.result ≤ length c.args.self.now.left = grind (arith, common_steps) in
    let same : c.copy_from_slice.new.self ≡ take c.min-count.result c.args.self.now.left = grind (arith, common_steps) in
    takes_front c.self.inside.bytes.items c.args.self.now.left c.copy_from_slice.new.self c.args.buffer.now c.self.inside.taken c.min-count.result left fits same
