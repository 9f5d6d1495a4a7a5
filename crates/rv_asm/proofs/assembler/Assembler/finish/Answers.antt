use Rattle.std.proofs.Common.{ap}
use Rattle.rv_asm.specs.Items.{Assembly}
use Rattle.rv_asm.proofs.Spelling.{finished}
use Rattle.rv_asm.proofs.assembler.Assembler.finish.Goals as goal

pub returns : goal.returns
returns c =
    finished c.in_ok-bytes.bytes.items c.add_items.new.bytes.items c.from_vec.result c.self.inside.places c.as_slice.result.now c.self.inside.items c.args.self.items
    c.in_ok-bytes.ensures.items c.as_slice.ensures (ap (λ (a : Assembly). a.items) c.self.view_is) c.from_vec.ensures c.self.invariant.3 c.in_ok-add_items.ensures
