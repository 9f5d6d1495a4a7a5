use Rattle.type_desc.proofs.DescriptorLaws.{no_kind}
use Rattle.type_desc.proofs.descriptor.kinds_of.Goals as goal

pub returns-in_default : goal.returns-in_default
returns-in_default c = no_kind c.args.bytes.now c.loop-byte.byte-index c.loop-byte-test.true (rw c.in_default.is at c.kind_of.ensures)
