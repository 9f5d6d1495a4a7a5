use Rattle.type_desc.proofs.DescriptorLaws.{one_spelling, reads_back}
use Rattle.type_desc.proofs.laws.descriptors_read_back.Goals as goal

pub returns : goal.returns
returns c = record { one = one_spelling; back = reads_back }
