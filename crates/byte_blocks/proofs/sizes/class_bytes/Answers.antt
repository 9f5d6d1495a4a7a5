use Rattle.byte_blocks.proofs.Classes.{get_or-doubling}
use Rattle.byte_blocks.proofs.sizes.class_bytes.Goals as goal

pub returns : goal.returns
returns c = get_or-doubling 30 16 c.args.class c.requires
