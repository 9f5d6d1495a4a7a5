use Rattle.c_types.proofs.Placing.{aligning_none}
use Rattle.c_types.proofs.record.align_of_parts.Goals as goal

pub loop-part-init : goal.loop-part-init
loop-part-init c = aligning_none c.args.parts.now c.requires
