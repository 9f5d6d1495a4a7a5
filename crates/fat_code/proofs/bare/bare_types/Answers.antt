use Rattle.std.proofs.Common.{arith}
use Rattle.fat_code.proofs.Stripping.{all_bare}
use Rattle.fat_code.proofs.bare.bare_types.Goals as goal

pub returns : goal.returns
returns c = all_bare c.args.nodes.now c.loop-left.stripped c.loop-left.left (omega arith) c.loop-left.invariant
