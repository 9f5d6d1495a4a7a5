use Rattle.std.proofs.Common.{refl}
use Rattle.c_types.specs.declared.node.TypeNode.TheVariants.{Void}
use Rattle.c_types.proofs.Keeping.{none_kept}
use Rattle.c_types.proofs.laid.LaidNodes.new.Goals as goal

pub invariant_of-result : goal.invariant_of-result
invariant_of-result c = rw c.new.ensures.items (none_kept Void refl)
