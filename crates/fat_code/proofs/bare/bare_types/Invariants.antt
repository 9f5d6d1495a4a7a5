use Rattle.fat_code.specs.Bare.{AreComing}
use Rattle.fat_code.proofs.bare.bare_types.Given as goal

abbrev pub invariant-loop-left : goal.invariant-loop-left
invariant-loop-left l = AreComing l.nodes l.stripped l.left

abbrev pub decreases-loop-left : goal.decreases-loop-left
decreases-loop-left l = l.left
