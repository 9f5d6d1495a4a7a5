use Rattle.fat_code.specs.Bare.{IsAfter}
use Rattle.fat_code.proofs.bare.one_step.Given as goal

abbrev pub invariant-loop-index : goal.invariant-loop-index
invariant-loop-index l = IsAfter l.nodes 1 l.index l.table.items
