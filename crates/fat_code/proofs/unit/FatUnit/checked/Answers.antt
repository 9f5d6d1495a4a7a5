use Rattle.fat_code.specs.Faults.{fault_of}
use Rattle.fat_code.proofs.unit.FatUnit.checked.Goals as goal

pub invariant_of-result : goal.invariant_of-result
unfolding fault_of
invariant_of-result c = c.in_ok-check.ensures.1
