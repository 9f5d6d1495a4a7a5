use Rattle.fat_code.specs.Walking.{HasWalked}
use Rattle.fat_code.specs.TypeRows.{parameter_rows, four_bytes}
use Rattle.fat_code.proofs.type_check.parameters.Given as goal

abbrev pub invariant-loop-parameter : goal.invariant-loop-parameter
invariant-loop-parameter l = HasWalked (parameter_rows l.nodes l.own) four_bytes l.parameters l.start l.parameter-index l.at
