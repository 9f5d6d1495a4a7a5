use Rattle.fat_code.specs.Walking.{HasWalked}
use Rattle.fat_code.specs.Lengths.{entry_bytes}
use Rattle.fat_code.specs.FunctionRows.{entry_rows}
use Rattle.fat_code.proofs.function_check.entries_from.Given as goal

abbrev pub invariant-loop-item : goal.invariant-loop-item
invariant-loop-item l = HasWalked (entry_rows l.unit) entry_bytes l.entries l.start l.item-index l.at
