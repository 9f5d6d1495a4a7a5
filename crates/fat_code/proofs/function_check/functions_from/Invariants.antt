use Rattle.fat_code.specs.Lengths.{function_bytes}
use Rattle.fat_code.specs.FunctionRows.{function_rows}
use Rattle.fat_code.specs.Walking.{HasWalked, HasSummed}
use Rattle.fat_code.proofs.function_check.functions_from.Given as goal

abbrev pub invariant-loop-item : goal.invariant-loop-item
invariant-loop-item l = record {
  walked : HasWalked (function_rows l.unit) function_bytes l.unit.functions l.start l.item-index l.at;
  summed : HasSummed l.unit.functions l.item-index l.so_far;
}
