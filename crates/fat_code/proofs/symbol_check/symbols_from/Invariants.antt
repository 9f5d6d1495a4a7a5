use Rattle.fat_code.specs.Walking.{HasWalked}
use Rattle.fat_code.specs.Lengths.{symbol_bytes}
use Rattle.fat_code.specs.UnitRows.{symbol_rows}
use Rattle.fat_code.proofs.symbol_check.symbols_from.Given as goal

abbrev pub invariant-loop-item : goal.invariant-loop-item
invariant-loop-item l = HasWalked (symbol_rows l.unit) symbol_bytes l.symbols l.start l.item-index l.at
