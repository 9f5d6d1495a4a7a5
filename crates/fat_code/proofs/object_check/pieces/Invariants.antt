use Rattle.fat_code.specs.Walking.{HasWalked}
use Rattle.fat_code.specs.Lengths.{piece_bytes}
use Rattle.fat_code.specs.UnitRows.{piece_rows}
use Rattle.fat_code.proofs.object_check.pieces.Given as goal

abbrev pub invariant-loop-item : goal.invariant-loop-item
invariant-loop-item l = HasWalked (piece_rows l.unit l.size) piece_bytes l.pieces l.start l.item-index l.at
