use Rattle.fat_code.specs.Walking.{HasWalked}
use Rattle.fat_code.specs.Lengths.{shape_bytes}
use Rattle.fat_code.specs.UnitRows.{shape_rows}
use Rattle.fat_code.proofs.shape_check.shapes_from.Given as goal

abbrev pub invariant-loop-kinds : goal.invariant-loop-kinds
invariant-loop-kinds l = HasWalked shape_rows shape_bytes l.shapes l.start l.kinds-index l.at
