use Rattle.fat_code.specs.Walking.{HasWalked}
use Rattle.fat_code.specs.Lengths.{object_bytes}
use Rattle.fat_code.specs.UnitRows.{object_rows}
use Rattle.fat_code.proofs.object_check.objects_from.Given as goal

abbrev pub invariant-loop-item : goal.invariant-loop-item
invariant-loop-item l = HasWalked (object_rows l.unit) object_bytes l.objects l.start l.item-index l.at
