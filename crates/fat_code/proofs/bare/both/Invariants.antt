use Rattle.std.proofs.Common.{◌≡◌, map, take}
use Rattle.fat_code.specs.Bare.{followed}
use Rattle.fat_code.proofs.bare.both.Given as goal

abbrev pub invariant-loop-id : goal.invariant-loop-id
invariant-loop-id l = l.table.items ≡ map (followed l.behind) (take l.id-index l.first)
