use Rattle.std.proofs.Common.{◌≡◌, ◌+◌, map, sum, take}
use Rattle.c_tree.specs.Counting.{most}
use Rattle.c_tree.specs.Bulk.{type_bulk}
use Rattle.c_tree.proofs.weighing.with_types.Given as goal

abbrev pub invariant-types : goal.invariant-types
invariant-types l = l.bulk ≡ most (l.fn.before + sum (map type_bulk (take l.index l.fn.types)))
