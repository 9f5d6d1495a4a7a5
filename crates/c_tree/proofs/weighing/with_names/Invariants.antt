use Rattle.std.proofs.Common.{◌≡◌, ◌+◌, map, sum, take}
use Rattle.c_tree.specs.Counting.{most}
use Rattle.c_tree.specs.Bulk.{field_bytes}
use Rattle.c_tree.proofs.weighing.with_names.Given as goal

abbrev pub invariant-fields : goal.invariant-fields
invariant-fields l = l.bytes ≡ most (l.fn.before + sum (map field_bytes (take l.field-index l.fn.fields)))
