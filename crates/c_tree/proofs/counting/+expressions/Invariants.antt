use Rattle.std.proofs.Common.{◌≡◌, ◌+◌, map, sum, take}
use Rattle.c_tree.specs.Counting.{most, expression_nodes}
use Rattle.c_tree.proofs.counting.+expressions.Given as goal

abbrev pub invariant-with_expressions-items : goal.invariant-with_expressions-items
invariant-with_expressions-items l = l.count ≡ most (l.fn.before + sum (map expression_nodes (take l.item-index l.fn.items)))
