use Rattle.std.proofs.Common.{◌≡◌, ◌+◌, map, sum, take}
use Rattle.c_tree.specs.Counting.{most, statement_nodes}
use Rattle.c_tree.proofs.counting.+statements.Given as goal

abbrev pub invariant-with_statements-statements : goal.invariant-with_statements-statements
invariant-with_statements-statements l = l.count ≡ most (l.fn.before + sum (map statement_nodes (take l.s-index l.fn.statements)))
