use Rattle.std.proofs.Common.{◌≡◌, ◌+◌, map, sum, take}
use Rattle.c_tree.specs.Counting.{most, nodes_of}
use Rattle.c_tree.specs.Bulk.{weighed, type_bulk, symbol_bulk, object_bulk}
use Rattle.c_tree.proofs.weighing.bulk.Given as goal

abbrev pub invariant-symbols : goal.invariant-symbols
invariant-symbols l = l.sum ≡ most (
    weighed (nodes_of l.fn.u) 0 0 + sum (map type_bulk l.fn.u.types) + sum (map symbol_bulk (take l.symbol-index l.fn.u.symbols))
    )

abbrev pub invariant-objects : goal.invariant-objects
invariant-objects l = l.sum ≡ most (
    weighed (nodes_of l.fn.u) 0 0 + sum (map type_bulk l.fn.u.types) + sum (map symbol_bulk l.fn.u.symbols)
    + sum (map object_bulk (take l.object-index l.fn.u.objects))
    )
