use Rattle.std.proofs.Common.{◌≡◌, ◌+◌, map, sum, take}
use Rattle.c_tree.specs.Counting.{most, function_nodes, object_nodes}
use Rattle.c_tree.proofs.counting.nodes.Given as goal

abbrev pub invariant-functions : goal.invariant-functions
invariant-functions l = l.count ≡ most (sum (map function_nodes (take l.f-index l.fn.u.functions)))

abbrev pub invariant-objects : goal.invariant-objects
invariant-objects l =
    l.count ≡ most (sum (map function_nodes l.fn.u.functions) + sum (map object_nodes (take l.object-index l.fn.u.objects)))
