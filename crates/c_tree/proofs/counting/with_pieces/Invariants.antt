use Rattle.std.proofs.Common.{◌≡◌, ◌+◌, map, sum, take}
use Rattle.c_tree.specs.Counting.{most, piece_nodes}
use Rattle.c_tree.proofs.counting.with_pieces.Given as goal

abbrev pub invariant-pieces : goal.invariant-pieces
invariant-pieces l = l.count ≡ most (l.fn.before + sum (map piece_nodes (take l.piece-index l.fn.pieces)))
