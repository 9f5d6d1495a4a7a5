use Rattle.fat_code.specs.Walking.{HasWalked}
use Rattle.fat_code.specs.Lengths.{node_bytes}
use Rattle.fat_code.specs.TypeRows.{node_rows}
use Rattle.fat_code.proofs.type_check.nodes_from.Given as goal

abbrev pub invariant-loop-index : goal.invariant-loop-index
invariant-loop-index l = HasWalked (node_rows l.version l.nodes) (node_bytes l.version) l.nodes l.start l.index l.at
