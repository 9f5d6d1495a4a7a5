use Rattle.std.proofs.lemmas.Result.{err_from_is_err_and}
use Rattle.fat_code.specs.Lengths.{node_bytes}
use Rattle.fat_code.specs.TypeRows.{node_rows}
use Rattle.fat_code.proofs.Walks.{walked_next, walked_fault}
use Rattle.fat_code.proofs.type_check.nodes_from.Goals as goal

pub returns-in_err-at : goal.returns-in_err-at
returns-in_err-at c =
    let p = err_from_is_err_and c.from_residual.result c.from_residual.ensures.1 in
    rw (p.1, p.2) (walked_fault (node_rows c.args.version c.args.nodes.now) (node_bytes c.args.version) c.args.nodes.now c.args.start c.loop-index.index c.loop-index.at
    c.index-nodes-index.result c.in_err-at.field-0.0 c.loop-index-test.true c.index-nodes-index.is c.loop-index.invariant c.in_err-at.ensures)

pub loop-index-preserved : goal.loop-index-preserved
loop-index-preserved c =
    walked_next (node_rows c.args.version c.args.nodes.now) (node_bytes c.args.version) c.args.nodes.now c.args.start c.loop-index.index c.loop-index.at c.in_ok-at.at
    c.index-nodes-index.result c.loop-index-test.true c.index-nodes-index.is c.loop-index.invariant c.in_ok-at.ensures.0 c.in_ok-at.ensures.1
