use Rattle.std.specs.Option.{option_copied}
use Rattle.std.proofs.lemmas.Result.{err_from_is_err_and}
use Rattle.fat_code.proofs.Walks.{get_next, get_fault}
use Rattle.fat_code.proofs.op_check.operations.Goals as goal

pub returns-in_err-at : goal.returns-in_err-at
returns-in_err-at c =
    let p = err_from_is_err_and c.from_residual.result c.from_residual.ensures.1 in
    rw (p.1, p.2) (get_fault c.args.unit.now c.args.function.now c.args.start c.loop-index.index c.loop-index.at c.loop-index.reached c.as_slice-ops.result.now _
    (option_copied c.at.result) c.in_err-at.field-0.0 c.as_slice-ops.ensures c.loop-index-test.true c.at.ensures c.loop-index.invariant c.in_err-at.ensures)

pub loop-index-preserved : goal.loop-index-preserved
loop-index-preserved c =
    rw c.reached_behind-reached.ensures (get_next c.args.unit.now c.args.function.now c.args.start c.loop-index.index c.loop-index.at c.in_ok-at.at c.loop-index.reached
    c.as_slice-ops.result.now _ (option_copied c.at.result) c.as_slice-ops.ensures c.loop-index-test.true c.at.ensures c.loop-index.invariant
    c.in_ok-at.ensures.0 c.in_ok-at.ensures.1)
