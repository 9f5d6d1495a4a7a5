use Rattle.std.proofs.lemmas.Result.{err_from_is_err_and}
use Rattle.fat_code.specs.Lengths.{object_bytes}
use Rattle.fat_code.specs.UnitRows.{object_rows}
use Rattle.fat_code.proofs.Walks.{walked_next, walked_fault}
use Rattle.fat_code.proofs.object_check.objects_from.Goals as goal

pub returns-in_err-at : goal.returns-in_err-at
returns-in_err-at c =
    let p = err_from_is_err_and c.from_residual.result c.from_residual.ensures.1 in
    rw (p.1, p.2) (walked_fault (object_rows c.args.unit.now) object_bytes c.args.objects.now c.args.start c.loop-item.item-index c.loop-item.at
    c.item-item.result c.in_err-at.field-0.0 c.loop-item-test.true c.item-item.is c.loop-item.invariant c.in_err-at.ensures)

pub loop-item-preserved : goal.loop-item-preserved
loop-item-preserved c =
    walked_next (object_rows c.args.unit.now) object_bytes c.args.objects.now c.args.start c.loop-item.item-index c.loop-item.at c.in_ok-at.at
    c.item-item.result c.loop-item-test.true c.item-item.is c.loop-item.invariant c.in_ok-at.ensures.0 c.in_ok-at.ensures.1
