use Rattle.std.proofs.Common.{sym}
use Rattle.std.proofs.lemmas.Result.{err_from_is_err_and}
use Rattle.fat_code.specs.Lengths.{member_bytes}
use Rattle.fat_code.specs.TypeRows.{member_rows}
use Rattle.fat_code.proofs.Walks.{walked_fault}
use Rattle.fat_code.proofs.member_check.members.Goals as goal

pub returns-in_err-at : goal.returns-in_err-at
returns-in_err-at c =
    let p = err_from_is_err_and c.from_residual.result c.from_residual.ensures.1 in
    rw (p.1, p.2) (walked_fault (member_rows c.args.version c.args.nodes.now c.args.is_union c.args.fields.now) (member_bytes c.args.version) c.args.fields.now c.args.start
    c.loop-index.index c.loop-index.at c.index-fields-index.result c.in_err-at.field-0.0 c.loop-index-test.true c.index-fields-index.is c.loop-index.invariant
    (rw (sym c.before_in-before.ensures) c.in_err-at.ensures))
