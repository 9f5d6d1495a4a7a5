use Rattle.std.proofs.Common.{◌≡◌, ◌+◌, List, None, subst}
use Rattle.std.specs.Option.{option_copied}
use Rattle.std.proofs.lemmas.Result.{err_from_is_err_and}
use Rattle.fat_code.specs.declared.op.Op.{Op}
use Rattle.fat_code.specs.Lengths.{op_bytes}
use Rattle.fat_code.specs.OpRows.{number_rows}
use Rattle.fat_code.specs.Rows.{first_fault}
use Rattle.fat_code.specs.Walking.{IsFirst, height_rows_by}
use Rattle.fat_code.proofs.Walks.{first_front, checks_behind}
use Rattle.fat_code.proofs.op_check.operation.Goals as goal

pub returns-in_err-heights : goal.returns-in_err-heights
returns-in_err-heights c =
    let p = err_from_is_err_and c.from_residual.result c.from_residual.ensures.1 in
    let refusal = c.in_err-heights.field-0.0 in
    let first = subst (λ (ops : List Op). IsFirst (height_rows_by ops c.args.reached c.args.at c.args.op (option_copied c.args.next)) refusal)
    c.as_slice.ensures c.in_err-heights.ensures in
    rw (p.1, p.2) (first_front (height_rows_by c.args.function.now.ops c.args.reached c.args.at c.args.op (option_copied c.args.next))
    (number_rows c.args.unit.now c.args.function.now c.args.at c.args.op) refusal first)

pub returns : goal.returns
returns c =
    let none = subst (λ (ops : List Op). first_fault (height_rows_by ops c.args.reached c.args.at c.args.op (option_copied c.args.next)) ≡ None)
    c.as_slice.ensures c.in_ok-heights.ensures in
    checks_behind (height_rows_by c.args.function.now.ops c.args.reached c.args.at c.args.op (option_copied c.args.next))
    (number_rows c.args.unit.now c.args.function.now c.args.at c.args.op) (c.args.at + op_bytes c.args.op) c.numbers.result none c.numbers.ensures
