use Rattle.std.proofs.Common.{◌≡◌, ℕ, ◌+◌, None, subst, arith}
use Rattle.std.proofs.lemmas.Result.{err_from_is_err_and}
use Rattle.fat_code.specs.Lengths.{list_bytes, op_bytes, function_bytes}
use Rattle.fat_code.specs.FunctionRows.{head_rows, ops_at}
use Rattle.fat_code.specs.Rows.{first_fault}
use Rattle.fat_code.specs.Walking.{IsFirst, Checks, entries_rows_by, ops_rows_by}
use Rattle.fat_code.proofs.Walks.{three_second, three_whole}
use Rattle.fat_code.proofs.function_check.function.Goals as goal

pub returns-in_err-ops_at : goal.returns-in_err-ops_at
returns-in_err-ops_at c =
    let p = err_from_is_err_and c.from_residual-in_err-ops_at.result c.from_residual-in_err-ops_at.ensures.1 in
    let refusal = c.in_err-ops_at.field-0.0 in
    let function = c.args.function.now in
    let first = subst (λ (at : ℕ). IsFirst (entries_rows_by c.args.unit.now c.args.so_far.entries at function) refusal) c.in_ok-entries_at.ensures.0 c.in_err-ops_at.ensures in
    rw (p.1, p.2) (three_second (head_rows function c.args.at) (entries_rows_by c.args.unit.now c.args.so_far.entries (c.args.at + 12) function)
    (ops_rows_by c.args.unit.now c.args.so_far.ops (ops_at c.args.at function) function) refusal c.in_ok-entries_at.ensures.1 first)

pub returns : goal.returns
returns c =
    let function = c.args.function.now in
    let entries_at = c.in_ok-entries_at.ensures.0 in
    let ops_is = c.in_ok-ops_at.ensures.0 in
    let at : c.in_ok-ops_at.ops_at ≡ ops_at c.args.at function = omega arith in
    let none = subst (λ (at : ℕ). first_fault (entries_rows_by c.args.unit.now c.args.so_far.entries at function) ≡ None) entries_at c.in_ok-ops_at.ensures.1 in
    let last = subst (λ (at : ℕ). Checks (ops_rows_by c.args.unit.now c.args.so_far.ops at function) (at + list_bytes op_bytes function.ops) c.ops.result) at c.ops.ensures in
    let behind : ops_at c.args.at function + list_bytes op_bytes function.ops ≡ c.args.at + function_bytes function = omega arith in
    three_whole (head_rows function c.args.at) (entries_rows_by c.args.unit.now c.args.so_far.entries (c.args.at + 12) function)
    (ops_rows_by c.args.unit.now c.args.so_far.ops (ops_at c.args.at function) function) (ops_at c.args.at function + list_bytes op_bytes function.ops)
    (c.args.at + function_bytes function) c.ops.result c.in_ok-entries_at.ensures.1 none last behind
