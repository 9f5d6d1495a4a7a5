use Rattle.std.proofs.Common.{◌≡◌, ◌<◌, get_or, length, subst, sym}
use Rattle.std.specs.Prelude.{List, None}
use Rattle.std.proofs.lemmas.Result.{err_from_is_err_and}
use Rattle.fat_code.specs.Lengths.{function_bytes}
use Rattle.fat_code.specs.FunctionRows.{function_rows}
use Rattle.fat_code.specs.Rows.{Row, first_fault}
use Rattle.fat_code.specs.Walking.{IsFirst}
use Rattle.fat_code.proofs.Walks.{walked_next, walked_fault, summed_next, same_function}
use Rattle.fat_code.proofs.function_check.functions_from.Goals as goal

pub returns-in_err-at : goal.returns-in_err-at
returns-in_err-at c =
    let p = err_from_is_err_and c.from_residual-in_err-at.result c.from_residual-in_err-at.ensures.1 in
    let items = c.as_slice-item-items.ensures in
    let lt : c.loop-item.item-index < length c.args.unit.now.functions = rw items at c.loop-item-test.true in
    let is : c.item-item.result ≡ get_or c.args.unit.now.functions c.loop-item.item-index c.item-item.result = rw items at c.item-item.is in
    let summed = summed_next c.args.unit.now.functions c.loop-item.item-index c.item-item.result c.loop-item.so_far c.in_ok-so_far.so_far lt is c.loop-item.invariant.summed
    c.in_ok-so_far.ensures.0 c.in_ok-so_far.ensures.1 in
    let same = same_function c.args.unit.now c.loop-item.item-index c.loop-item.at c.item-item.result c.in_ok-so_far.so_far summed in
    rw (p.1, p.2) (walked_fault (function_rows c.args.unit.now) function_bytes c.args.unit.now.functions c.args.start c.loop-item.item-index c.loop-item.at
    c.item-item.result c.in_err-at.field-0.0 lt is c.loop-item.invariant.walked (subst (λ (rows : List Row). IsFirst rows c.in_err-at.field-0.0) (sym same) c.in_err-at.ensures))

pub loop-item-preserved : goal.loop-item-preserved
loop-item-preserved c =
    let items = c.as_slice-item-items.ensures in
    let lt : c.loop-item.item-index < length c.args.unit.now.functions = rw items at c.loop-item-test.true in
    let is : c.item-item.result ≡ get_or c.args.unit.now.functions c.loop-item.item-index c.item-item.result = rw items at c.item-item.is in
    let summed = summed_next c.args.unit.now.functions c.loop-item.item-index c.item-item.result c.loop-item.so_far c.in_ok-so_far.so_far lt is c.loop-item.invariant.summed
    c.in_ok-so_far.ensures.0 c.in_ok-so_far.ensures.1 in
    let same = same_function c.args.unit.now c.loop-item.item-index c.loop-item.at c.item-item.result c.in_ok-so_far.so_far summed in
    record {
      walked = walked_next (function_rows c.args.unit.now) function_bytes c.args.unit.now.functions c.args.start c.loop-item.item-index c.loop-item.at c.in_ok-at.at
          c.item-item.result lt is c.loop-item.invariant.walked c.in_ok-at.ensures.0 (subst (λ (rows : List Row). first_fault rows ≡ None) (sym same) c.in_ok-at.ensures.1);
      summed = summed;
    }
