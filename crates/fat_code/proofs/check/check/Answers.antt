use Rattle.std.proofs.Common.{◌≡◌, List, subst}
use Rattle.std.proofs.lemmas.Result.{err_from_is_err_and}
use Rattle.c_types.specs.declared.node.TypeNode.{TypeNode}
use Rattle.fat_code.specs.TypeRows.{type_rows}
use Rattle.fat_code.specs.Walking.{IsFirst}
use Rattle.fat_code.proofs.Tables.{types_refused, shapes_refused, symbols_refused, functions_refused, objects_checked, past_types, past_shapes, past_symbols, past_functions}
use Rattle.fat_code.proofs.check.check.Goals as goal

types_of : (types one : List TypeNode) (version : _) (refusal : _) → one ≡ types → IsFirst (type_rows version 8 one) refusal → IsFirst (type_rows version 8 types) refusal
types_of types one version refusal same first = subst (λ (xs : List TypeNode). IsFirst (type_rows version 8 xs) refusal) same first

pub returns-in_err-shapes_at : goal.returns-in_err-shapes_at
returns-in_err-shapes_at c =
    let p = err_from_is_err_and c.from_residual.result c.from_residual.ensures.1 in
    rw (p.1, p.2) (types_refused c.args.version c.args.unit.now c.in_err-shapes_at.field-0.0
    (types_of c.args.unit.now.types c.as_slice.result.now c.args.version c.in_err-shapes_at.field-0.0 c.as_slice.ensures c.in_err-shapes_at.ensures))

pub returns-in_err-symbols_at : goal.returns-in_err-symbols_at
returns-in_err-symbols_at c =
    let p = err_from_is_err_and c.from_residual-in_err-symbols_at.result c.from_residual-in_err-symbols_at.ensures.1 in
    let one = past_types c.args.version c.args.unit.now c.as_slice.result.now c.in_ok-shapes_at.shapes_at c.as_slice.ensures c.in_ok-shapes_at.ensures.0 c.in_ok-shapes_at.ensures.1 in
    rw (p.1, p.2) (shapes_refused c.args.version c.args.unit.now c.in_ok-shapes_at.shapes_at c.in_err-symbols_at.field-0.0 one c.in_err-symbols_at.ensures)

pub returns-in_err-functions_at : goal.returns-in_err-functions_at
returns-in_err-functions_at c =
    let p = err_from_is_err_and c.from_residual-in_err-functions_at.result c.from_residual-in_err-functions_at.ensures.1 in
    let one = past_types c.args.version c.args.unit.now c.as_slice.result.now c.in_ok-shapes_at.shapes_at c.as_slice.ensures c.in_ok-shapes_at.ensures.0 c.in_ok-shapes_at.ensures.1 in
    let two = past_shapes c.args.version c.args.unit.now c.in_ok-shapes_at.shapes_at c.in_ok-symbols_at.symbols_at one c.in_ok-symbols_at.ensures.0 c.in_ok-symbols_at.ensures.1 in
    rw (p.1, p.2) (symbols_refused c.args.version c.args.unit.now c.in_ok-symbols_at.symbols_at c.in_err-functions_at.field-0.0 two c.in_err-functions_at.ensures)

pub returns-in_err-objects_at : goal.returns-in_err-objects_at
returns-in_err-objects_at c =
    let p = err_from_is_err_and c.from_residual-in_err-objects_at.result c.from_residual-in_err-objects_at.ensures.1 in
    let one = past_types c.args.version c.args.unit.now c.as_slice.result.now c.in_ok-shapes_at.shapes_at c.as_slice.ensures c.in_ok-shapes_at.ensures.0 c.in_ok-shapes_at.ensures.1 in
    let two = past_shapes c.args.version c.args.unit.now c.in_ok-shapes_at.shapes_at c.in_ok-symbols_at.symbols_at one c.in_ok-symbols_at.ensures.0 c.in_ok-symbols_at.ensures.1 in
    let three = past_symbols c.args.version c.args.unit.now c.in_ok-symbols_at.symbols_at c.in_ok-functions_at.functions_at two c.in_ok-functions_at.ensures.0 c.in_ok-functions_at.ensures.1 in
    rw (p.1, p.2) (functions_refused c.args.version c.args.unit.now c.in_ok-functions_at.functions_at c.in_err-objects_at.field-0.0 three c.in_err-objects_at.ensures)

pub returns : goal.returns
returns c =
    let one = past_types c.args.version c.args.unit.now c.as_slice.result.now c.in_ok-shapes_at.shapes_at c.as_slice.ensures c.in_ok-shapes_at.ensures.0 c.in_ok-shapes_at.ensures.1 in
    let two = past_shapes c.args.version c.args.unit.now c.in_ok-shapes_at.shapes_at c.in_ok-symbols_at.symbols_at one c.in_ok-symbols_at.ensures.0 c.in_ok-symbols_at.ensures.1 in
    let three = past_symbols c.args.version c.args.unit.now c.in_ok-symbols_at.symbols_at c.in_ok-functions_at.functions_at two c.in_ok-functions_at.ensures.0 c.in_ok-functions_at.ensures.1 in
    let four = past_functions c.args.version c.args.unit.now c.in_ok-functions_at.functions_at c.in_ok-objects_at.objects_at three c.in_ok-objects_at.ensures.0 c.in_ok-objects_at.ensures.1 in
    objects_checked c.args.version c.args.unit.now c.in_ok-objects_at.objects_at c.objects.result four c.objects.ensures
