use Rattle.std.proofs.Common.{◌<◌, length, sym, arith}
use Rattle.std.proofs.lemmas.Bool.{lt-ltb, eqb-false}
use Rattle.fat_code.proofs.shape_check.is_shape.Goals as goal

pub returns-then-not-is_empty : goal.returns-then-not-is_empty
returns-then-not-is_empty c =
    let kinds = c.args.kinds.now in
    let not_none = eqb-false (length kinds) 0 (sym c.if-not-is_empty.ensures) in
    let some : 0 < length kinds = omega (arith, not_none) in
    rw (lt-ltb 0 (length kinds) some) c.is_least.ensures
