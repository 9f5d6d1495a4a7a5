use Rattle.std.proofs.Common.{◌∙◌, ◌^◌, lit<, refl}
use Rattle.rv_arith.proofs.Halves.{high_half, widened, magnitude}
use Rattle.rv_arith.proofs.mulh.Goals as goal

pub returns : goal.returns
returns c =
    let first = widened c.args.x c.cast_signed.result c.from.result c.cast_signed.ensures c.cast_signed.type_inv c.from.ensures in
    let second = widened c.args.y c.cast_signed-2.result c.from-2.result c.cast_signed-2.ensures c.cast_signed-2.type_inv c.from-2.ensures in
    c.cast_unsigned.ensures
    ∙ high_half c.from.result c.from-2.result (2 ^ 31) (2 ^ 31)
    (magnitude c.args.x c.cast_signed.result c.from.result c.cast_signed.ensures c.cast_signed.type_inv c.from.ensures)
    (magnitude c.args.y c.cast_signed-2.result c.from-2.result c.cast_signed-2.ensures c.cast_signed-2.type_inv c.from-2.ensures)
    (lit< tt) (record { sfits = c.from.type_inv }) (record { sfits = c.from-2.type_inv })
    ∙ rw (first, second) refl
