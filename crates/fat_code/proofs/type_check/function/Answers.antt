use Rattle.std.proofs.Common.{◌≡◌, ◌+◌, ◌*◌, ◌∷◌, [], length, arith}
use Rattle.fat_code.specs.Rows.{rows_of_list}
use Rattle.fat_code.specs.TypeRows.{part_row, four_bytes, parameter_rows}
use Rattle.fat_code.proofs.Walks.{checks_moved, none_joined, four_each}
use Rattle.fat_code.proofs.type_check.function.Goals as goal

pub returns : goal.returns
returns c =
    let each = four_each c.args.taken.now in
    let first = c.in_ok-returns_at.ensures.0 in
    let second = c.in_ok-known_at.ensures.0 in
    let third = c.in_ok-parameters_at.ensures.0 in
    let fourth = c.in_ok-variadic_at.ensures.0 in
    let part = part_row c.args.nodes.now c.args.own c.args.returns (c.args.at + 4) in
    let others = rows_of_list (parameter_rows c.args.nodes.now c.args.own) four_bytes (c.args.at + 12) c.args.taken.now in
    let at_four : c.in_ok-returns_at.returns_at ≡ c.args.at + 4 = omega arith in
    let at_sixteen : c.in_ok-parameters_at.parameters_at ≡ c.args.at + 12 + 4 = omega arith in
    checks_moved (part ∷ others) _ (c.args.at + (20 + 4 * length c.args.taken.now)) c.further-3.result c.further-3.ensures (omega arith)
    (none_joined (part ∷ []) others (rw at_four at c.in_ok-known_at.ensures.1) (rw at_sixteen at c.in_ok-variadic_at.ensures.1))
