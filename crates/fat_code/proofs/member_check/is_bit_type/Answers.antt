use Rattle.std.proofs.Common.{◌≤◌, length, ap, sym, arith}
use Rattle.fat_code.specs.TypeRows.{is_int_node}
use Rattle.fat_code.proofs.Stripping.{bare_outside}
use Rattle.fat_code.proofs.member_check.is_bit_type.Goals as goal

pub returns-in-None : goal.returns-in-None
returns-in-None c =
    let past = c.in-None.ensures.lookup.3 in
    let many = c.requires.many in
    let le : length c.args.nodes.now ≤ c.args.kind = omega arith in
    sym (ap is_int_node (bare_outside c.args.nodes.now c.args.kind le))
