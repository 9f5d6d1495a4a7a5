use Rattle.std.proofs.Common.{◌≡◌, ◌*◌, ◌%◌, ◌^◌}
use Rattle.std.proofs.lemmas.Nat.{one_shl, and_mask}
use Rattle.rv_isa.proofs.fields.field.Goals as goal

pub returns-clause-same : goal.returns-clause-same
returns-clause-same c =
    let mask : 1 * 2 ^ c.args.width % 2 ^ 32 ≡ 2 ^ c.args.width = one_shl c.args.width 32 c.requires.1 in
    rw mask (and_mask _ c.args.width)
