use Rattle.std.proofs.Common.{refl}
use Rattle.unit_file.proofs.Bytes.{name_read}
use Rattle.unit_file.proofs.number.read_name.Goals as goal

pub returns : goal.returns
returns c =
    let count = c.in_ok-count.count in
    name_read c.args.file.now c.args.at count.value count.behind _ c.rest_of-rest.result.now c.in_ok-value.value c.in_ok-count.ensures.read c.rest_of-rest.ensures
    c.in_ok-value.ensures c.if-rest-length.false refl
