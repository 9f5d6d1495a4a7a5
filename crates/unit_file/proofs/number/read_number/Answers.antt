use Rattle.std.proofs.Common.{◌+◌, ◌≤◌, length, ap, arith}
use Rattle.std.proofs.lemmas.List.{length-drop}
use Rattle.unit_file.proofs.Bytes.{number_read}
use Rattle.unit_file.proofs.number.read_number.Goals as goal

pub returns-clause-read : goal.returns-clause-read
returns-clause-read c =
    let le = c.if-rest-lt4.false in
    let same = ap length c.rest_of-rest.ensures in
    let left = length-drop c.args.at c.args.file.now in
    let inside : c.args.at + 4 ≤ length c.args.file.now = omega arith in
    number_read c.args.file.now c.args.at c.read_u32.result c.rest_of-rest.result.now (λ k. (let fits = c.type_inv.file k in omega arith)) c.rest_of-rest.ensures le inside c.read_u32.ensures
