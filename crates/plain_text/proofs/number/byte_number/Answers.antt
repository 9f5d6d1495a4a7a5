use Rattle.std.proofs.Common.{arith}
use Rattle.plain_text.proofs.NumberLaws.{byte_from}
use Rattle.plain_text.proofs.number.byte_number.Goals as goal

pub returns-in_err-number : goal.returns-in_err-number
returns-in_err-number c =
    let is = byte_from c.args.digits.now c.decimal_number.result c.decimal_number.ensures.found c.decimal_number.ensures.only in grind (arith, is)

pub returns : goal.returns
returns c =
    let is = byte_from c.args.digits.now c.decimal_number.result c.decimal_number.ensures.found c.decimal_number.ensures.only in grind (arith, is)
