use Rattle.std.proofs.Common.{◌≡◌, ◌^◌, ◌<◌, arith}
use Rattle.std.specs.Prelude.{unwrap_or}
use Rattle.c_lexer.specs.declared.token.BasicType.TheVariants.{UnsignedLong}
use Rattle.c_lexer.specs.Numbers.{candidates, first_fitting, parts_of, value_of}
use Rattle.c_lexer.proofs.RowLaws.{number_good}
use Rattle.c_lexer.proofs.single.number.Goals as goal

pub returns : goal.returns
returns c =
    let constant = parts_of c.in-Some.constant in
    let value : c.in-Some-digits_number.value ≡ value_of constant = rw c.base.ensures at c.in-Some-digits_number.ensures.1 in
    let basic : c.unwrap_or.result ≡ unwrap_or (first_fitting c.in-Some-digits_number.value (candidates constant.radix constant.suffix)) UnsignedLong =
    rw c.candidates.ensures at (rw c.first_fitting-basic.ensures at c.unwrap_or.ensures) in
    let small : c.in-Some-digits_number.value < 2 ^ 32 = omega (arith, c.in-Some-digits_number.ensures.0, c.in-Some-digits_number.ensures.1) in
    number_good c.args.text.now constant c.in-Some-digits_number.value c.unwrap_or.result c.in-Some.ensures.is value small basic
