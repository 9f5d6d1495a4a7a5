use Rattle.std.proofs.Common.{◌*◌, ap, arith}
use Rattle.std.proofs.lemmas.List.{take_all}
use Rattle.std.proofs.lemmas.Int.Digits.{digits_value_more}
use Rattle.c_lexer.proofs.Digits.{digit_within, too_large}
use Rattle.c_lexer.proofs.integer.digits_number.Goals as goal

pub with_digit-requires-clause-digit : goal.with_digit-requires-clause-digit
with_digit-requires-clause-digit c = digit_within c.args.base c.args.digits.now c.loop-digit.digit-index c.requires.digits (omega arith)

pub returns-in_err-number : goal.returns-in_err-number
returns-in_err-number c =
    let large = too_large c.args.base c.args.digits.now c.loop-digit.digit-index (omega arith) (omega arith) (omega (arith, c.in_err-number.ensures, ap (λ n. n * c.args.base) c.loop-digit.invariant.1)) in
    rw c.from_residual.ensures (λ small. omega (arith, large, small))

pub loop-digit-preserved : goal.loop-digit-preserved
loop-digit-preserved c =
    let more = digits_value_more c.args.base c.args.digits.now c.loop-digit.digit-index (omega arith) in
    (omega (arith, c.in_ok-number.ensures), rw (more, ← c.loop-digit.invariant.1) c.in_ok-number.ensures.1)

pub returns : goal.returns
returns c = let whole = take_all c.loop-digit.digit-index c.args.digits.now (omega arith) in
    let is = rw whole at c.loop-digit.invariant.1 in (omega arith, is)
