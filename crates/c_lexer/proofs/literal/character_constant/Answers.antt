use Rattle.std.proofs.Common.{◌≡◌, ◌<◌, length, false, sym, ◌∙◌, arith}
use Rattle.std.proofs.lemmas.Bool.Decides.{nat_tests}
use Rattle.std.proofs.lemmas.Result.{err_from_is_err_and}
use Rattle.c_lexer.specs.Lexing.{is_wide}
use Rattle.c_lexer.proofs.RowLaws.{char_bad, char_several, char_good}
use Rattle.c_lexer.proofs.literal.character_constant.Goals as goal

pub returns-in_err-byte : goal.returns-in_err-byte
returns-in_err-byte c =
    let p = err_from_is_err_and c.from_residual.result c.from_residual.ensures.1 in
    rw (p.1, p.2) (char_bad c.args.text.now c.between_quotes.result.now c.in_err-byte.field-0.0 c.between_quotes.ensures (omega arith) c.in_err-byte.ensures.read)

pub returns-then-not-is_empty : goal.returns-then-not-is_empty
returns-then-not-is_empty c =
    let more : 0 < length c.in_ok-byte.behind.now = grind (arith, nat_tests) in
    char_several c.args.text.now c.between_quotes.result.now c.in_ok-byte.byte c.in_ok-byte.behind.now c.between_quotes.ensures (omega arith) c.in_ok-byte.ensures.read.1 more

pub returns : goal.returns
returns c =
    let none : length c.in_ok-byte.behind.now ≡ 0 = grind (arith, nat_tests) in
    let narrow : is_wide c.args.text.now ≡ false = sym c.is_wide.ensures ∙ c.if-is_wide.false in
    rw c.from.ensures (char_good c.args.text.now c.between_quotes.result.now c.in_ok-byte.byte c.in_ok-byte.behind.now narrow c.between_quotes.ensures (omega arith) c.in_ok-byte.ensures.read.0 c.in_ok-byte.ensures.read.1 none)
