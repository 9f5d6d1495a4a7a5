use Rattle.std.proofs.Common.{◌≡◌, arith, rules, sym, ◌∙◌}
use Rattle.std.specs.Fmt.{decimal}
use Rattle.std.proofs.lemmas.Fmt.{parse-decimal}
use Rattle.plain_text.proofs.NumberLaws.{not_padded, decimal_utf8, parsed}
use Rattle.plain_text.proofs.number.decimal_number.Goals.{Then-number-most}
use Rattle.plain_text.proofs.number.decimal_number.Goals as goal

pub returns-then-is_padded-clause-only : goal.returns-then-is_padded-clause-only
returns-then-is_padded-clause-only c = λ n le e. absurd (not_padded c.args.digits.now n (omega arith) e (search rules))

pub returns-in_err-ok-clause-only : goal.returns-in_err-ok-clause-only
returns-in_err-ok-clause-only c = λ n le e.
    let text = decimal_utf8 c.args.digits.now n (omega arith) e in grind (arith, text, c.from_utf8.ensures.cases)

pub returns-in_err-number-clause-only : goal.returns-in_err-number-clause-only
returns-in_err-number-clause-only c = λ n le e.
    let same : c.in_ok-ok.field-0.now ≡ c.args.digits.now = grind (arith, c.from_utf8.ensures.cases) in
    let again = parse-decimal 64 n c.in_ok-ok.field-0.now c.parse.result (omega arith) (omega arith) (same ∙ e) c.parse.ensures.value.0 in grind (arith, again)

pub returns-then-number-most-clause-found : goal.returns-then-number-most-clause-found
returns-then-number-most-clause-found c =
    let same : c.in_ok-ok.field-0.now ≡ c.args.digits.now = grind (arith, c.from_utf8.ensures.cases) in
    let is : c.args.digits.now ≡ decimal c.in_ok-number.number =
    parsed _ c.args.digits.now c.in_ok-number.number c.parse.result (search rules) (omega arith) (rw same at c.parse.ensures.value.0) (sym c.ok-2.ensures.value ∙ c.in_ok-number.was) in
    (c.if-number-most.true, is)

pub returns-then-number-most-clause-only : goal.returns-then-number-most-clause-only
returns-then-number-most-clause-only c = λ n le e.
    let same : c.in_ok-ok.field-0.now ≡ c.args.digits.now = grind (arith, c.from_utf8.ensures.cases) in
    let again = parse-decimal 64 n c.in_ok-ok.field-0.now c.parse.result (omega arith) (omega arith) (same ∙ e) c.parse.ensures.value.0 in grind (arith, again)

pub returns-else-number-most-clause-only : goal.returns-else-number-most-clause-only
returns-else-number-most-clause-only c = λ n le e.
    let same : c.in_ok-ok.field-0.now ≡ c.args.digits.now = grind (arith, c.from_utf8.ensures.cases) in
    let again = parse-decimal 64 n c.in_ok-ok.field-0.now c.parse.result (omega arith) (omega arith) (same ∙ e) c.parse.ensures.value.0 in grind (arith, again)
