use Rattle.std.proofs.Common.{arith}
use Rattle.std.proofs.lemmas.Result.{err_from_is_err_and}
use Rattle.cpp_cond.proofs.TermLaws.{goes_on_at, none_at, all_read}
use Rattle.cpp_cond.proofs.term.read_terms.Goals as goal

pub returns-in_err-read_term-clause-read : goal.returns-in_err-read_term-clause-read
returns-in_err-read_term-clause-read c =
    let p = err_from_is_err_and c.from_residual-in_err-read_term.result c.from_residual-in_err-read_term.ensures.1 in
    rw (p.1, p.2) (none_at c.args.tokens.now c.args.hash c.loop-token.token-index c.token-item.result c.loop-token.terms.items c.in_err-read_term.field-0.0 (omega arith) c.token-item.is c.in_err-read_term.ensures.reads c.loop-token.invariant)

pub loop-token-preserved : goal.loop-token-preserved
loop-token-preserved c =
    goes_on_at c.args.tokens.now c.args.hash c.loop-token.token-index c.token-item.result c.loop-token.terms.items c.push.new.self.items c.in_ok-read_term.field-0 (omega arith) c.token-item.is c.in_ok-push.ensures.items c.in_ok-read_term.ensures.reads c.loop-token.invariant

pub returns-clause-read : goal.returns-clause-read
returns-clause-read c = all_read c.args.tokens.now c.args.hash c.loop-token.token-index c.loop-token.terms.items c.loop-token-test.false c.loop-token.invariant
