use Rattle.std.proofs.Common.{arith}
use Rattle.std.proofs.lemmas.Result.{err_from_is_err_and}
use Rattle.c_lexer.proofs.LexingLaws.{goes_on_at, ends_early_at, all_taken, ends, ends_long}
use Rattle.c_lexer.proofs.lexing.lex.Goals as goal

pub returns-in_err-take-clause-broken : goal.returns-in_err-take-clause-broken
returns-in_err-take-clause-broken c =
    let p = err_from_is_err_and c.from_residual.result c.from_residual.ensures.1 in
    rw (p.1, p.2) (ends_early_at c.args.list.now c.as_slice-token-items.result.now c.loop-token.token-index c.token-item.result c.loop-token.lexer c.in_err-take.field-0.0 c.as_slice-token-items.ensures (omega arith) c.token-item.is c.loop-token.invariant c.in_err-take.ensures)

pub loop-token-preserved : goal.loop-token-preserved
loop-token-preserved c =
    goes_on_at c.args.list.now c.as_slice-token-items.result.now c.loop-token.token-index c.token-item.result c.loop-token.lexer c.take.new.self c.as_slice-token-items.ensures (omega arith) c.token-item.is c.loop-token.invariant c.in_ok-take.ensures

pub returns-in_err-finish_string-clause-broken : goal.returns-in_err-finish_string-clause-broken
returns-in_err-finish_string-clause-broken c =
    let p = err_from_is_err_and c.from_residual-in_err-finish_string.result c.from_residual-in_err-finish_string.ensures.1 in
    let all = all_taken c.args.list.now c.as_slice-token-items.result.now c.loop-token.token-index c.loop-token.lexer c.as_slice-token-items.ensures (omega arith) c.loop-token.invariant in
    rw (p.1, p.2) (ends_long c.args.list.now c.loop-token.lexer c.in_err-finish_string.field-0.0 all c.in_err-finish_string.ensures)

pub returns-clause-lexed : goal.returns-clause-lexed
returns-clause-lexed c =
    let all = all_taken c.args.list.now c.as_slice-token-items.result.now c.loop-token.token-index c.loop-token.lexer c.as_slice-token-items.ensures (omega arith) c.loop-token.invariant in
    rw c.from_vec.ensures (ends c.args.list.now c.loop-token.lexer c.finish_string.new.self all c.in_ok-finish_string.ensures)
