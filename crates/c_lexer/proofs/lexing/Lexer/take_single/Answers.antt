use Rattle.std.proofs.Common.{refl}
use Rattle.std.proofs.lemmas.Result.{err_from_is_err_and}
use Rattle.c_lexer.proofs.LexingLaws.{took_single, stops_long}
use Rattle.c_lexer.proofs.lexing.Lexer.take_single.Goals as goal

pub returns-in_err-finish_string : goal.returns-in_err-finish_string
returns-in_err-finish_string c =
    let p = err_from_is_err_and c.from_residual.result c.from_residual.ensures.1 in
    rw (p.1, p.2) (stops_long c.args.self.now c.args.token.now c.in_err-finish_string.field-0.0 c.requires c.in_err-finish_string.ensures)

pub returns : goal.returns
returns c =
    took_single c.args.self.now c.finish_string.new.self (record { alloc = c.finish_string.new.self.alloc; done = c.push.new.self; unfinished = c.finish_string.new.self.unfinished }) c.args.token.now c.in_ok-kind.kind c.requires (rw c.as_slice.ensures at c.in_ok-kind.ensures) c.in_ok-finish_string.ensures refl c.in_ok-push.ensures.items
