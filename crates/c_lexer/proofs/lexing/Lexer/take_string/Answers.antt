use Rattle.std.proofs.Common.{Some, refl, ap}
use Rattle.c_lexer.specs.declared.lexing.Lexer.{Lexer}
use Rattle.c_lexer.specs.declared.lexing.OpenString.{OpenString}
use Rattle.c_lexer.proofs.LexingLaws.{took_string}
use Rattle.c_lexer.proofs.lexing.Lexer.take_string.Goals as goal

pub returns : goal.returns
returns c =
    let adds = rw c.as_slice.ensures at c.in_ok-add_string.ensures in
    let longer : OpenString = record { bytes = c.add_string.new.bytes; place = c.begin_string-string.result.place } in
    took_string c.args.self.now (record { alloc = c.begin_string-string.new.self.alloc; done = c.begin_string-string.new.self.done; unfinished = Some longer }) c.args.token.now c.begin_string-string.result longer c.requires (ap (λ (l : Lexer). l.done) c.begin_string-string.ensures.kept) refl refl adds.0 c.begin_string-string.ensures.begun adds.1
