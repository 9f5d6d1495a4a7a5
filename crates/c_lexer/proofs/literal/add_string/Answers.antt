use Rattle.std.proofs.Common.{◌≡◌, false, sym, ◌∙◌}
use Rattle.c_lexer.specs.Lexing.{is_wide}
use Rattle.c_lexer.proofs.RowLaws.{adds_string}
use Rattle.c_lexer.proofs.literal.add_string.Goals as goal

pub returns : goal.returns
returns c =
    let narrow : is_wide c.args.text.now ≡ false = sym c.is_wide.ensures ∙ c.if-is_wide.false in
    adds_string c.args.bytes.now.items c.add_characters.new.bytes.items c.args.text.now c.between_quotes.result.now c.args.place c.add_characters.result narrow c.between_quotes.ensures c.add_characters.ensures
