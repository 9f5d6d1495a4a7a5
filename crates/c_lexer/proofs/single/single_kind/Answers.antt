use Rattle.pp_token.specs.declared.token.PpKind.TheVariants as pp
use Rattle.c_lexer.proofs.RowLaws.{located_becomes}
use Rattle.c_lexer.proofs.single.single_kind.Goals as goal

pub returns-in-Number : goal.returns-in-Number
returns-in-Number c = rw (c.in-Number.is, c.located.ensures) (located_becomes pp.Number c.args.text.now c.args.place c.number.result c.number.ensures)

pub returns-in-Char : goal.returns-in-Char
returns-in-Char c = rw (c.in-Char.is, c.located-in-Char.ensures) (located_becomes pp.Char c.args.text.now c.args.place c.character_constant.result c.character_constant.ensures)

pub returns-in-Punct : goal.returns-in-Punct
returns-in-Punct c = rw (c.in-Punct.is, c.located-in-Punct.ensures) (located_becomes pp.Punct c.args.text.now c.args.place c.punctuator.result c.punctuator.ensures)
