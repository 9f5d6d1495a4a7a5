use Rattle.std.proofs.Common.{[], ◌∷◌}
use Rattle.c_lexer.specs.declared.token.TokenKind.TheVariants.{End}
use Rattle.c_grammar.specs.Tokens.{token}
use Rattle.c_grammar.specs.Samples.{on}
use Rattle.c_grammar.specs.Breaking.{unexpected}
use Rattle.c_grammar.proofs.Opening.{opens_unit}
use Rattle.c_grammar.proofs.Units.{int_unit}
use Rattle.c_grammar.proofs.laws.grammar_is_broken.Goals as goal

pub returns-clause-nothing : goal.returns-clause-nothing
returns-clause-nothing c = unexpected [] [] (record {
  goes = (_, _, int_unit);
  stops = λ begins. cc (opens_unit (token End (on 1) ∷ begins.0) begins.1 begins.2);
})

pub returns-clause-both : goal.returns-clause-both
returns-clause-both c before next one other = one.stops other.goes
