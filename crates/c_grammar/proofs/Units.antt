-- A unit of one declaration.
use Rattle.std.proofs.Common.{refl, codes, []}
use Rattle.c_grammar.specs.Tokens.{type_of}
use Rattle.c_grammar.specs.Samples.{on}
use Rattle.c_grammar.specs.Repeating.{one, more, none}
use Rattle.c_grammar.specs.NameLaws.{DerivesInt}
use Rattle.c_grammar.specs.Expressions.{type, no_specifiers, more_specifiers, direct, declared_name}
use Rattle.c_grammar.specs.Declarations.{declares}
use Rattle.c_grammar.specs.Units.{unit, declaration}
use Rattle.c_grammar.proofs.Views.{declares_plain}

pub int_unit : DerivesInt
unfolding type_of
int_unit = unit (on 4) (more (declaration (declares (on 3) (more_specifiers (type refl) refl no_specifiers)
    (one (declares_plain (on 2) (on 2) (codes "x") [] (direct (on 2) (declared_name refl) refl))) refl)) none)
