use Rattle.std.proofs.Common.{refl, codes, [], ◌∷◌}
use Rattle.c_lexer.specs.declared.punctuator.Punctuator.TheVariants.{Star}
use Rattle.c_syntax.specs.declared.expression.PartForm.TheVariants as part
use Rattle.c_grammar.specs.Tokens.{binary_of}
use Rattle.c_grammar.specs.Trees.{part_at}
use Rattle.c_grammar.specs.Levels.{level_of}
use Rattle.c_grammar.specs.Samples.{on}
use Rattle.c_grammar.specs.Parts.{one as one_pointer, none as no_qualifiers}
use Rattle.c_grammar.specs.Repeating.{one, present}
use Rattle.c_grammar.specs.Expressions.{name, operation, alias, no_specifiers, more_specifiers, pointers, declared_name}
use Rattle.c_grammar.specs.Declarations.{declares}
use Rattle.c_grammar.specs.Statements.{simple}
use Rattle.c_grammar.proofs.Binding.{loosened}
use Rattle.c_grammar.proofs.Operands.{no_type_as_operand}
use Rattle.c_grammar.proofs.Views.{declares_plain}
use Rattle.c_grammar.proofs.laws.names_decide.Goals as goal

pub returns-clause-pointer : goal.returns-clause-pointer
returns-clause-pointer c = declares (on 4) (more_specifiers (alias refl) refl no_specifiers)
    (one (declares_plain (on 2) (on 3) (codes "x") (part_at (on 2) (part.Pointers (record { qualifiers = [] } ∷ [])) ∷ []) (pointers (on 2) (one_pointer no_qualifiers) (declared_name refl) refl))) refl

pub returns-clause-product : goal.returns-clause-product
unfolding binary_of level_of
returns-clause-product c = simple (on 4) (present (loosened 12 (operation Star (on 2) refl refl (loosened 4 (name refl)) (loosened 3 (name refl)))))

pub returns-clause-operand : goal.returns-clause-operand
returns-clause-operand c = no_type_as_operand
