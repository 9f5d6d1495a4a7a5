use Rattle.std.proofs.Common.{refl, codes, [], ◌∷◌, Some, None, false}
use Rattle.c_syntax.specs.declared.expression.PartForm.TheVariants as part
use Rattle.c_grammar.specs.Tokens.{type_of, storage_of}
use Rattle.c_grammar.specs.Trees.{part_at, declarator_at, parameter_at}
use Rattle.c_grammar.specs.Samples.{on, int_on, alias_on}
use Rattle.c_grammar.specs.Parts.{absent as no_ellipsis}
use Rattle.c_grammar.specs.Repeating.{one, more, none, present}
use Rattle.c_grammar.specs.Expressions.{name, type, storage, alias, no_specifiers, more_specifiers, direct, declared_name, function, nothing, one_parameter, without_name, an_abstract, no_abstract}
use Rattle.c_grammar.specs.Declarations.{declares}
use Rattle.c_grammar.specs.Statements.{return, braces, more as more_statements, none as no_statements}
use Rattle.c_grammar.specs.Units.{unit, definition, declaration, function as function_of}
use Rattle.c_grammar.proofs.Binding.{loosened}
use Rattle.c_grammar.proofs.Units.{int_unit}
use Rattle.c_grammar.proofs.Views.{declares_plain, parameter_named}
use Rattle.c_grammar.proofs.laws.units_derive.Goals as goal

pub returns-clause-int : goal.returns-clause-int
returns-clause-int c = int_unit

pub returns-clause-taker : goal.returns-clause-taker
unfolding type_of storage_of
returns-clause-taker c = unit (on 14)
    (more (declaration (declares (on 4) (more_specifiers (storage refl) refl (more_specifiers (type refl) refl no_specifiers))
    (one (declares_plain (on 3) (on 3) (codes "T") [] (direct (on 3) (declared_name refl) refl))) refl))
    (more (declaration (declares (on 13) (more_specifiers (type refl) refl no_specifiers)
    (one (declares_plain (on 6) (on 6) (codes "f") (part_at (on 6) (part.Parameters (parameter_at (on 8) (int_on 8 ∷ [])
    (Some (declarator_at (on 9) (part_at (on 9) (part.Parameters (parameter_at (on 10) (alias_on 10 (codes "T") ∷ []) None ∷ []) false) ∷ []))) ∷ []) false) ∷ [])
    (direct (on 6) (function (on 7) (on 12) (declared_name refl)
    (one_parameter (without_name (on 8) (more_specifiers (type refl) refl no_specifiers)
    (an_abstract (direct (on 9) (function (on 9) (on 11) nothing
    (one_parameter (without_name (on 10) (more_specifiers (alias refl) refl no_specifiers) no_abstract refl)) no_ellipsis) refl)) refl)) no_ellipsis) refl))) refl))
    none))

pub returns-clause-hidden : goal.returns-clause-hidden
unfolding type_of storage_of
returns-clause-hidden c = unit (on 16)
    (more (declaration (declares (on 4) (more_specifiers (storage refl) refl (more_specifiers (type refl) refl no_specifiers))
    (one (declares_plain (on 3) (on 3) (codes "T") [] (direct (on 3) (declared_name refl) refl))) refl))
    (more (definition (function_of (more_specifiers (type refl) refl no_specifiers)
    (direct (on 6) (function (on 7) (on 10) (declared_name refl)
    (one_parameter (parameter_named (on 8) (on 9) (on 9) (codes "T") [] (more_specifiers (type refl) refl no_specifiers) (direct (on 9) (declared_name refl) refl) refl))
    no_ellipsis) refl)
    none (braces (on 15) none (more_statements (return (on 14) (present (loosened 16 (name refl)))) no_statements)) refl))
    none))
