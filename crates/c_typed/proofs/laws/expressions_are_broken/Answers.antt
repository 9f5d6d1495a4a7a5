use Rattle.std.proofs.Common.{codes, refl, subst}
use Rattle.fsc_base.specs.declared.rule.Rule.TheVariants.{K19}
use Rattle.c_syntax.specs.declared.operator.Binary.TheVariants.{Add}
use Rattle.c_syntax.specs.declared.expression.ExprForm.TheVariants as text
use Rattle.c_grammar.specs.Samples.{on}
use Rattle.c_tree.specs.Samples.{int, local, value}
use Rattle.c_typed.specs.Breaking.{BrokenAt, undeclared, part, right, itself}
use Rattle.c_typed.specs.Worked.{setting, a, x, NameIsUndeclared}
use Rattle.c_typed.proofs.Sums.{used_a}
use Rattle.c_typed.proofs.Views.{form_of_expr, place_of_expr}
use Rattle.c_typed.proofs.laws.expressions_are_broken.Goals as goal

x_broken : NameIsUndeclared
x_broken = subst (λ p. BrokenAt setting x K19 p) (place_of_expr (on 2) (text.Name (codes "x")))
    (undeclared (codes "x") (form_of_expr (on 2) (text.Name (codes "x"))) refl)

pub returns-clause-name : goal.returns-clause-name
returns-clause-name c = x_broken

pub returns-clause-part : goal.returns-clause-part
returns-clause-part c = part setting x _ (right a Add (value (local int 0)) (form_of_expr (on 1) (text.Binary Add a x)) used_a) (itself x_broken)
