-- The definition at small expressions, with `int a` at the first place of a function.
use Rattle.std.specs.Prelude.{ℕ, List, Option, Some, None, cond, codes}
use Rattle.std.specs.Str.{bytes_eq}
use Rattle.fsc_base.specs.declared.rule.Rule.TheVariants.{K19}
use Rattle.c_lexer.specs.declared.token.BasicType.TheVariants as constant
use Rattle.c_syntax.specs.declared.operator.Binary.TheVariants.{Add}
use Rattle.c_syntax.specs.declared.expression.Expr.{Expr}
use Rattle.c_syntax.specs.declared.expression.ExprForm.TheVariants as text
use Rattle.c_ops.specs.declared.operators.Operator.TheVariants as operator
use Rattle.c_types.specs.Nodes.{presets}
use Rattle.c_grammar.specs.Trees.{expr_at}
use Rattle.c_grammar.specs.Samples.{on, name_on}
use Rattle.c_tree.specs.Samples.{int, number, local, value, binary}
use Rattle.c_typed.specs.Settings.{Meaning, Automatic, Setting}
use Rattle.c_typed.specs.Typing.{Typed}
use Rattle.c_typed.specs.Breaking.{BrokenAt}

-- a alone is declared
abbrev pub meaning_of : List ℕ → Option Meaning
meaning_of name = cond (bytes_eq (codes "a") name) (Some (Automatic 0 int)) None

abbrev pub setting : Setting
setting = record { names = meaning_of; types = presets }

abbrev pub a : Expr
a = name_on 1 (codes "a")

abbrev pub x : Expr
x = name_on 2 (codes "x")

-- a + 1
abbrev pub sum : Expr
sum = expr_at (on 1) (text.Binary Add a (expr_at (on 1) (text.Integer 1 constant.Int)))

-- it is a sum of the value of a and of a number
abbrev pub SumIsTyped : Type 0
SumIsTyped = Typed setting sum (binary operator.Add (value (local int 0)) (number 1)) setting

-- x breaks K19 at its place
abbrev pub NameIsUndeclared : Type 0
NameIsUndeclared = BrokenAt setting x K19 (on 2)

-- and so does a + x, at that of x
abbrev pub PartIsBroken : Type 0
PartIsBroken = BrokenAt setting (expr_at (on 1) (text.Binary Add a x)) K19 (on 2)
