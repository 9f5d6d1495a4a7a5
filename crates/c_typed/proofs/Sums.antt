-- The typed trees of a name, a constant and their sum.
use Rattle.std.proofs.Common.{◌≡◌, ◌==◌, true, false, Some, codes, refl, ap, subst, sym, ◌∙◌}
use Rattle.fsc_base.specs.declared.place.Place.{Place}
use Rattle.fsc_base.specs.declared.word.Width.TheVariants.{Four}
use Rattle.c_lexer.specs.declared.token.BasicType.TheVariants as constant
use Rattle.c_syntax.specs.declared.operator.Binary.TheVariants.{Add}
use Rattle.c_syntax.specs.declared.expression.ExprForm.TheVariants as text
use Rattle.c_ops.specs.declared.operators.Operator.TheVariants as operator
use Rattle.c_types.specs.declared.node.Basic.TheVariants.{Int}
use Rattle.c_types.specs.Nodes.{presets, unqualified}
use Rattle.c_grammar.specs.Trees.{expr_at}
use Rattle.c_grammar.specs.Samples.{on}
use Rattle.c_tree.specs.declared.expression.Access.TheVariants.{Scalar}
use Rattle.c_tree.specs.declared.expression.TExpr.{TExpr}
use Rattle.c_tree.specs.declared.expression.Form.{Form}
use Rattle.c_tree.specs.declared.expression.Form.TheVariants as form
use Rattle.c_tree.specs.Programs.{bare_node}
use Rattle.c_tree.specs.SoundTypes.{is_scalar, is_void}
use Rattle.c_tree.specs.Samples.{int, number, local, value}
use Rattle.c_typed.specs.Settings.{tree, kind_of, start_of, is_path_form, is_void_in}
use Rattle.c_typed.specs.Arithmetic.{basic_in, basic_of, same}
use Rattle.c_typed.specs.Typing.{Valued, Typed, Used, Operated, read, value as is_value, valued, used, automatic, integer, operation, arithmetic}
use Rattle.c_typed.specs.Worked.{setting, a, SumIsTyped}
use Rattle.c_typed.proofs.Views.{form_of_expr, place_of_expr, kind_of_tree, start_of_tree, path_of_tree}

-- an int object, and a value of type int
read_int : (f : Form TExpr) (p : Place) → is_path_form f ≡ true → Valued presets (tree f int p) (tree (form.Value (tree f int p) (Scalar Four true)) int p) presets
unfolding unqualified
read_int f p i =
    let t = tree f int p
    in let kind = kind_of_tree f int p
    in subst (λ q. Valued presets t (tree (form.Value t (Scalar Four true)) int q) presets) (start_of_tree f int p)
    (subst (λ k. Valued presets t (tree (form.Value t (Scalar Four true)) (unqualified presets k) (start_of t)) presets) kind
    (read Four true (path_of_tree f int p ∙ i) (ap (λ k. is_scalar (bare_node presets k)) kind) (rw kind refl)))

int_value : (f : Form TExpr) (p : Place) → is_path_form f ≡ false → Valued presets (tree f int p) (tree f int p) presets
unfolding unqualified
int_value f p i = is_value (path_of_tree f int p ∙ i) (ap (λ k. is_scalar (bare_node presets k)) (kind_of_tree f int p))

no_void : (f : Form TExpr) (p : Place) → is_void_in presets (tree f int p) ≡ false
unfolding unqualified
no_void f p = ap (λ k. is_void (bare_node presets k)) (kind_of_tree f int p)

basic_int : (f : Form TExpr) (p : Place) → basic_of presets (tree f int p) ≡ Some Int
unfolding unqualified
basic_int f p = ap (λ k. basic_in (bare_node presets k)) (kind_of_tree f int p)

is_int : (f : Form TExpr) (p : Place) → (kind_of (tree f int p) == int) ≡ true
is_int f p = ap (λ k. k == int) (kind_of_tree f int p)

-- ---- expressions

typed_a : Typed setting a (local int 0) setting
typed_a = subst (λ p. Typed setting a (tree (form.Local 0) int p) setting) (place_of_expr (on 1) (text.Name (codes "a")))
    (automatic (codes "a") 0 int (form_of_expr (on 1) (text.Name (codes "a"))) refl)

pub used_a : Used setting a (value (local int 0)) setting
used_a = used (valued (local int 0) typed_a (read_int (form.Local 0) (on 1) refl)) (no_void _ _)

typed_one : Typed setting (expr_at (on 1) (text.Integer 1 constant.Int)) (number 1) setting
typed_one = subst (λ p. Typed setting (expr_at (on 1) (text.Integer 1 constant.Int)) (tree (form.Number 1) int p) setting) (place_of_expr (on 1) (text.Integer 1 constant.Int))
    (integer 1 int constant.Int (form_of_expr (on 1) (text.Integer 1 constant.Int)) refl)

used_one : Used setting (expr_at (on 1) (text.Integer 1 constant.Int)) (number 1) setting
used_one = used (valued (number 1) typed_one (int_value (form.Number 1) (on 1) refl)) (no_void _ _)

operated_sum : (p : Place) → Operated presets Add (value (local int 0)) (number 1) p (tree (form.Binary operator.Add (value (local int 0)) (number 1)) int p)
operated_sum p = arithmetic (value (local int 0)) (number 1) Int Int int operator.Add refl (basic_int _ _) (basic_int _ _) refl (same (is_int _ _)) (same (is_int _ _)) refl

pub sum_typed : SumIsTyped
sum_typed =
    let one = expr_at (on 1) (text.Integer 1 constant.Int)
    in let place = place_of_expr (on 1) (text.Binary Add a one)
    in operation setting a one Add (value (local int 0)) (number 1) (form_of_expr (on 1) (text.Binary Add a one)) used_a used_one
    (subst (λ p. Operated presets Add (value (local int 0)) (number 1) p (tree (form.Binary operator.Add (value (local int 0)) (number 1)) int (on 1))) (sym place) (operated_sum (on 1)))
