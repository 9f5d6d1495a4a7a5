-- What a built node shows.
use Rattle.std.proofs.Common.{◌≡◌, ℕ, ap}
use Rattle.fsc_base.specs.declared.place.Place.{Place}
use Rattle.c_syntax.specs.declared.expression.ExprForm.{ExprForm}
use Rattle.c_syntax.specs.declared.expression.ExprForm.TheViews.{out-roll-Expr}
use Rattle.c_grammar.specs.Trees.{expr_at, place_of}
use Rattle.c_tree.specs.declared.expression.Form.{Form}
use Rattle.c_tree.specs.declared.expression.TExpr.{TExpr}
use Rattle.c_tree.specs.declared.expression.TExpr.TheViews.{out-roll-TExpr}
use Rattle.c_typed.specs.Settings.{form_of, tree, kind_of, start_of, is_path_form, is_path}

pub form_of_expr : (p : Place) (form : ExprForm) → form_of (expr_at p form) ≡ form
form_of_expr p form = ap (λ shown. shown.form) (out-roll-Expr (record { place = p; form = form }))

pub place_of_expr : (p : Place) (form : ExprForm) → place_of (expr_at p form) ≡ p
place_of_expr p form = ap (λ shown. shown.place) (out-roll-Expr (record { place = p; form = form }))

pub kind_of_tree : (form : Form TExpr) (kind : ℕ) (p : Place) → kind_of (tree form kind p) ≡ kind
kind_of_tree form kind p = ap (λ shown. shown.kind) (out-roll-TExpr (record { form = form; kind = kind; place = p }))

pub start_of_tree : (form : Form TExpr) (kind : ℕ) (p : Place) → start_of (tree form kind p) ≡ p
start_of_tree form kind p = ap (λ shown. shown.place) (out-roll-TExpr (record { form = form; kind = kind; place = p }))

pub path_of_tree : (form : Form TExpr) (kind : ℕ) (p : Place) → is_path (tree form kind p) ≡ is_path_form form
path_of_tree form kind p = ap (λ shown. is_path_form shown.form) (out-roll-TExpr (record { form = form; kind = kind; place = p }))
