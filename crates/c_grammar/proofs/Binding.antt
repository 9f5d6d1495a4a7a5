-- How tightly the parts of an expression bind.
use Rattle.std.proofs.Common.{◌≡◌, ◌≤◌, ◌+◌, ℕ, zero, suc, List, Option, Some, None, refl, sym, subst, arith}
use Rattle.fsc_base.specs.declared.place.Place.{Place}
use Rattle.c_lexer.specs.declared.token.Token.{Token}
use Rattle.c_syntax.specs.declared.operator.Binary.{Binary}
use Rattle.c_syntax.specs.declared.operator.Binary.TheVariants.{Add, Multiply}
use Rattle.c_syntax.specs.declared.expression.Expr.{Expr, out-Expr}
use Rattle.c_syntax.specs.declared.expression.ExprForm.{out-ExprForm}
use Rattle.c_syntax.specs.declared.expression.ExprForm.TheOpen.ExprForm-F.{Binary as Operated}
use Rattle.c_syntax.specs.declared.expression.ExprForm.TheVariants as form
use Rattle.c_syntax.specs.declared.expression.ExprForm.TheViews.{the_lemmas}
use Rattle.c_grammar.specs.Names.{Scopes}
use Rattle.c_grammar.specs.Trees.{expr_at, place_of}
use Rattle.c_grammar.specs.OperatorLaws.{LeftBinds, RightBinds, NoSumInProduct}
use Rattle.c_grammar.specs.Levels.{level_of}
use Rattle.c_grammar.specs.Expressions.{DerivesExpr, looser, name, integer, character, text, parenthesis, subscript, call_of_nothing, call, member, pointer_member, step_behind, step_before, operated, size_of_expr, size_of_type, cast_to, choice, assigns, comma, operation}

-- an operator and its two operands
pub operation_at : Expr → Option (Binary × Expr × Expr)
operation_at e = elim (out-ExprForm (out-Expr e).form) as (λ x. Option (Binary × Expr × Expr)) [ Operated operator a b ↦ Some (operator, a, b) | _ ↦ None ]

operated_is : (p : Place) (operator : Binary) (a b : Expr) → operation_at (expr_at p (form.Binary operator a b)) ≡ Some (operator, a, b)
unfolding operation_at
operated_is p operator a b = let i : out-ExprForm (form.Binary operator a b) ≡ Operated operator a b = search the_lemmas in rw (i, operation_at) refl

-- where an expression is made by an operator, that is of the level or tighter
pub AtMost : Option (Binary × Expr × Expr) → (level : ℕ) → Type 0
AtMost None level = Unit {0}
AtMost (Some (operator, a, b)) level = level_of operator ≤ level

-- where it is one, its operands bind so
pub Binds : Option (Binary × Expr × Expr) → Type 0
Binds None = Unit {0}
Binds (Some (operator, a, b)) = AtMost (operation_at a) (level_of operator) × (tighter : ℕ) × (level_of operator ≡ suc tighter) × AtMost (operation_at b) tighter

at_most_more : (made : Option (Binary × Expr × Expr)) (level : ℕ) → AtMost made level → AtMost made (suc level)
unfolding AtMost
at_most_more None level i = tt
at_most_more (Some (operator, a, b)) level i = omega (arith, i)

-- an expression is one of every looser level
pub loosened : {names after : Scopes} {level : ℕ} {tokens : List Token} {e : Expr} (more : ℕ) → DerivesExpr names level tokens e after → DerivesExpr names (level + more) tokens e after
loosened {names} {after} {level} {tokens} {e} zero d = subst (λ n. DerivesExpr names n tokens e after) (omega arith) d
loosened {names} {after} {level} {tokens} {e} (suc more) d = subst (λ n. DerivesExpr names n tokens e after) (omega arith) (looser (loosened more d))

at_most_at : (made : Option (Binary × Expr × Expr)) (level same : ℕ) → same ≡ level → AtMost made level → AtMost made same
at_most_at made level same is i = subst (λ n. AtMost made n) (sym is) i

-- what an operator makes is of its level at least
pub at_most : (names : Scopes) (level : ℕ) (tokens : List Token) (e : Expr) (after : Scopes) → DerivesExpr names level tokens e after → AtMost (operation_at e) level
unfolding out-ExprForm denote.Hole.Carrier.out operation_at AtMost
at_most names _ tokens e after (looser {level} d) = at_most_more (operation_at e) level (at_most names level tokens e after d)
at_most _ _ _ _ _ (operation {names} {between} {after} {left} {right} {a} {b} {operator} {tighter} punctuator p is at l r) =
    subst (λ made. AtMost made (suc tighter)) (sym (operated_is (place_of a) operator a b)) (omega (arith, at))
at_most _ _ _ _ _ (name a) = tt
at_most _ _ _ _ _ integer = tt
at_most _ _ _ _ _ character = tt
at_most _ _ _ _ _ text = tt
at_most _ _ _ _ _ (parenthesis a b) = tt
at_most _ _ _ _ _ (subscript a b c d) = tt
at_most _ _ _ _ _ (call_of_nothing a b c) = tt
at_most _ _ _ _ _ (call a b c d) = tt
at_most _ _ _ _ _ (member a b c d) = tt
at_most _ _ _ _ _ (pointer_member a b c d) = tt
at_most _ _ _ _ _ (step_behind a b c d) = tt
at_most _ _ _ _ _ (step_before a b) = tt
at_most _ _ _ _ _ (operated a b) = tt
at_most _ _ _ _ _ (size_of_expr a) = tt
at_most _ _ _ _ _ (size_of_type a b) = tt
at_most _ _ _ _ _ (cast_to a b c) = tt
at_most _ _ _ _ _ (choice a b c d e) = tt
at_most _ _ _ _ _ (assigns a b c d e) = tt
at_most _ _ _ _ _ (comma a) = tt

pub binds : (names : Scopes) (level : ℕ) (tokens : List Token) (e : Expr) (after : Scopes) → DerivesExpr names level tokens e after → Binds (operation_at e)
unfolding out-ExprForm denote.Hole.Carrier.out operation_at Binds
binds names _ tokens e after (looser {level} d) = binds names level tokens e after d
binds _ _ _ _ _ (operation {names} {between} {after} {left} {right} {a} {b} {operator} {tighter} punctuator p is at l r) =
    subst (λ made. Binds made) (sym (operated_is (place_of a) operator a b)) (
      at_most_at (operation_at a) (suc tighter) (level_of operator) at (at_most names (suc tighter) left a between l),
      tighter,
      at,
      at_most between tighter right b after r,
    )
binds _ _ _ _ _ (name a) = tt
binds _ _ _ _ _ integer = tt
binds _ _ _ _ _ character = tt
binds _ _ _ _ _ text = tt
binds _ _ _ _ _ (parenthesis a b) = tt
binds _ _ _ _ _ (subscript a b c d) = tt
binds _ _ _ _ _ (call_of_nothing a b c) = tt
binds _ _ _ _ _ (call a b c d) = tt
binds _ _ _ _ _ (member a b c d) = tt
binds _ _ _ _ _ (pointer_member a b c d) = tt
binds _ _ _ _ _ (step_behind a b c d) = tt
binds _ _ _ _ _ (step_before a b) = tt
binds _ _ _ _ _ (operated a b) = tt
binds _ _ _ _ _ (size_of_expr a) = tt
binds _ _ _ _ _ (size_of_type a b) = tt
binds _ _ _ _ _ (cast_to a b c) = tt
binds _ _ _ _ _ (choice a b c d e) = tt
binds _ _ _ _ _ (assigns a b c d e) = tt
binds _ _ _ _ _ (comma a) = tt

operands_bind : (names after : Scopes) (level : ℕ) (tokens : List Token) (p : Place) (operator : Binary) (a b : Expr)
    → DerivesExpr names level tokens (expr_at p (form.Binary operator a b)) after → Binds (Some (operator, a, b))
operands_bind names after level tokens p operator a b d =
    subst (λ made. Binds made) (operated_is p operator a b) (binds names level tokens (expr_at p (form.Binary operator a b)) after d)

pub left_binds : LeftBinds
unfolding AtMost Binds
left_binds names after level tokens p q operator inner a b c d =
    subst (λ made. AtMost made (level_of operator)) (operated_is q inner a b) (operands_bind names after level tokens p operator (expr_at q (form.Binary inner a b)) c d).0

pub right_binds : RightBinds
unfolding AtMost Binds
right_binds names after level tokens p q operator inner a b c d =
    let both = operands_bind names after level tokens p operator a (expr_at q (form.Binary inner b c)) d
    in let i : level_of inner ≤ both.1 = subst (λ made. AtMost made both.1) (operated_is q inner b c) both.3
    in omega (arith, i, both.2)

pub no_sum : NoSumInProduct
unfolding level_of
no_sum names after level tokens p q a b c d = let i = left_binds names after level tokens p q Multiply Add a b c d in omega (arith, i)
