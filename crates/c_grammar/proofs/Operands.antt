-- What the names of an expression stand for.
use Rattle.std.proofs.Common.{◌≡◌, ℕ, false, List, Option, Some, None}
use Rattle.c_lexer.specs.declared.token.Token.{Token}
use Rattle.c_syntax.specs.declared.expression.Expr.{Expr, out-Expr}
use Rattle.c_syntax.specs.declared.expression.ExprForm.{out-ExprForm}
use Rattle.c_syntax.specs.declared.expression.ExprForm.TheOpen.ExprForm-F.{Name}
use Rattle.c_syntax.specs.declared.expression.ExprForm.TheVariants as form
use Rattle.c_grammar.specs.Names.{Scopes, is_type}
use Rattle.c_grammar.specs.Trees.{expr_at}
use Rattle.c_grammar.specs.NameLaws.{NoTypeAsOperand}
use Rattle.c_grammar.specs.Expressions.{DerivesExpr, looser, name, integer, character, text, parenthesis, subscript, call_of_nothing, call, member, pointer_member, step_behind, step_before, operated, size_of_expr, size_of_type, cast_to, operation, choice, assigns, comma}

-- the name that an expression is
name_at : Expr → Option (List ℕ)
name_at e = elim (out-ExprForm (out-Expr e).form) as (λ x. Option (List ℕ)) [ Name n ↦ Some n | _ ↦ None ]

abbrev pub StandsForNone : Scopes → Option (List ℕ) → Type 0
StandsForNone names None = Unit {0}
StandsForNone names (Some n) = is_type names n ≡ false

stands : (names : Scopes) (level : ℕ) (tokens : List Token) (e : Expr) (after : Scopes) → DerivesExpr names level tokens e after → StandsForNone names (name_at e)
unfolding out-ExprForm denote.Hole.Carrier.out name_at
stands names _ tokens e after (looser {level} d) = stands names level tokens e after d
stands _ _ _ _ _ (name i) = i
stands _ _ _ _ _ integer = tt
stands _ _ _ _ _ character = tt
stands _ _ _ _ _ text = tt
stands _ _ _ _ _ (parenthesis a b) = tt
stands _ _ _ _ _ (subscript a b c d) = tt
stands _ _ _ _ _ (call_of_nothing a b c) = tt
stands _ _ _ _ _ (call a b c d) = tt
stands _ _ _ _ _ (member a b c d) = tt
stands _ _ _ _ _ (pointer_member a b c d) = tt
stands _ _ _ _ _ (step_behind a b c d) = tt
stands _ _ _ _ _ (step_before a b) = tt
stands _ _ _ _ _ (operated a b) = tt
stands _ _ _ _ _ (size_of_expr a) = tt
stands _ _ _ _ _ (size_of_type a b) = tt
stands _ _ _ _ _ (cast_to a b c) = tt
stands _ _ _ _ _ (operation a b c d e f) = tt
stands _ _ _ _ _ (choice a b c d e) = tt
stands _ _ _ _ _ (assigns a b c d e) = tt
stands _ _ _ _ _ (comma a) = tt

pub no_type_as_operand : NoTypeAsOperand
unfolding out-ExprForm denote.Hole.Carrier.out name_at
no_type_as_operand names after level tokens p n d = stands names level tokens (expr_at p (form.Name n)) after d
