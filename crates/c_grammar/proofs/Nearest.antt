-- To which `if` an `else` belongs.
use Rattle.std.proofs.Common.{◌≡◌, Bool, true, false, List, Some, None, refl, sym, ap, ◌∙◌}
use Rattle.c_lexer.specs.declared.token.Token.{Token}
use Rattle.c_syntax.specs.declared.statement.Statement.{Statement, out-Statement}
use Rattle.c_syntax.specs.declared.statement.Statement as tree
use Rattle.c_syntax.specs.declared.statement.StatementForm.{StatementForm}
use Rattle.c_syntax.specs.declared.statement.StatementForm.TheVariants as form
use Rattle.c_grammar.specs.Names.{Scopes}
use Rattle.c_grammar.specs.Statements.{DerivesStatement, label, case, default, compound, simple, if_alone, if_else, switch, while, do_while, for, goto, continue, break, return, statement_at}
use Rattle.c_grammar.specs.StatementLaws.{ElseIsNearest}
use Rattle.c_grammar.proofs.Views.{form_of_statement}

-- an `if` without `else`
abbrev pub is_short_form : StatementForm Statement → Bool
is_short_form (form.If e s None) = true
is_short_form _ = false

abbrev pub is_short : Statement → Bool
is_short s = is_short_form (out-Statement s).form

-- whether the first statement of an `if` with `else` is one without
abbrev pub is_crossed_form : StatementForm Statement → Bool
is_crossed_form (form.If e s (Some t)) = is_short s
is_crossed_form _ = false

abbrev pub IsOpenIf : (is_short is_open : Bool) → Type 0
IsOpenIf false is_open = Unit {0}
IsOpenIf true is_open = is_open ≡ true

closed : (is_short : Bool) → IsOpenIf is_short false → is_short ≡ false
closed false i = refl
closed true i = sym i

open_if : (is_open : Bool) (names : Scopes) (tokens : List Token) (s : Statement) (after : Scopes) → DerivesStatement is_open names tokens s after → IsOpenIf (is_short s) is_open
unfolding out-Statement denote.Hole.Carrier.out tree.roll-Statement denote.Hole.Carrier.roll
open_if _ _ _ _ _ (if_alone a b) = refl
open_if _ _ _ _ _ (label a) = tt
open_if _ _ _ _ _ (case q a b) = tt
open_if _ _ _ _ _ (default a) = tt
open_if _ _ _ _ _ (compound a) = tt
open_if _ _ _ _ _ (simple p a) = tt
open_if _ _ _ _ _ (if_else q a b c) = tt
open_if _ _ _ _ _ (switch a b) = tt
open_if _ _ _ _ _ (while a b) = tt
open_if _ _ _ _ _ (do_while q r a b) = tt
open_if _ _ _ _ _ (for r t u a b c d) = tt
open_if _ _ _ _ _ goto = tt
open_if _ _ _ _ _ continue = tt
open_if _ _ _ _ _ break = tt
open_if _ _ _ _ _ (return q a) = tt

nearest : (is_open : Bool) (names : Scopes) (tokens : List Token) (s : Statement) (after : Scopes) → DerivesStatement is_open names tokens s after → is_crossed_form (out-Statement s).form ≡ false
unfolding out-Statement denote.Hole.Carrier.out tree.roll-Statement denote.Hole.Carrier.roll
nearest _ _ _ _ _ (if_else {is_open} {names} {first} {second} {after} {p} {test} {then} {others} {e} {s} {t} q a b c) =
    ap is_crossed_form (form_of_statement p (form.If e s (Some t))) ∙ closed (is_short s) (open_if false first then s second b)
nearest _ _ _ _ _ (if_alone a b) = refl
nearest _ _ _ _ _ (label a) = refl
nearest _ _ _ _ _ (case q a b) = refl
nearest _ _ _ _ _ (default a) = refl
nearest _ _ _ _ _ (compound a) = refl
nearest _ _ _ _ _ (simple p a) = refl
nearest _ _ _ _ _ (switch a b) = refl
nearest _ _ _ _ _ (while a b) = refl
nearest _ _ _ _ _ (do_while q r a b) = refl
nearest _ _ _ _ _ (for r t u a b c d) = refl
nearest _ _ _ _ _ goto = refl
nearest _ _ _ _ _ continue = refl
nearest _ _ _ _ _ break = refl
nearest _ _ _ _ _ (return q a) = refl

pub else_is_nearest : ElseIsNearest
else_is_nearest is_open names after tokens p q e f s t d =
    let crossed = nearest is_open names tokens (statement_at p (form.If e (statement_at q (form.If f s None)) (Some t))) after d
    in let outer = ap is_crossed_form (form_of_statement p (form.If e (statement_at q (form.If f s None)) (Some t)))
    in let inner = ap is_short_form (form_of_statement q (form.If f s None))
    in let i : true ≡ false = sym inner ∙ sym outer ∙ crossed in cc i
