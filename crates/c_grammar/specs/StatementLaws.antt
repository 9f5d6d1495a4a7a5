-- To which `if` an `else` belongs (C90 6.6.4.1).
use Rattle.std.specs.Prelude.{Bool, List, Some, None}
use Rattle.fsc_base.specs.declared.place.Place.{Place}
use Rattle.c_lexer.specs.declared.token.Token.{Token}
use Rattle.c_syntax.specs.declared.expression.Expr.{Expr}
use Rattle.c_syntax.specs.declared.statement.Statement.{Statement}
use Rattle.c_syntax.specs.declared.statement.StatementForm.TheVariants as form
use Rattle.c_grammar.specs.Names.{Scopes}
use Rattle.c_grammar.specs.Statements.{DerivesStatement, statement_at}

-- from no tokens does an `if` with `else` derive whose first statement is an `if` without one
abbrev pub ElseIsNearest : Type 0
ElseIsNearest = (is_open : Bool) (names after : Scopes) (tokens : List Token) (p q : Place) (e f : Expr) (s t : Statement)
    → DerivesStatement is_open names tokens (statement_at p (form.If e (statement_at q (form.If f s None)) (Some t))) after → ⊥
