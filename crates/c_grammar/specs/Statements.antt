-- Which statements derive from which tokens (C90 6.6).
use Rattle.std.specs.Prelude.{ℕ, Bool, true, false, List, [], ◌∷◌, ◌++◌, Option, Some, None}
use Rattle.fsc_base.specs.declared.place.Place.{Place}
use Rattle.c_lexer.specs.declared.token.Token.{Token}
use Rattle.c_lexer.specs.declared.keyword.Keyword.TheVariants as keyword
use Rattle.c_lexer.specs.declared.punctuator.Punctuator.TheVariants.{LeftParenthesis, RightParenthesis, LeftBrace, RightBrace, Colon, Semicolon}
use Rattle.c_syntax.specs.declared.expression.Expr.{Expr}
use Rattle.c_syntax.specs.declared.declaration.Declaration.{Declaration}
use Rattle.c_syntax.specs.declared.statement.Compound.{Compound}
use Rattle.c_syntax.specs.declared.statement.Statement.{Statement, roll-Statement}
use Rattle.c_syntax.specs.declared.statement.StatementForm.{StatementForm}
use Rattle.c_syntax.specs.declared.statement.StatementForm.TheVariants as form
use Rattle.c_grammar.specs.Names.{Scope, Scopes}
use Rattle.c_grammar.specs.Tokens.{sign, word, named, start_before}
use Rattle.c_grammar.specs.Levels.{conditional, expression}
use Rattle.c_grammar.specs.Repeating.{Several, Perhaps}
use Rattle.c_grammar.specs.Expressions.{DerivesExpr}
use Rattle.c_grammar.specs.Declarations.{DerivesDeclaration}

abbrev pub statement_at : Place → StatementForm Statement → Statement
statement_at place form = roll-Statement (record { place = place; form = form })

-- an expression with commas
abbrev pub DerivesFull : Scopes → List Token → Expr → Scopes → Type 0
DerivesFull names tokens e after = DerivesExpr names expression tokens e after

-- a controlling expression in its parentheses, which are no node
pub data DerivesControl : Scopes → List Token → Expr → Scopes → Type 0 where
  control : {names after : Scopes} {tokens : List Token} {e : Expr} (p q : Place)
      → DerivesExpr names expression tokens e after
      → DerivesControl names (sign LeftParenthesis p ∷ (tokens ++ (sign RightParenthesis q ∷ []))) e after

mutual
  -- A statement. It is open where it ends with an `if` without `else`: an `else` behind it would belong to that (6.6.4.1).
  pub data DerivesStatement : (is_open : Bool) → Scopes → List Token → Statement → Scopes → Type 0 where
    -- labels (6.6.1): any name, also one that stands for a type
    label : {is_open : Bool} {names after : Scopes} {p q : Place} {n : List ℕ} {tokens : List Token} {s : Statement}
        → DerivesStatement is_open names tokens s after
        → DerivesStatement is_open names (named n p ∷ sign Colon q ∷ tokens) (statement_at p (form.Label n s)) after
    case : {is_open : Bool} {names between after : Scopes} {p : Place} {value tokens : List Token} {e : Expr} {s : Statement} (q : Place)
        → DerivesExpr names conditional value e between → DerivesStatement is_open between tokens s after
        → DerivesStatement is_open names (word keyword.Case p ∷ (value ++ (sign Colon q ∷ tokens))) (statement_at p (form.Case e s)) after
    default : {is_open : Bool} {names after : Scopes} {p q : Place} {tokens : List Token} {s : Statement}
        → DerivesStatement is_open names tokens s after
        → DerivesStatement is_open names (word keyword.Default p ∷ sign Colon q ∷ tokens) (statement_at p (form.Default s)) after
    -- compound statements, which have a scope of their own (6.6.2)
    compound : {names after : Scopes} {tokens : List Token} {block : Compound Statement} {scope : Scope}
        → DerivesCompound ([] ∷ names) tokens block (scope ∷ after)
        → DerivesStatement false names tokens (statement_at block.place (form.Compound block)) after
    -- expression and null statements (6.6.3)
    simple : {names after : Scopes} {tokens : List Token} {e : Option Expr} (p : Place)
        → Perhaps DerivesFull names tokens e after
        → DerivesStatement false names (tokens ++ (sign Semicolon p ∷ [])) (statement_at (start_before tokens p) (form.Expression e)) after
    -- selections (6.6.4)
    if_alone : {is_open : Bool} {names between after : Scopes} {p : Place} {test tokens : List Token} {e : Expr} {s : Statement}
        → DerivesControl names test e between → DerivesStatement is_open between tokens s after
        → DerivesStatement true names (word keyword.If p ∷ (test ++ tokens)) (statement_at p (form.If e s None)) after
    if_else : {is_open : Bool} {names first second after : Scopes} {p : Place} {test then others : List Token} {e : Expr} {s t : Statement} (q : Place)
        → DerivesControl names test e first → DerivesStatement false first then s second → DerivesStatement is_open second others t after
        → DerivesStatement is_open names (word keyword.If p ∷ (test ++ (then ++ (word keyword.Else q ∷ others)))) (statement_at p (form.If e s (Some t))) after
    switch : {is_open : Bool} {names between after : Scopes} {p : Place} {test tokens : List Token} {e : Expr} {s : Statement}
        → DerivesControl names test e between → DerivesStatement is_open between tokens s after
        → DerivesStatement is_open names (word keyword.Switch p ∷ (test ++ tokens)) (statement_at p (form.Switch e s)) after
    -- iterations (6.6.5)
    while : {is_open : Bool} {names between after : Scopes} {p : Place} {test tokens : List Token} {e : Expr} {s : Statement}
        → DerivesControl names test e between → DerivesStatement is_open between tokens s after
        → DerivesStatement is_open names (word keyword.While p ∷ (test ++ tokens)) (statement_at p (form.While e s)) after
    do_while : {is_open : Bool} {names between after : Scopes} {p : Place} {tokens test : List Token} {s : Statement} {e : Expr} (q r : Place)
        → DerivesStatement is_open names tokens s between → DerivesControl between test e after
        → DerivesStatement false names (word keyword.Do p ∷ (tokens ++ (word keyword.While q ∷ (test ++ (sign Semicolon r ∷ []))))) (statement_at p (form.DoWhile s e)) after
    for : {is_open : Bool} {names first second third after : Scopes} {p q : Place} {start test step tokens : List Token} {a b c : Option Expr} {s : Statement} (r t u : Place)
        → Perhaps DerivesFull names start a first → Perhaps DerivesFull first test b second → Perhaps DerivesFull second step c third
        → DerivesStatement is_open third tokens s after
        → DerivesStatement is_open names (word keyword.For p ∷ sign LeftParenthesis q ∷ (start ++ (sign Semicolon r ∷ (test ++ (sign Semicolon t ∷ (step ++ (sign RightParenthesis u ∷ tokens)))))))
        (statement_at p (form.For a b c s)) after
    -- jumps (6.6.6)
    goto : {names : Scopes} {p q r : Place} {n : List ℕ}
        → DerivesStatement false names (word keyword.Goto p ∷ named n q ∷ sign Semicolon r ∷ []) (statement_at p (form.Goto n)) names
    continue : {names : Scopes} {p q : Place}
        → DerivesStatement false names (word keyword.Continue p ∷ sign Semicolon q ∷ []) (statement_at p form.Continue) names
    break : {names : Scopes} {p q : Place}
        → DerivesStatement false names (word keyword.Break p ∷ sign Semicolon q ∷ []) (statement_at p form.Break) names
    return : {names after : Scopes} {p : Place} {tokens : List Token} {e : Option Expr} (q : Place)
        → Perhaps DerivesFull names tokens e after
        → DerivesStatement false names (word keyword.Return p ∷ (tokens ++ (sign Semicolon q ∷ []))) (statement_at p (form.Return e)) after

  -- Statements one after the other, any number.
  pub data DerivesStatements : Scopes → List Token → List Statement → Scopes → Type 0 where
    none : {names : Scopes} → DerivesStatements names [] [] names
    more : {is_open : Bool} {names between after : Scopes} {tokens rest : List Token} {s : Statement} {others : List Statement}
        → DerivesStatement is_open names tokens s between → DerivesStatements between rest others after
        → DerivesStatements names (tokens ++ rest) (s ∷ others) after

  -- Declarations and statements in braces, in the scope that is open.
  pub data DerivesCompound : Scopes → List Token → Compound Statement → Scopes → Type 0 where
    braces : {names between after : Scopes} {p : Place} {first second : List Token} {declarations : List Declaration} {statements : List Statement} (q : Place)
        → Several DerivesDeclaration names first declarations between → DerivesStatements between second statements after
        → DerivesCompound names (sign LeftBrace p ∷ (first ++ (second ++ (sign RightBrace q ∷ []))))
        (record { place = p; declarations = declarations; statements = statements }) after
