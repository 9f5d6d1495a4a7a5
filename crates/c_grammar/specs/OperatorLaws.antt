-- How operators group.
use Rattle.std.specs.Prelude.{◌≤◌, ◌<◌, ℕ, List, [], ◌∷◌, codes}
use Rattle.fsc_base.specs.declared.place.Place.{Place}
use Rattle.c_lexer.specs.declared.token.Token.{Token}
use Rattle.c_lexer.specs.declared.punctuator.Punctuator.TheVariants.{Plus, Star}
use Rattle.c_syntax.specs.declared.operator.Binary.{Binary}
use Rattle.c_syntax.specs.declared.operator.Binary.TheVariants.{Add, Multiply}
use Rattle.c_syntax.specs.declared.expression.Expr.{Expr}
use Rattle.c_syntax.specs.declared.expression.ExprForm.TheVariants as form
use Rattle.c_grammar.specs.Names.{Scopes}
use Rattle.c_grammar.specs.Tokens.{sign, named}
use Rattle.c_grammar.specs.Trees.{expr_at}
use Rattle.c_grammar.specs.Levels.{expression, level_of}
use Rattle.c_grammar.specs.Expressions.{DerivesExpr}
use Rattle.c_grammar.specs.Samples.{on, name_on, nothing}

-- a + b * c
abbrev pub sum : List Token
sum = named (codes "a") (on 1) ∷ sign Plus (on 2) ∷ named (codes "b") (on 3) ∷ sign Star (on 4) ∷ named (codes "c") (on 5) ∷ []

-- the product lies below the sum
abbrev pub DerivesSum : Type 0
DerivesSum = DerivesExpr nothing expression sum
    (expr_at (on 1) (form.Binary Add (name_on 1 (codes "a")) (expr_at (on 3) (form.Binary Multiply (name_on 3 (codes "b")) (name_on 5 (codes "c"))))))
    nothing

-- an operator on the left of another one binds at least as tightly, so operators of one level group to the left
abbrev pub LeftBinds : Type 0
LeftBinds = (names after : Scopes) (level : ℕ) (tokens : List Token) (p q : Place) (operator inner : Binary) (a b c : Expr)
    → DerivesExpr names level tokens (expr_at p (form.Binary operator (expr_at q (form.Binary inner a b)) c)) after → level_of inner ≤ level_of operator

-- one on the right binds more tightly
abbrev pub RightBinds : Type 0
RightBinds = (names after : Scopes) (level : ℕ) (tokens : List Token) (p q : Place) (operator inner : Binary) (a b c : Expr)
    → DerivesExpr names level tokens (expr_at p (form.Binary operator a (expr_at q (form.Binary inner b c)))) after → level_of inner < level_of operator

-- a sum lies below a product from no tokens at all
abbrev pub NoSumInProduct : Type 0
NoSumInProduct = (names after : Scopes) (level : ℕ) (tokens : List Token) (p q : Place) (a b c : Expr)
    → DerivesExpr names level tokens (expr_at p (form.Binary Multiply (expr_at q (form.Binary Add a b)) c)) after → ⊥
