-- What names stand for decides which tree derives.
use Rattle.std.specs.Prelude.{◌≡◌, ℕ, true, false, List, [], ◌∷◌, codes, Some, None}
use Rattle.fsc_base.specs.declared.place.Place.{Place}
use Rattle.c_lexer.specs.declared.token.Token.{Token}
use Rattle.c_lexer.specs.declared.token.TokenKind.TheVariants.{End}
use Rattle.c_lexer.specs.declared.keyword.Keyword.TheVariants as keyword
use Rattle.c_lexer.specs.declared.punctuator.Punctuator.TheVariants.{LeftParenthesis, RightParenthesis, LeftBrace, RightBrace, Star, Semicolon}
use Rattle.c_syntax.specs.declared.operator.Binary.TheVariants.{Multiply}
use Rattle.c_syntax.specs.declared.operator.Storage.TheVariants.{Typedef}
use Rattle.c_syntax.specs.declared.expression.ExprForm.TheVariants as form
use Rattle.c_syntax.specs.declared.expression.SpecifierForm.TheVariants as specifier
use Rattle.c_syntax.specs.declared.expression.PartForm.TheVariants as part
use Rattle.c_syntax.specs.declared.statement.StatementForm.TheVariants as statement
use Rattle.c_syntax.specs.declared.unit.External.{External}
use Rattle.c_syntax.specs.declared.unit.External.TheVariants as external
use Rattle.c_grammar.specs.Names.{Scopes, is_type}
use Rattle.c_grammar.specs.Tokens.{token, sign, word, named}
use Rattle.c_grammar.specs.Trees.{expr_at, specifier_at, declarator_at, part_at, parameter_at}
use Rattle.c_grammar.specs.Expressions.{DerivesExpr}
use Rattle.c_grammar.specs.Declarations.{DerivesDeclaration}
use Rattle.c_grammar.specs.Statements.{DerivesStatement, statement_at}
use Rattle.c_grammar.specs.Units.{Derives}
use Rattle.c_grammar.specs.Samples.{on, name_on, int_on, alias_on, plain_on, declaration_of, nothing, as_type}

-- ---- T * x;

abbrev pub starred : List Token
starred = named (codes "T") (on 1) ∷ sign Star (on 2) ∷ named (codes "x") (on 3) ∷ sign Semicolon (on 4) ∷ []

-- where T stands for a type, this declares x
abbrev pub DerivesPointer : Type 0
DerivesPointer = DerivesDeclaration (as_type (codes "T") true [] ∷ []) starred
    (declaration_of 1 (alias_on 1 (codes "T") ∷ []) 2 (plain_on 3 (codes "x") ∷ part_at (on 2) (part.Pointers (record { qualifiers = [] } ∷ [])) ∷ []))
    (as_type (codes "x") false (as_type (codes "T") true []) ∷ [])

-- where it doesn't, this is a statement
abbrev pub DerivesProduct : Type 0
DerivesProduct = DerivesStatement false nothing starred
    (statement_at (on 1) (statement.Expression (Some (expr_at (on 1) (form.Binary Multiply (name_on 1 (codes "T")) (name_on 3 (codes "x")))))))
    nothing

-- no name of an expression stands for a type
abbrev pub NoTypeAsOperand : Type 0
NoTypeAsOperand = (names after : Scopes) (level : ℕ) (tokens : List Token) (p : Place) (n : List ℕ)
    → DerivesExpr names level tokens (expr_at p (form.Name n)) after → is_type names n ≡ false

-- ---- units

-- int x;
abbrev pub DerivesInt : Type 0
DerivesInt = Derives (word keyword.Int (on 1) ∷ named (codes "x") (on 2) ∷ sign Semicolon (on 3) ∷ token End (on 4) ∷ [])
    (record { externals = external.Declaration (declaration_of 1 (int_on 1 ∷ []) 2 (plain_on 2 (codes "x") ∷ [])) ∷ [] })

-- typedef int T;
abbrev pub typedef : List Token
typedef = word keyword.Typedef (on 1) ∷ word keyword.Int (on 2) ∷ named (codes "T") (on 3) ∷ sign Semicolon (on 4) ∷ []

abbrev pub typedef_tree : External
typedef_tree = external.Declaration (declaration_of 1 (specifier_at (on 1) (specifier.Storage Typedef) ∷ int_on 2 ∷ []) 3 (plain_on 3 (codes "T") ∷ []))

-- typedef int T;int f(int T){return T;}
-- The parameter hides the type in the body.
abbrev pub DerivesHidden : Type 0
DerivesHidden = Derives
    (word keyword.Typedef (on 1) ∷ word keyword.Int (on 2) ∷ named (codes "T") (on 3) ∷ sign Semicolon (on 4)
    ∷ word keyword.Int (on 5) ∷ named (codes "f") (on 6) ∷ sign LeftParenthesis (on 7) ∷ word keyword.Int (on 8) ∷ named (codes "T") (on 9) ∷ sign RightParenthesis (on 10)
    ∷ sign LeftBrace (on 11) ∷ word keyword.Return (on 12) ∷ named (codes "T") (on 13) ∷ sign Semicolon (on 14) ∷ sign RightBrace (on 15) ∷ token End (on 16) ∷ [])
    (record {
      externals = typedef_tree ∷ external.Function (record {
        place = on 5;
        specifiers = int_on 5 ∷ [];
        declarator = declarator_at (on 6) (plain_on 6 (codes "f")
            ∷ part_at (on 6) (part.Parameters (parameter_at (on 8) (int_on 8 ∷ []) (Some (declarator_at (on 9) (plain_on 9 (codes "T") ∷ []))) ∷ []) false) ∷ []);
        declarations = [];
        body = record { place = on 11; declarations = []; statements = statement_at (on 12) (statement.Return (Some (name_on 13 (codes "T")))) ∷ [] };
      }) ∷ [];
    })

-- typedef int T;int f(int(T));
-- A type name in parentheses is the type of a parameter.
abbrev pub DerivesTaker : Type 0
DerivesTaker = Derives
    (word keyword.Typedef (on 1) ∷ word keyword.Int (on 2) ∷ named (codes "T") (on 3) ∷ sign Semicolon (on 4)
    ∷ word keyword.Int (on 5) ∷ named (codes "f") (on 6) ∷ sign LeftParenthesis (on 7) ∷ word keyword.Int (on 8) ∷ sign LeftParenthesis (on 9) ∷ named (codes "T") (on 10)
    ∷ sign RightParenthesis (on 11) ∷ sign RightParenthesis (on 12) ∷ sign Semicolon (on 13) ∷ token End (on 14) ∷ [])
    (record {
      externals = typedef_tree ∷ external.Declaration (declaration_of 5 (int_on 5 ∷ []) 6 (plain_on 6 (codes "f")
          ∷ part_at (on 6) (part.Parameters (parameter_at (on 8) (int_on 8 ∷ [])
          (Some (declarator_at (on 9) (part_at (on 9) (part.Parameters (parameter_at (on 10) (alias_on 10 (codes "T") ∷ []) None ∷ []) false) ∷ []))) ∷ []) false) ∷ [])) ∷ [];
    })
