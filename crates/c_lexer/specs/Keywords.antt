-- Keywords (C90 6.1.1).
use Rattle.std.specs.Prelude.{ℕ, List, [], ◌∷◌, codes, Option, option_map, find}
use Rattle.std.specs.Str.{bytes_eq}
use Rattle.c_lexer.specs.declared.keyword.Keyword.{Keyword}
use Rattle.c_lexer.specs.declared.keyword.Keyword.TheVariants.{Auto, Break, Case, Char, Const, Continue, Default, Do, Double, Else, Enum, Extern, Float, For, Goto, If, Int, Long, Register, Return, Short, Signed, Sizeof, Static, Struct, Switch, Typedef, Union, Unsigned, Void, Volatile, While}

-- each with its spelling
unfoldable pub keywords : List (List ℕ × Keyword)
keywords =
    (codes "auto", Auto) ∷
    (codes "break", Break) ∷
    (codes "case", Case) ∷
    (codes "char", Char) ∷
    (codes "const", Const) ∷
    (codes "continue", Continue) ∷
    (codes "default", Default) ∷
    (codes "do", Do) ∷
    (codes "double", Double) ∷
    (codes "else", Else) ∷
    (codes "enum", Enum) ∷
    (codes "extern", Extern) ∷
    (codes "float", Float) ∷
    (codes "for", For) ∷
    (codes "goto", Goto) ∷
    (codes "if", If) ∷
    (codes "int", Int) ∷
    (codes "long", Long) ∷
    (codes "register", Register) ∷
    (codes "return", Return) ∷
    (codes "short", Short) ∷
    (codes "signed", Signed) ∷
    (codes "sizeof", Sizeof) ∷
    (codes "static", Static) ∷
    (codes "struct", Struct) ∷
    (codes "switch", Switch) ∷
    (codes "typedef", Typedef) ∷
    (codes "union", Union) ∷
    (codes "unsigned", Unsigned) ∷
    (codes "void", Void) ∷
    (codes "volatile", Volatile) ∷
    (codes "while", While) ∷
    []

-- the one that is spelled so
abbrev pub keyword_of : List ℕ → Option Keyword
keyword_of text = option_map (λ (entry : List ℕ × Keyword). entry.1) (find (λ (entry : List ℕ × Keyword). bytes_eq entry.0 text) keywords)
