-- Operators and punctuators (C90 6.1.5 and 6.1.6), but for `sizeof`, `#` and `##`.
use Rattle.std.specs.Prelude.{ℕ, List, [], ◌∷◌, codes, Option, option_map, find}
use Rattle.std.specs.Str.{bytes_eq}
use Rattle.c_lexer.specs.declared.punctuator.Punctuator.{Punctuator}
use Rattle.c_lexer.specs.declared.punctuator.Punctuator.TheVariants.{LeftBracket, RightBracket, LeftParenthesis, RightParenthesis, LeftBrace, RightBrace, Dot, Arrow, Increment, Decrement, Ampersand, Star, Plus, Minus, Tilde, Exclamation, Slash, Percent, ShiftLeft, ShiftRight, Less, Greater, LessEqual, GreaterEqual, EqualEqual, NotEqual, Caret, Bar, AndAnd, OrOr, Question, Colon, Semicolon, Ellipsis, Assign, StarAssign, SlashAssign, PercentAssign, PlusAssign, MinusAssign, ShiftLeftAssign, ShiftRightAssign, AndAssign, CaretAssign, OrAssign, Comma}

-- each with its spelling
unfoldable pub punctuators : List (List ℕ × Punctuator)
punctuators =
    (codes "[", LeftBracket) ∷
    (codes "]", RightBracket) ∷
    (codes "(", LeftParenthesis) ∷
    (codes ")", RightParenthesis) ∷
    (codes "{", LeftBrace) ∷
    (codes "}", RightBrace) ∷
    (codes ".", Dot) ∷
    (codes "->", Arrow) ∷
    (codes "++", Increment) ∷
    (codes "--", Decrement) ∷
    (codes "&", Ampersand) ∷
    (codes "*", Star) ∷
    (codes "+", Plus) ∷
    (codes "-", Minus) ∷
    (codes "~", Tilde) ∷
    (codes "!", Exclamation) ∷
    (codes "/", Slash) ∷
    (codes "%", Percent) ∷
    (codes "<<", ShiftLeft) ∷
    (codes ">>", ShiftRight) ∷
    (codes "<", Less) ∷
    (codes ">", Greater) ∷
    (codes "<=", LessEqual) ∷
    (codes ">=", GreaterEqual) ∷
    (codes "==", EqualEqual) ∷
    (codes "!=", NotEqual) ∷
    (codes "^", Caret) ∷
    (codes "|", Bar) ∷
    (codes "&&", AndAnd) ∷
    (codes "||", OrOr) ∷
    (codes "?", Question) ∷
    (codes ":", Colon) ∷
    (codes ";", Semicolon) ∷
    (codes "...", Ellipsis) ∷
    (codes "=", Assign) ∷
    (codes "*=", StarAssign) ∷
    (codes "/=", SlashAssign) ∷
    (codes "%=", PercentAssign) ∷
    (codes "+=", PlusAssign) ∷
    (codes "-=", MinusAssign) ∷
    (codes "<<=", ShiftLeftAssign) ∷
    (codes ">>=", ShiftRightAssign) ∷
    (codes "&=", AndAssign) ∷
    (codes "^=", CaretAssign) ∷
    (codes "|=", OrAssign) ∷
    (codes ",", Comma) ∷
    []

-- the one that is spelled so
abbrev pub punctuator_of : List ℕ → Option Punctuator
punctuator_of text = option_map (λ (entry : List ℕ × Punctuator). entry.1) (find (λ (entry : List ℕ × Punctuator). bytes_eq entry.0 text) punctuators)
