-- The arguments of a call of a function-like macro (C90 6.8.3).
use Rattle.std.specs.Prelude.{◌≡◌, ◌≢◌, ℕ, zero, suc, true, List, [], ◌∷◌, length, codes, Option, Some, None, if◌then◌else◌}
use Rattle.std.specs.Str.{bytes_eq}
use Rattle.pp_token.specs.declared.token.PpToken.{PpToken}
use Rattle.cpp_expand.specs.Tokens.{IsPunct, IsLineEnd, IsEnd, after_space}

-- The list begins with a left parenthesis, maybe on a later line; then come these tokens.
pub data Opens : List PpToken → List PpToken → Type 0 where
  here : {left : PpToken} {inside : List PpToken} → IsPunct (codes "(") left → Opens (left ∷ inside) inside
  on_later_line : {end : PpToken} {rest inside : List PpToken} → IsLineEnd end → Opens rest inside → Opens (end ∷ rest) inside

-- the token has no part in how arguments are told apart, so many parentheses deep
pub record IsPlain (depth : ℕ) (token : PpToken) : Type 0 where
  pub no_end : IsEnd token → ⊥
  pub no_line_end : IsLineEnd token → ⊥
  pub no_left : IsPunct (codes "(") token → ⊥
  pub no_right : IsPunct (codes ")") token → ⊥
  pub no_comma : depth ≡ 0 → IsPunct (codes ",") token → ⊥

-- The list goes on, so many parentheses deep, with the rest of an argument, with further arguments, with the right
-- parenthesis that closes the call, and with the tokens behind the call. The ends of lines are white space.
pub data Holds : ℕ → List PpToken → List PpToken → List (List PpToken) → PpToken → List PpToken → Type 0 where
  closes : {close : PpToken} {behind : List PpToken} → IsPunct (codes ")") close → Holds zero (close ∷ behind) [] [] close behind
  next_argument : {comma close : PpToken} {rest first behind : List PpToken} {others : List (List PpToken)} → IsPunct (codes ",") comma
      → Holds zero rest first others close behind → Holds zero (comma ∷ rest) [] (first ∷ others) close behind
  next_line : {depth : ℕ} {end close : PpToken} {rest first behind : List PpToken} {others : List (List PpToken)} → IsLineEnd end
      → Holds depth rest first others close behind → Holds depth (end ∷ rest) (after_space true first) others close behind
  deeper : {depth : ℕ} {left close : PpToken} {rest first behind : List PpToken} {others : List (List PpToken)} → IsPunct (codes "(") left
      → Holds (suc depth) rest first others close behind → Holds depth (left ∷ rest) (left ∷ first) others close behind
  less_deep : {depth : ℕ} {right close : PpToken} {rest first behind : List PpToken} {others : List (List PpToken)} → IsPunct (codes ")") right
      → Holds depth rest first others close behind → Holds (suc depth) (right ∷ rest) (right ∷ first) others close behind
  plain : {depth : ℕ} {token close : PpToken} {rest first behind : List PpToken} {others : List (List PpToken)} → IsPlain depth token
      → Holds depth rest first others close behind → Holds depth (token ∷ rest) (token ∷ first) others close behind

-- The arguments of a call, where they are as many as the parameters. An empty one is none where there are no parameters.
pub data Fits : List (List ℕ) → List (List PpToken) → List (List PpToken) → Type 0 where
  none : Fits [] ([] ∷ []) []
  each : {parameters : List (List ℕ)} {arguments : List (List PpToken)} → parameters ≢ [] → length parameters ≡ length arguments → Fits parameters arguments arguments

-- the argument of the parameter that a text names
abbrev pub argument_of : List (List ℕ) → List (List PpToken) → List ℕ → Option (List PpToken)
argument_of [] arguments text = None
argument_of (parameter ∷ parameters) [] text = None
argument_of (parameter ∷ parameters) (argument ∷ arguments) text = if bytes_eq parameter text then Some argument else argument_of parameters arguments text
