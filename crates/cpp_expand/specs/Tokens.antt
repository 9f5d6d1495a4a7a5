-- Words on preprocessing tokens and hide sets.
use Rattle.std.specs.Prelude.{◌≡◌, ℕ, Bool, ◌||◌, List, [], ◌∷◌, ◌++◌, IsTrue}
use Rattle.pp_token.specs.HideSets.{has, with_names}
use Rattle.pp_token.specs.declared.token.PpToken.{PpToken}
use Rattle.pp_token.specs.declared.token.PpKind.TheVariants.{Punct, LineEnd, End}

-- an operator or punctuator of this spelling
abbrev pub IsPunct : List ℕ → PpToken → Type 0
IsPunct spelling token = (token.kind ≡ Punct) × (token.text ≡ spelling)

-- the end of a line
abbrev pub IsLineEnd : PpToken → Type 0
IsLineEnd token = token.kind ≡ LineEnd

-- the end of the file or of the unit
abbrev pub IsEnd : PpToken → Type 0
IsEnd token = token.kind ≡ End

-- ---- hide sets

-- the token is not expanded for its own name
abbrev pub IsHidden : PpToken → Type 0
IsHidden token = IsTrue (has token.hide token.text)

-- the token, with names added to its hide set
abbrev pub hidden_from : List (List ℕ) → PpToken → PpToken
hidden_from names token = record token { hide = with_names token.hide names }

-- the token without a hide set
abbrev pub unhidden : PpToken → PpToken
unhidden token = record token { hide = [] }

-- ---- white space

-- the tokens, with white space in front where they had it or it is so
abbrev pub after_space : Bool → List PpToken → List PpToken
after_space spaced [] = []
after_space spaced (first ∷ rest) = record first { spaced = first.spaced || spaced } ∷ rest

-- The tokens that stand in the place of one, and those behind them. The first of the tokens has white space in front
-- where that one had it; where there are none, the first behind them has it too.
abbrev pub put_in : Bool → List PpToken → List PpToken → List PpToken
put_in spaced [] behind = after_space spaced behind
put_in spaced (first ∷ tokens) behind = record first { spaced = spaced } ∷ (tokens ++ behind)
