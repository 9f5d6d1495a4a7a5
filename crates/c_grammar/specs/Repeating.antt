-- What stands several times, or may be absent, over a relation between scopes, tokens, what derives from them and the scopes behind.
use Rattle.std.specs.Prelude.{List, [], ◌∷◌, ◌++◌, Option, Some, None}
use Rattle.fsc_base.specs.declared.place.Place.{Place}
use Rattle.c_lexer.specs.declared.token.Token.{Token}
use Rattle.c_lexer.specs.declared.punctuator.Punctuator.TheVariants.{Comma}
use Rattle.c_grammar.specs.Names.{Scopes}
use Rattle.c_grammar.specs.Tokens.{sign}

-- one after the other, any number
pub data Several {A : Type 0} (Derives : Scopes → List Token → A → Scopes → Type 0) : Scopes → List Token → List A → Scopes → Type 0 where
  none : {names : Scopes} → Several Derives names [] [] names
  more : {names between after : Scopes} {tokens rest : List Token} {x : A} {others : List A}
      → Derives names tokens x between → Several Derives between rest others after
      → Several Derives names (tokens ++ rest) (x ∷ others) after

-- with commas between them, one at least
pub data Separated {A : Type 0} (Derives : Scopes → List Token → A → Scopes → Type 0) : Scopes → List Token → List A → Scopes → Type 0 where
  one : {names after : Scopes} {tokens : List Token} {x : A} → Derives names tokens x after → Separated Derives names tokens (x ∷ []) after
  more : {names between after : Scopes} {tokens rest : List Token} {x : A} {others : List A} (p : Place)
      → Derives names tokens x between → Separated Derives between rest others after
      → Separated Derives names (tokens ++ (sign Comma p ∷ rest)) (x ∷ others) after

-- one, or none
pub data Perhaps {A : Type 0} (Derives : Scopes → List Token → A → Scopes → Type 0) : Scopes → List Token → Option A → Scopes → Type 0 where
  absent : {names : Scopes} → Perhaps Derives names [] None names
  present : {names after : Scopes} {tokens : List Token} {x : A} → Derives names tokens x after → Perhaps Derives names tokens (Some x) after
