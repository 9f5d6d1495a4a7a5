-- Where tokens break the grammar: rules K01 and L03.
use Rattle.std.specs.Prelude.{◌≡◌, true, List, [], ◌∷◌, ◌++◌}
use Rattle.fsc_base.specs.declared.place.Place.{Place}
use Rattle.fsc_base.specs.declared.rule.Rule.{Rule}
use Rattle.fsc_base.specs.declared.rule.Rule.TheVariants.{K01, L03}
use Rattle.c_lexer.specs.declared.token.Token.{Token}
use Rattle.c_lexer.specs.declared.token.TokenKind.TheVariants.{End}
use Rattle.c_syntax.specs.declared.unit.Tree.{Tree}
use Rattle.c_syntax.specs.Depth.{is_at_most}
use Rattle.c_grammar.specs.Tokens.{token}
use Rattle.c_grammar.specs.Units.{Derives}
use Rattle.c_grammar.specs.Samples.{on}

-- some tree derives from tokens that begin with these
abbrev pub Begins : List Token → Type 0
Begins front = (rest : List Token) × (tree : Tree) × Derives (front ++ rest) tree

-- a tree that is at most 256 deep
abbrev pub BeginsWithin : List Token → Type 0
BeginsWithin front = (rest : List Token) × (tree : Tree) × Derives (front ++ rest) tree × (is_at_most 256 tree ≡ true)

-- no tree derives from tokens that go on with the token, but one from some that begin as those before it
pub record IsUnexpected (before : List Token) (next : Token) : Type 0 where
  pub goes : Begins before
  pub stops : Begins (before ++ (next ∷ [])) → ⊥

-- trees derive from tokens that go on with the token, but each is too deep
pub record IsTooDeep (before : List Token) (next : Token) : Type 0 where
  pub goes : Begins (before ++ (next ∷ []))
  pub stops : BeginsWithin (before ++ (next ∷ [])) → ⊥

-- a rule that tokens break, and the place of the token that breaks it
pub data BreaksGrammar : List Token → Rule → Place → Type 0 where
  unexpected : (before : List Token) {next : Token} (behind : List Token) → IsUnexpected before next → BreaksGrammar (before ++ (next ∷ behind)) K01 next.place
  too_deep : (before : List Token) {next : Token} (behind : List Token) → IsTooDeep before next → BreaksGrammar (before ++ (next ∷ behind)) L03 next.place

-- ---- laws

-- a unit of no tokens breaks K01 at its end
abbrev pub NothingBreaks : Type 0
NothingBreaks = BreaksGrammar (token End (on 1) ∷ []) K01 (on 1)

-- no token breaks both rules
abbrev pub NoneBreaksBoth : Type 0
NoneBreaksBoth = (before : List Token) (next : Token) → IsUnexpected before next → IsTooDeep before next → ⊥
