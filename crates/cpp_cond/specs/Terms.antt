-- What a token is in a controlling expression.
use Rattle.std.specs.Prelude.{◌≡◌, ◌⊎◌, List, [], ◌∷◌, Result, Ok, Err, Some, None, true, false}
use Rattle.std.specs.Global.{Vec}
use Rattle.fsc_base.specs.declared.place.Broken.{Broken}
use Rattle.fsc_base.specs.declared.place.Place.{Place}
use Rattle.fsc_base.specs.declared.place.Refused.{Refused}
use Rattle.fsc_base.specs.declared.place.Refused.TheVariants as refusals
use Rattle.fsc_base.specs.declared.rule.Rule.TheVariants.{K35, L01}
use Rattle.pp_token.specs.declared.token.PpToken.{PpToken}
use Rattle.pp_token.specs.declared.token.PpKind.TheVariants as pp
use Rattle.c_lexer.specs.Lexing.{Breaks, Has}
use Rattle.c_lexer.specs.Punctuators.{punctuator_of}
use Rattle.cpp_cond.specs.declared.term.Term.{Term}
use Rattle.cpp_cond.specs.declared.term.Term.TheVariants.{Operand, Operator}
use Rattle.cpp_cond.specs.Constants.{IsConstant, BreaksAlone}
use Rattle.cpp_cond.specs.Expressions.{Computes}
use Rattle.cpp_cond.specs.Values.{truth}
use Rattle.cpp_cond.specs.declared.value.Value.{Value}
use Rattle.cpp_cond.specs.declared.operator.Level.TheVariants.{Conditional}

-- a constant, a name that is left, which is 0, or an operator or punctuator
abbrev pub IsTerm : PpToken → Term → Type 0
IsTerm token (Operand value) = ((token.kind ≡ pp.Name) × (value ≡ truth false)) ⊎ IsConstant token value
IsTerm token (Operator punctuator) = (token.kind ≡ pp.Punct) × (punctuator_of token.text ≡ Some punctuator)

-- each token is the term beside it
abbrev pub AreTerms : List PpToken → List Term → Type 0
AreTerms [] [] = Unit {0}
AreTerms [] (term ∷ terms) = ⊥
AreTerms (token ∷ tokens) [] = ⊥
AreTerms (token ∷ tokens) (term ∷ terms) = IsTerm token term × AreTerms tokens terms

-- a string, a header name, # or ##, the end of a line or of the unit, or a floating constant
abbrev pub IsForeign : PpToken → Type 0
IsForeign token =
    (token.kind ≡ pp.Str) ⊎ ((token.kind ≡ pp.Header) ⊎ ((token.kind ≡ pp.LineEnd) ⊎ ((token.kind ≡ pp.End)
    ⊎ (((token.kind ≡ pp.Punct) × (punctuator_of token.text ≡ None)) ⊎ Breaks L01 token.kind token.text))))

-- it stands in no integral constant expression, which the line of that `#` breaks, or it breaks a rule by itself
abbrev pub IsNoTerm : Place → Broken → PpToken → Type 0
IsNoTerm hash broken token =
    ((broken.rule ≡ K35) × (broken.place ≡ hash) × IsForeign token)
    ⊎ ((broken.place ≡ token.place) × BreaksAlone broken.rule token)

-- what the token is, or why it is nothing there
abbrev pub Reads : PpToken → Place → Result Term Refused → Type 0
Reads token hash (Ok term) = IsTerm token term
Reads token hash (Err (refusals.Broken broken)) = IsNoTerm hash broken token
Reads token hash (Err refusals.NoMemory) = ⊥

-- what all tokens are, or why one of them is nothing there
abbrev pub ReadsAll : List PpToken → Place → Result (Vec Term) Refused → Type 0
ReadsAll tokens hash (Ok terms) = AreTerms tokens terms.items
ReadsAll tokens hash (Err (refusals.Broken broken)) = Has (IsNoTerm hash broken) tokens
ReadsAll tokens hash (Err refusals.NoMemory) = Unit {0}

-- the tokens are an integral constant expression of that value
pub record HasValue (tokens : List PpToken) (value : Value) : Type 0 where
  pub terms : List Term
  pub are : AreTerms tokens terms
  pub computes : Computes true Conditional terms value

-- the value, or why there is none: no integral constant expression, or a token that breaks a rule by itself
abbrev pub IsUnevaluated : List PpToken → Place → Broken → Type 0
IsUnevaluated tokens hash broken =
    ((broken.rule ≡ K35) × (broken.place ≡ hash) × ((value : Value) → HasValue tokens value → ⊥))
    ⊎ Has (λ (token : PpToken). (broken.place ≡ token.place) × BreaksAlone broken.rule token) tokens

abbrev pub IsEvaluated : List PpToken → Place → Result Value Refused → Type 0
IsEvaluated tokens hash (Ok value) = HasValue tokens value
IsEvaluated tokens hash (Err (refusals.Broken broken)) = IsUnevaluated tokens hash broken
IsEvaluated tokens hash (Err refusals.NoMemory) = Unit {0}
