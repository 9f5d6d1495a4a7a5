-- The value of a list of tokens, and where it has none.
use Rattle.std.proofs.Common.{◌≡◌, ◌≢◌, refl, sym, ap, ◌∙◌, subst, ◌⊎◌, inl, inr, ℕ, ◌≤◌, List, [], ◌∷◌, Option, Some, None, Err, arith}
use Rattle.std.proofs.lemmas.Option.{none-some, same_Some}
use Rattle.fsc_base.specs.declared.place.Broken.{Broken}
use Rattle.fsc_base.specs.declared.place.Place.{Place}
use Rattle.fsc_base.specs.declared.place.Refused.{Refused}
use Rattle.fsc_base.specs.declared.place.Refused.TheVariants as refusals
use Rattle.fsc_base.specs.declared.rule.Rule.{Rule}
use Rattle.fsc_base.specs.declared.rule.Rule.TheVariants.{K35, K44, K45, L01, L04, L06}
use Rattle.pp_token.specs.declared.token.PpToken.{PpToken}
use Rattle.pp_token.specs.declared.token.PpKind.{PpKind}
use Rattle.pp_token.specs.declared.token.PpKind.TheVariants as pp
use Rattle.c_lexer.specs.Lexing.{Breaks, Has, IsFloating}
use Rattle.cpp_cond.specs.declared.evaluation.Fault.{Fault}
use Rattle.cpp_cond.specs.declared.evaluation.Fault.TheVariants.{NoExpression}
use Rattle.cpp_cond.specs.declared.term.Term.{Term}
use Rattle.cpp_cond.specs.declared.term.Term.TheVariants.{Operand, Operator}
use Rattle.cpp_cond.specs.declared.value.Value.{Value}
use Rattle.cpp_cond.specs.Constants.{IsConstantKind, BreaksAlone}
use Rattle.cpp_cond.specs.Evaluating.{IsValue}
use Rattle.cpp_cond.specs.Reading.{value_of}
use Rattle.cpp_cond.specs.Terms.{IsTerm, AreTerms, IsForeign, IsNoTerm, HasValue, IsUnevaluated, IsEvaluated, ReadsAll}
use Rattle.cpp_cond.proofs.Complete.{complete_value}
use Rattle.cpp_cond.proofs.Sound.{sound_value}

-- ---- kinds and rules that differ

abbrev number_of : PpKind → ℕ
number_of pp.Name = 0
number_of pp.Number = 1
number_of pp.Char = 2
number_of pp.Punct = 3
number_of pp.Str = 4
number_of pp.Header = 5
number_of pp.LineEnd = 6
number_of pp.End = 7
number_of pp.Other = 8

other_kind : {X : Type 0} (kind a b : PpKind) → kind ≡ a → kind ≡ b → number_of a ≢ number_of b → X
other_kind kind a b one other differ = absurd (differ (sym (ap number_of one) ∙ ap number_of other))

abbrev is_floating_rule : Rule → ℕ
is_floating_rule L01 = 1
is_floating_rule _ = 0

no_floating : {X : Type 0} (rule : Rule) → L01 ≡ rule → is_floating_rule rule ≡ 0 → X
no_floating rule same none = absurd (let e = ap is_floating_rule same in omega (arith, e, none))

floating : (kind : PpKind) (text : List ℕ) → Breaks L01 kind text → IsFloating kind text
floating kind text (inl broken) = no_floating K44 broken.0 refl
floating kind text (inr (inl broken)) = no_floating K45 broken.0 refl
floating kind text (inr (inr (inl broken))) = broken.1
floating kind text (inr (inr (inr (inl broken)))) = no_floating L04 broken.0 refl
floating kind text (inr (inr (inr (inr broken)))) = no_floating L06 broken.0 refl

-- ---- one term for a token

constant_is_no : (token : PpToken) (kind : PpKind) → IsConstantKind token.kind → token.kind ≡ kind → 3 ≤ number_of kind → ⊥
constant_is_no token kind (inl is) same h = let e = sym (ap number_of is) ∙ ap number_of same in omega (arith, e, h)
constant_is_no token kind (inr is) same h = let e = sym (ap number_of is) ∙ ap number_of same in omega (arith, e, h)

constant_is_no_name : (token : PpToken) → IsConstantKind token.kind → token.kind ≡ pp.Name → ⊥
constant_is_no_name token (inl is) same = let e = sym (ap number_of is) ∙ ap number_of same in omega (arith, e)
constant_is_no_name token (inr is) same = let e = sym (ap number_of is) ∙ ap number_of same in omega (arith, e)

operand_is_no : (token : PpToken) (value : Value) (kind : PpKind) → IsTerm token (Operand value) → token.kind ≡ kind → 3 ≤ number_of kind → ⊥
operand_is_no token value kind (inl (is, of)) same h = let e = sym (ap number_of is) ∙ ap number_of same in omega (arith, e, h)
operand_is_no token value kind (inr constant) same h = constant_is_no token kind constant.kind same h

one_term : (token : PpToken) (t u : Term) → IsTerm token t → IsTerm token u → t ≡ u
one_term token (Operand v) (Operand w) (inl (is, v_is)) (inl (same, w_is)) = ap Operand (v_is ∙ sym w_is)
one_term token (Operand v) (Operand w) (inl (is, v_is)) (inr constant) = absurd (constant_is_no_name token constant.kind is)
one_term token (Operand v) (Operand w) (inr constant) (inl (is, w_is)) = absurd (constant_is_no_name token constant.kind is)
one_term token (Operand v) (Operand w) (inr one) (inr other) = ap Operand (same_Some v w (sym one.value_is ∙ other.value_is))
one_term token (Operand v) (Operator q) is (punct, of) = absurd (operand_is_no token v pp.Punct is punct (omega arith))
one_term token (Operator p) (Operand w) (punct, of) is = absurd (operand_is_no token w pp.Punct is punct (omega arith))
one_term token (Operator p) (Operator q) (punct, p_is) (same, q_is) = ap Operator (same_Some p q (sym p_is ∙ q_is))

same_terms : (tokens : List PpToken) (terms others : List Term) → AreTerms tokens terms → AreTerms tokens others → terms ≡ others
same_terms [] [] [] are be = refl
same_terms [] [] (u ∷ others) are be = absurd be
same_terms [] (t ∷ terms) others are be = absurd are
same_terms (token ∷ tokens) [] others are be = absurd are
same_terms (token ∷ tokens) (t ∷ terms) [] are be = absurd be
same_terms (token ∷ tokens) (t ∷ terms) (u ∷ others) (one, are) (two, be) =
    ap (λ (x : Term). x ∷ terms) (one_term token t u one two) ∙ ap (λ (l : List Term). u ∷ l) (same_terms tokens terms others are be)

-- ---- what is no term

foreign_is_none : (token : PpToken) (t : Term) → IsForeign token → IsTerm token t → ⊥
foreign_is_none token (Operand v) (inl is) term = operand_is_no token v pp.Str term is (omega arith)
foreign_is_none token (Operand v) (inr (inl is)) term = operand_is_no token v pp.Header term is (omega arith)
foreign_is_none token (Operand v) (inr (inr (inl is))) term = operand_is_no token v pp.LineEnd term is (omega arith)
foreign_is_none token (Operand v) (inr (inr (inr (inl is)))) term = operand_is_no token v pp.End term is (omega arith)
foreign_is_none token (Operand v) (inr (inr (inr (inr (inl (is, none)))))) term = operand_is_no token v pp.Punct term is (omega arith)
foreign_is_none token (Operand v) (inr (inr (inr (inr (inr breaks))))) (inl (is, of)) = subst (λ (k : PpKind). IsFloating k token.text) is (floating token.kind token.text breaks)
foreign_is_none token (Operand v) (inr (inr (inr (inr (inr breaks))))) (inr constant) = constant.unbroken L01 breaks
foreign_is_none token (Operator p) (inl is) (punct, of) = other_kind token.kind pp.Str pp.Punct is punct (omega arith)
foreign_is_none token (Operator p) (inr (inl is)) (punct, of) = other_kind token.kind pp.Header pp.Punct is punct (omega arith)
foreign_is_none token (Operator p) (inr (inr (inl is))) (punct, of) = other_kind token.kind pp.LineEnd pp.Punct is punct (omega arith)
foreign_is_none token (Operator p) (inr (inr (inr (inl is)))) (punct, of) = other_kind token.kind pp.End pp.Punct is punct (omega arith)
foreign_is_none token (Operator p) (inr (inr (inr (inr (inl (is, none)))))) (punct, of) = none-some p (sym none ∙ of)
foreign_is_none token (Operator p) (inr (inr (inr (inr (inr breaks))))) (punct, of) = subst (λ (k : PpKind). IsFloating k token.text) punct (floating token.kind token.text breaks)

-- a token breaks a rule by itself, or one of them is foreign
abbrev Stands : Place → Broken → List PpToken → Type 0
Stands hash broken tokens =
    Has (λ (token : PpToken). (broken.place ≡ token.place) × BreaksAlone broken.rule token) tokens
    ⊎ ((broken.rule ≡ K35) × (broken.place ≡ hash) × ((terms : List Term) → AreTerms tokens terms → ⊥))

none_behind : (token : PpToken) (tokens : List PpToken) → ((terms : List Term) → AreTerms tokens terms → ⊥) → (terms : List Term) → AreTerms (token ∷ tokens) terms → ⊥
none_behind token tokens none [] are = are
none_behind token tokens none (t ∷ terms) (one, are) = none terms are

none_with : (token : PpToken) (tokens : List PpToken) → IsForeign token → (terms : List Term) → AreTerms (token ∷ tokens) terms → ⊥
none_with token tokens foreign [] are = are
none_with token tokens foreign (t ∷ terms) (one, are) = foreign_is_none token t foreign one

behind_it : (hash : Place) (broken : Broken) (token : PpToken) (tokens : List PpToken) → Stands hash broken tokens → Stands hash broken (token ∷ tokens)
behind_it hash broken token tokens (inl has) = inl (inr has)
behind_it hash broken token tokens (inr (rule, place, none)) = inr (rule, place, none_behind token tokens none)

stands : (hash : Place) (broken : Broken) (tokens : List PpToken) → Has (IsNoTerm hash broken) tokens → Stands hash broken tokens
stands hash broken [] has = absurd has
stands hash broken (token ∷ tokens) (inl (inl (rule, place, foreign))) = inr (rule, place, none_with token tokens foreign)
stands hash broken (token ∷ tokens) (inl (inr alone)) = inl (inl alone)
stands hash broken (token ∷ tokens) (inr has) = behind_it hash broken token tokens (stands hash broken tokens has)

-- ---- the value

pub has_value : (tokens : List PpToken) (terms : List Term) (value : Value) → AreTerms tokens terms → value_of terms ≡ Some value → HasValue tokens value
has_value tokens terms value are is = record { terms = terms; are = are; computes = sound_value terms value is }

pub has_none : (tokens : List PpToken) (terms : List Term) → AreTerms tokens terms → value_of terms ≡ None → (value : Value) → HasValue tokens value → ⊥
has_none tokens terms are is value has =
    none-some value (sym is ∙ (ap value_of (same_terms tokens terms has.terms are has.are) ∙ complete_value has.terms value has.computes))

pub unread : (tokens : List PpToken) (hash : Place) (refused : Refused) → ReadsAll tokens hash (Err refused) → IsEvaluated tokens hash (Err refused)
unread tokens hash refusals.NoMemory reads = tt
unread tokens hash (refusals.Broken broken) reads = by_cause (stands hash broken tokens reads)
  where
    by_cause : Stands hash broken tokens → IsUnevaluated tokens hash broken
    by_cause (inl has) = inr has
    by_cause (inr (rule, place, none)) = inl (rule, place, λ value has. none has.terms has.are)

pub no_value : (said : Option Value) (fault : Fault) → fault ≡ NoExpression → IsValue said (Err fault) → said ≡ None
no_value said fault is of = subst (λ (f : Fault). IsValue said (Err f)) is of
