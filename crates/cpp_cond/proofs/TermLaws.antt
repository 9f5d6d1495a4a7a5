-- Tokens read as terms, one after the other.
use Rattle.std.proofs.Common.{◌≡◌, ℕ, ◌+◌, ◌<◌, ◌≤◌, List, [], ◌∷◌, ◌++◌, length, drop, drop_of_length-le, get_or, sym, ap, ◌∙◌, subst, inl, inr, Err}
use Rattle.std.proofs.lemmas.List.{append-nil, append_assoc, drop_more}
use Rattle.fsc_base.specs.declared.place.Broken.{Broken}
use Rattle.fsc_base.specs.declared.place.Place.{Place}
use Rattle.fsc_base.specs.declared.place.Refused.{Refused}
use Rattle.fsc_base.specs.declared.place.Refused.TheVariants as refusals
use Rattle.pp_token.specs.declared.token.PpToken.{PpToken}
use Rattle.c_lexer.specs.Lexing.{Has}
use Rattle.cpp_cond.specs.declared.term.Term.{Term}
use Rattle.cpp_cond.specs.Terms.{IsTerm, AreTerms, IsNoTerm, Reads, ReadsAll}

-- what these tokens are is behind what was read, and what is none of them is none of all
pub record SoFar (tokens : List PpToken) (hash : Place) (rest : List PpToken) (terms : List Term) : Type 0 where
  pub are : (more : List Term) → AreTerms rest more → AreTerms tokens (terms ++ more)
  pub none : (broken : Broken) → Has (IsNoTerm hash broken) rest → Has (IsNoTerm hash broken) tokens

pub begun : (tokens : List PpToken) (hash : Place) → SoFar tokens hash tokens []
begun tokens hash = record { are = λ more h. h; none = λ broken h. h }

goes_on : (tokens : List PpToken) (hash : Place) (token : PpToken) (behind : List PpToken) (old new : List Term) (term : Term) → new ≡ old ++ term ∷ [] → IsTerm token term
    → SoFar tokens hash (token ∷ behind) old → SoFar tokens hash behind new
goes_on tokens hash token behind old new term longer is so_far = record {
  are = λ more h. subst (λ (l : List Term). AreTerms tokens l) (sym (ap (λ (l : List Term). l ++ more) longer ∙ append_assoc old (term ∷ []) more)) (so_far.are (term ∷ more) (is, h));
  none = λ broken h. so_far.none broken (inr h);
}

none_here : (tokens : List PpToken) (hash : Place) (token : PpToken) (behind : List PpToken) (old : List Term) (refused : Refused) → Reads token hash (Err refused)
    → SoFar tokens hash (token ∷ behind) old → ReadsAll tokens hash (Err refused)
none_here tokens hash token behind old (refusals.Broken broken) reads so_far = so_far.none broken (inl reads)
none_here tokens hash token behind old refusals.NoMemory reads so_far = tt

next_token : (list : List PpToken) (i : ℕ) (token : PpToken) → i < length list → token ≡ get_or list i token → drop i list ≡ token ∷ drop (i + 1) list
next_token list i token lt is = drop_more list i token lt ∙ ap (λ (x : PpToken). x ∷ drop (i + 1) list) (sym is)

pub goes_on_at : (tokens : List PpToken) (hash : Place) (i : ℕ) (token : PpToken) (old new : List Term) (term : Term) → i < length tokens → token ≡ get_or tokens i token
    → new ≡ old ++ term ∷ [] → IsTerm token term → SoFar tokens hash (drop i tokens) old → SoFar tokens hash (drop (i + 1) tokens) new
goes_on_at tokens hash i token old new term lt is longer term_is so_far =
    goes_on tokens hash token (drop (i + 1) tokens) old new term longer term_is (subst (λ (rest : List PpToken). SoFar tokens hash rest old) (next_token tokens i token lt is) so_far)

pub none_at : (tokens : List PpToken) (hash : Place) (i : ℕ) (token : PpToken) (old : List Term) (refused : Refused) → i < length tokens → token ≡ get_or tokens i token
    → Reads token hash (Err refused) → SoFar tokens hash (drop i tokens) old → ReadsAll tokens hash (Err refused)
none_at tokens hash i token old refused lt is reads so_far =
    none_here tokens hash token (drop (i + 1) tokens) old refused reads (subst (λ (rest : List PpToken). SoFar tokens hash rest old) (next_token tokens i token lt is) so_far)

pub all_read : (tokens : List PpToken) (hash : Place) (i : ℕ) (terms : List Term) → length tokens ≤ i → SoFar tokens hash (drop i tokens) terms → AreTerms tokens terms
all_read tokens hash i terms le so_far =
    subst (λ (l : List Term). AreTerms tokens l) (append-nil terms) ((subst (λ (rest : List PpToken). SoFar tokens hash rest terms) (drop_of_length-le tokens le) so_far).are [] tt)
