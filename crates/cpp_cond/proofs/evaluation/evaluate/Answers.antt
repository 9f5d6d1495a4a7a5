use Rattle.std.proofs.Common.{refl, sym, subst, inl, List}
use Rattle.std.proofs.lemmas.Result.{err_from_is_err_and}
use Rattle.cpp_cond.specs.declared.term.Term.{Term}
use Rattle.cpp_cond.specs.Terms.{AreTerms}
use Rattle.cpp_cond.proofs.Values.{has_value, has_none, no_value, unread}
use Rattle.cpp_cond.proofs.evaluation.evaluate.Goals as goal

pub returns-in_err-terms-clause-evaluated : goal.returns-in_err-terms-clause-evaluated
returns-in_err-terms-clause-evaluated c =
    let p = err_from_is_err_and c.from_residual.result c.from_residual.ensures.1 in
    rw (p.1, p.2) (unread c.args.tokens.now c.args.hash c.in_err-terms.field-0.0 c.in_err-terms.ensures.read)

pub returns-in-Ok-clause-evaluated : goal.returns-in-Ok-clause-evaluated
returns-in-Ok-clause-evaluated c =
    has_value c.args.tokens.now c.as_slice.result.now c.in-Ok.value (subst (λ (l : List Term). AreTerms c.args.tokens.now l) (sym c.as_slice.ensures.value) c.in_ok-terms.ensures.read) c.in-Ok.ensures

pub returns-in-Err-NoExpression-clause-evaluated : goal.returns-in-Err-NoExpression-clause-evaluated
returns-in-Err-NoExpression-clause-evaluated c =
    rw c.no_expression.ensures.is (inl (refl, refl, has_none c.args.tokens.now c.as_slice.result.now (subst (λ (l : List Term). AreTerms c.args.tokens.now l) (sym c.as_slice.ensures.value) c.in_ok-terms.ensures.read) (no_value _ _ c.in-Err-NoExpression.field-0-is c.in-Err-NoExpression.ensures)))
