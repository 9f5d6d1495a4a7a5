-- Counts of expressions by their forms.
use Rattle.std.proofs.Common.{◌≡◌, ◌+◌, ℕ, suc, map, sum, take, slice_get, get_or, length, ◌<◌, List, [], ◌∷◌, ◌++◌, Some, sym, ap, ◌∙◌, arith}
use Rattle.std.proofs.lemmas.Option.{slice_get_within, get_or_from_slice_get}
use Rattle.std.proofs.Math.Seq.{take-suc}
use Rattle.std.proofs.lemmas.List.{map-append}
use Rattle.std.proofs.lemmas.List.Sums.{sum_by-append, sum_by-cons}
use Rattle.c_tree.specs.declared.expression.TExpr.{TExpr, out-TExpr, fold_out-TExpr}
use Rattle.c_tree.specs.declared.expression.Form.TheVariants as form
use Rattle.c_tree.specs.declared.statement.TStatement.{TStatement, fold-roll-TStatement}
use Rattle.c_tree.specs.declared.statement.TStatement.TheOpen.TStatement-F.{Compound}
use Rattle.c_tree.specs.declared.statement.TStatement.TheVariants as view
use Rattle.c_tree.specs.declared.statement.TStatement.TheVariants.{rolls-Compound}
use Rattle.c_ops.specs.declared.primitive.Primitive.{Primitive}
use Rattle.c_tree.specs.Counting.{most, expression_nodes, expression_step, statement_nodes, statement_step}

pub most_most : (a b : ℕ) → most (most a + b) ≡ most (a + b)
most_most a b = omega arith

pub of_comma : (e : TExpr) (parts : List TExpr) → (out-TExpr e).form ≡ form.Comma parts
    → expression_nodes e ≡ 1 + sum (map expression_nodes parts)
unfolding expression_nodes
of_comma e parts is = simp (fold_out-TExpr ℕ expression_step e, is)

pub of_call : (e f : TExpr) (arguments : List TExpr) → (out-TExpr e).form ≡ form.Call f arguments
    → expression_nodes e ≡ 1 + (expression_nodes f + sum (map expression_nodes arguments))
unfolding expression_nodes
of_call e f arguments is = simp (fold_out-TExpr ℕ expression_step e, is)

pub of_call_record : (e f : TExpr) (arguments : List TExpr) (number : ℕ) → (out-TExpr e).form ≡ form.CallRecord f arguments number
    → expression_nodes e ≡ 1 + (expression_nodes f + sum (map expression_nodes arguments))
unfolding expression_nodes
of_call_record e f arguments number is = simp (fold_out-TExpr ℕ expression_step e, is)

pub of_primitive : (e : TExpr) (p : Primitive) (arguments : List TExpr) → (out-TExpr e).form ≡ form.Primitive p arguments
    → expression_nodes e ≡ 1 + sum (map expression_nodes arguments)
unfolding expression_nodes
of_primitive e p arguments is = simp (fold_out-TExpr ℕ expression_step e, is)

pub of_compound : (s : TStatement) (statements : List TStatement) → s ≡ view.Compound statements
    → statement_nodes s ≡ 1 + sum (map statement_nodes statements)
unfolding statement_nodes
of_compound s statements is =
    ap statement_nodes is ∙ (ap statement_nodes (sym (rolls-Compound statements)) ∙ fold-roll-TStatement ℕ statement_step (Compound statements))

-- one more item of a list
pub sum_push : {T : Type 0} → (f : T → ℕ) (xs : List T) (x : T) → sum (map f (xs ++ (x ∷ []))) ≡ sum (map f xs) + f x
sum_push f xs x =
    let front : sum (map f (xs ++ (x ∷ []))) ≡ sum (map f xs ++ (f x ∷ [])) = ap sum (map-append f xs (x ∷ [])) in
    let split : sum (map f xs ++ (f x ∷ [])) ≡ sum (map f xs) + sum (f x ∷ []) = sum_by-append (λ (n : ℕ). n) (map f xs) (f x ∷ []) in
    let last : sum (f x ∷ []) ≡ f x = omega (arith, sum_by-cons (λ (n : ℕ). n) (f x) []) in
    omega (arith, front, split, last)

pub sum_take : {T : Type 0} → (f : T → ℕ) (xs : List T) (i : ℕ) (x : T) → slice_get xs i ≡ Some x
    → sum (map f (take (i + 1) xs)) ≡ sum (map f (take i xs)) + f x
sum_take {T = T} f xs i x h =
    let inside : i < length xs = slice_get_within xs i x h in
    let same : get_or xs i x ≡ x = get_or_from_slice_get xs i x x h in
    let next : i + 1 ≡ suc i = omega arith in
    ap (λ (n : ℕ). sum (map f (take n xs))) next
    ∙ (ap (λ (zs : List T). sum (map f zs)) (take-suc xs i x inside)
    ∙ (sum_push f (take i xs) (get_or xs i x)
    ∙ ap (λ (z : T). sum (map f (take i xs)) + f z) same))
