-- Which of the last two operands of a conditional expression is evaluated.
use Rattle.std.proofs.Common.{◌≡◌, ℕ, Bool, not, ◌&&◌, if◌then◌else◌, List, Option, Some, None, refl, sym, ap, ◌∙◌}
use Rattle.c_types.specs.declared.node.TypeNode.{TypeNode}
use Rattle.c_tree.specs.declared.expression.TExpr.{TExpr, out-TExpr, fold_out-TExpr}
use Rattle.c_tree.specs.declared.expression.Form.TheVariants as form
use Rattle.c_tree.specs.Constants.{Constant, Value, Whole, Made, At, constant_of, constant_step, number_of, with_number, with_numbers, is_set}

-- one of two numbers
abbrev pub choice : (t l r : Option Value) → Option Value
choice t l r = with_number t (λ (n : ℕ). with_numbers l r (λ (x y : ℕ). Some (Whole (if is_set n then x else y))))

abbrev pub choice_where : (t : Option Value) → (a b : Bool → Option Value) → (is_live : Bool) → Option Value
choice_where t a b is_live = with_number t
    (λ (n : ℕ). with_numbers (a (is_live && is_set n)) (b (is_live && not (is_set n))) (λ (x y : ℕ). Some (Whole (if is_set n then x else y))))

-- what it is to be evaluated where the test is, or isn't, zero
abbrev pub IsWhere : (t : Option Value) → (first : Bool) → (ℕ → Bool) → Type 0
IsWhere t first says = (n : ℕ) → number_of t ≡ Some n → first ≡ says n

same_choice : (t l r : Option Value) (a b : Bool → Option Value) (is_live first second : Bool)
    → IsWhere t first (λ n. is_live && is_set n) → IsWhere t second (λ n. is_live && not (is_set n))
    → l ≡ a first → r ≡ b second → choice t l r ≡ choice_where t a b is_live
same_choice None l r a b is_live first second on_set on_zero left right = refl
same_choice (Some (Whole n)) l r a b is_live first second on_set on_zero left right =
    ap (λ (x : Option Value). choice (Some (Whole n)) x r) (left ∙ ap a (on_set n refl))
    ∙ ap (λ (y : Option Value). choice (Some (Whole n)) (a (is_live && is_set n)) y) (right ∙ ap b (on_zero n refl))
same_choice (Some (Made n reach)) l r a b is_live first second on_set on_zero left right = refl
same_choice (Some (At s o)) l r a b is_live first second on_set on_zero left right = refl

of_choose : (nodes : List TypeNode) (e test a b : TExpr) (is_live : Bool) → (out-TExpr e).form ≡ form.Choose test a b
    → (constant_of nodes e).value is_live ≡ choice_where ((constant_of nodes test).value is_live) (constant_of nodes a).value (constant_of nodes b).value is_live
unfolding constant_of
of_choose nodes e test a b is_live is = simp (fold_out-TExpr Constant (constant_step nodes) e, is)

pub chosen_row : (nodes : List TypeNode) (e test a b : TExpr) (is_live first second : Bool) (t l r result : Option Value)
    → (out-TExpr e).form ≡ form.Choose test a b → t ≡ (constant_of nodes test).value is_live
    → IsWhere t first (λ n. is_live && is_set n) → IsWhere t second (λ n. is_live && not (is_set n))
    → l ≡ (constant_of nodes a).value first → r ≡ (constant_of nodes b).value second
    → result ≡ choice t l r → result ≡ (constant_of nodes e).value is_live
chosen_row nodes e test a b is_live first second t l r result is tested on_set on_zero left right chosen =
    chosen ∙ same_choice t l r (constant_of nodes a).value (constant_of nodes b).value is_live first second on_set on_zero left right
    ∙ ap (λ (x : Option Value). choice_where x (constant_of nodes a).value (constant_of nodes b).value is_live) tested
    ∙ sym (of_choose nodes e test a b is_live is)
