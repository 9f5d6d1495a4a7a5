-- Forms are compared as the types that they are.
use Rattle.std.proofs.Common.{◌≡◌, ℕ, Bool, true, false, List, None, refl, ap, ◌∙◌}
use Rattle.std.specs.Map.{lookup}
use mathlib.Core.Bool.{beq}
use Rattle.c_types.specs.contracts.form.FormPartialEq.TheImpl.{eq-value}
use Rattle.c_types.specs.declared.form.Form.{Form}
use Rattle.c_types.specs.declared.form.Form.TheVariants as form
use Rattle.c_types.specs.declared.node.TypeNode.{TypeNode}
use Rattle.c_types.specs.Building.{same_test, same_type, number_of}
use Rattle.c_types.specs.Numbered.{node_of, IsNumbered}

same_beq : (one other : Bool) → beq one other ≡ same_test one other
same_beq true true = refl
same_beq true false = refl
same_beq false true = refl
same_beq false false = refl

pub same_form : (one other : Form) → eq-value.it one other ≡ same_type (node_of one) (node_of other)
same_form (form.Pointer a) (form.Pointer b) = refl
same_form (form.Pointer a) (form.Array b n) = refl
same_form (form.Pointer a) (form.Function f) = refl
same_form (form.Pointer a) (form.Qualified b n) = refl
same_form (form.Array a m) (form.Pointer b) = refl
same_form (form.Array a m) (form.Array b n) = refl
same_form (form.Array a m) (form.Function f) = refl
same_form (form.Array a m) (form.Qualified b n) = refl
same_form (form.Function e) (form.Pointer b) = refl
same_form (form.Function e) (form.Array b n) = refl
same_form (form.Function e) (form.Function f) = rw (same_beq e.is_known f.is_known, same_beq e.is_variadic f.is_variadic) refl
same_form (form.Function e) (form.Qualified b n) = refl
same_form (form.Qualified a m) (form.Pointer b) = refl
same_form (form.Qualified a m) (form.Array b n) = refl
same_form (form.Qualified a m) (form.Function f) = refl
same_form (form.Qualified a m) (form.Qualified b n) = refl

-- a form without a number is not among the entries
pub none_noted : (entries : List (Form × ℕ)) (nodes : List TypeNode) (one : Form) → IsNumbered entries nodes → number_of nodes (node_of one) ≡ None
    → lookup (eq-value.it one) entries ≡ None
none_noted entries nodes one numbered absent =
    let tests : eq-value.it one ≡ (λ (other : Form). same_type (node_of one) (node_of other)) = λ i. λ other. same_form one other i in
    ap (λ (test : Form → Bool). lookup test entries) tests ∙ numbered one ∙ absent
