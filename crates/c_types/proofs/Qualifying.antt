-- A qualified type has the layout of the type that it qualifies.
use Rattle.std.proofs.Common.{◌≡◌, ℕ, zero, suc, true, List, [], ◌∷◌, length, Option, refl, sym, ap, ◌∙◌, subst, arith}
use Rattle.std.proofs.lemmas.List.{get_or_past}
use Rattle.c_types.specs.declared.layout.Layout.{Layout}
use Rattle.c_types.specs.declared.node.TypeNode.{TypeNode}
use Rattle.c_types.specs.declared.node.TypeNode.TheVariants.{Void, Basic as Arithmetic, Pointer, Array, Function, Struct, Union, Enum, Qualified}
use Rattle.c_types.specs.Nodes.{node_at, unqualified, unqualified_by, unqualified_in}
use Rattle.c_types.specs.Layouts.{layout_in, layout_of}
use Rattle.c_types.specs.Built.{IsBuilt, IsNormal, is_unqualified, takes_qualifiers}
use Rattle.c_types.proofs.Pushed.{layout_step}

abbrev pub bare : List TypeNode → (id : ℕ) → ℕ
bare nodes id = unqualified_in (λ of. of) id (node_at nodes id)

takes_is_unqualified : (node : TypeNode) → takes_qualifiers node ≡ true → is_unqualified node ≡ true
takes_is_unqualified Void takes = refl
takes_is_unqualified (Arithmetic b) takes = refl
takes_is_unqualified (Pointer to) takes = refl
takes_is_unqualified (Array of count) takes = refl
takes_is_unqualified (Function returns is_known parameters is_variadic) takes = refl
takes_is_unqualified (Struct r) takes = refl
takes_is_unqualified (Union r) takes = refl
takes_is_unqualified (Enum tag) takes = refl
takes_is_unqualified (Qualified of bits) takes = takes

bare_in : (nodes : List TypeNode) (built : IsBuilt nodes) (id : ℕ) (node : TypeNode) → node_at nodes id ≡ node
    → (is_unqualified (node_at nodes (unqualified_in (λ of. of) id node)) ≡ true) × (layout_of nodes (unqualified_in (λ of. of) id node) ≡ layout_of nodes id)
bare_in nodes built id Void is = (ap is_unqualified is, refl)
bare_in nodes built id (Arithmetic b) is = (ap is_unqualified is, refl)
bare_in nodes built id (Pointer to) is = (ap is_unqualified is, refl)
bare_in nodes built id (Array of count) is = (ap is_unqualified is, refl)
bare_in nodes built id (Function returns is_known parameters is_variadic) is = (ap is_unqualified is, refl)
bare_in nodes built id (Struct r) is = (ap is_unqualified is, refl)
bare_in nodes built id (Union r) is = (ap is_unqualified is, refl)
bare_in nodes built id (Enum tag) is = (ap is_unqualified is, refl)
bare_in nodes built id (Qualified of bits) is =
    (takes_is_unqualified (node_at nodes of) (subst (IsNormal nodes) is (built.normal id)), sym (layout_step nodes built id ∙ ap (layout_in (layout_of nodes)) is))

pub bare_facts : (nodes : List TypeNode) (built : IsBuilt nodes) (id : ℕ)
    → (is_unqualified (node_at nodes (bare nodes id)) ≡ true) × (layout_of nodes (bare nodes id) ≡ layout_of nodes id)
bare_facts nodes built id = bare_in nodes built id (node_at nodes id) refl

pub layout-unqualified : (nodes : List TypeNode) (built : IsBuilt nodes) (id plain : ℕ) (found : Option Layout) → plain ≡ bare nodes id
    → (is_unqualified (node_at nodes plain) ≡ true → found ≡ layout_of nodes plain) → found ≡ layout_of nodes id
layout-unqualified nodes built id plain found is said =
    let facts = bare_facts nodes built id in
    said (ap (λ (i : ℕ). is_unqualified (node_at nodes i)) is ∙ facts.0) ∙ ap (layout_of nodes) is ∙ facts.1

-- ---- the end of the chain of qualifiers

stays_plain : (rest : ℕ → ℕ) (id : ℕ) (node : TypeNode) → is_unqualified node ≡ true → unqualified_in rest id node ≡ id
stays_plain rest id Void plain = refl
stays_plain rest id (Arithmetic b) plain = refl
stays_plain rest id (Pointer to) plain = refl
stays_plain rest id (Array of count) plain = refl
stays_plain rest id (Function returns is_known parameters is_variadic) plain = refl
stays_plain rest id (Struct r) plain = refl
stays_plain rest id (Union r) plain = refl
stays_plain rest id (Enum tag) plain = refl
stays_plain rest id (Qualified of bits) plain = absurd cc

plain_by : (n : ℕ) (nodes : List TypeNode) (id : ℕ) → is_unqualified (node_at nodes id) ≡ true → unqualified_by n nodes id ≡ id
plain_by zero nodes id plain = refl
plain_by (suc n) nodes id plain = stays_plain (unqualified_by n nodes) id (node_at nodes id) plain

once : (rest : ℕ → ℕ) (nodes : List TypeNode) (id : ℕ) (node : TypeNode) → IsNormal nodes node
    → ((of : ℕ) → is_unqualified (node_at nodes of) ≡ true → rest of ≡ of) → unqualified_in rest id node ≡ unqualified_in (λ of. of) id node
once rest nodes id Void normal stays = refl
once rest nodes id (Arithmetic b) normal stays = refl
once rest nodes id (Pointer to) normal stays = refl
once rest nodes id (Array of count) normal stays = refl
once rest nodes id (Function returns is_known parameters is_variadic) normal stays = refl
once rest nodes id (Struct r) normal stays = refl
once rest nodes id (Union r) normal stays = refl
once rest nodes id (Enum tag) normal stays = refl
once rest nodes id (Qualified of bits) normal stays = stays of (takes_is_unqualified (node_at nodes of) normal)

unqualified_once : (nodes other : List TypeNode) (id : ℕ) → IsBuilt nodes → (length other ≡ length nodes) → unqualified_by (length other) nodes id ≡ bare nodes id
unqualified_once nodes [] id built len = sym (stays_plain (λ of. of) id (node_at nodes id) (ap is_unqualified (get_or_past nodes id Void (omega arith))))
unqualified_once nodes (x ∷ xs) id built len =
    once (unqualified_by (length xs) nodes) nodes id (node_at nodes id) (built.normal id) (λ of plain. plain_by (length xs) nodes of plain)

pub unqualified-bare : (nodes : List TypeNode) (id : ℕ) → IsBuilt nodes → unqualified nodes id ≡ bare nodes id
unfolding unqualified
unqualified-bare nodes id built = unqualified_once nodes nodes id built refl
