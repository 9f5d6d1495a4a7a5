-- A table in which a struct or union is completed.
use Rattle.std.proofs.Common.{◌≡◌, ℕ, zero, suc, ◌+◌, ◌<◌, Bool, true, false, cond, List, [], ◌∷◌, length, set, Option, Some, None, IsSome, ◌⊎◌, inl, inr, refl, sym, ap, ◌∙◌, subst, arith}
use Rattle.std.proofs.lemmas.Bool.{cases_lt}
use Rattle.std.proofs.lemmas.List.{length-set, map-set}
use Rattle.std.specs.Bool.{OnTrue}
use Rattle.std.specs.Option.{option_map}
use Rattle.std.proofs.Common.{get_or-set_other, get_or-set_same}
use Rattle.c_types.specs.declared.laid.Kept.{Kept}
use Rattle.c_types.specs.declared.node.Field.{Field}
use Rattle.c_types.specs.declared.layout.Layout.{Layout}
use Rattle.c_types.specs.declared.node.TypeNode.{TypeNode}
use Rattle.c_types.specs.declared.node.TypeNode.TheVariants.{Void, Basic as Arithmetic, Pointer, Array, Function, Struct, Union, Enum, Qualified}
use Rattle.c_types.specs.Nodes.{node_at}
use Rattle.c_types.specs.Kept.{nodes_of, kept_at, IsKept}
use Rattle.c_types.specs.Layouts.{Layouts, Part, parts_of, members_in, members_of_record, layout_in, layout_by, layout_of, layout_of_array, record_layout, depth_of, weight}
use Rattle.c_types.specs.Built.{IsBelow, IsMade, IsNormal, IsModest, IsBuilt, is_unqualified, takes_qualifiers}
use Rattle.c_types.proofs.Keeping.{node-kept_at, length-nodes_of}
use Rattle.c_types.proofs.Depths.{Knows, parts_known, layout_known, layout_by-suc, layout_by-zero, made_known}
use Rattle.c_types.proofs.Pushed.{layout_step}

abbrev pub changed : List TypeNode → (id : ℕ) → TypeNode → List TypeNode
changed nodes id node = set nodes id node

-- what the new node at a place is: it had no layout, and makes one of what is known
pub record IsCompletion (nodes : List TypeNode) (id : ℕ) (node : TypeNode) (layout : Layout) : Type 0 where
  pub place : id < length nodes
  pub none : (layouts : Layouts) → layout_in layouts (node_at nodes id) ≡ None
  pub some : (layouts : Layouts) → Knows (layout_of nodes) layouts → layout_in layouts node ≡ Some layout
  pub light : weight (node_at nodes id) ≡ 1
  pub heavy : weight node ≡ 3
  pub below : IsBelow (length nodes) node
  pub made : IsMade (layout_of nodes) node
  pub normal : (others : List TypeNode) → IsNormal others node
  pub takes : takes_qualifiers node ≡ true
  pub modest : IsModest layout

-- ---- which node stands where

pub node_same : (nodes : List TypeNode) (id : ℕ) (node : TypeNode) → id < length nodes → node_at (changed nodes id node) id ≡ node
node_same nodes id node lt = rw get_or-set_same refl

pub node_other : (nodes : List TypeNode) (id i : ℕ) (node : TypeNode) → (i ≡ id → ⊥) → node_at (changed nodes id node) i ≡ node_at nodes i
node_other nodes id i node differ = rw get_or-set_other refl

pub is_same : (i id : ℕ) → (i ≡ id) ⊎ (i ≡ id → ⊥)
is_same i id = elim (cases_lt i id) [
  | inl lt ↦ inr (λ same. omega arith)
  | inr le ↦ elim (cases_lt id i) [ inl more ↦ inr (λ same. omega arith) | inr ge ↦ inl (omega arith) ]
]

depth-set : (nodes : List TypeNode) (id : ℕ) (node : TypeNode) → id < length nodes → depth_of (set nodes id node) + weight (node_at nodes id) ≡ depth_of nodes + weight node
depth-set [] id node lt = absurd (omega arith)
depth-set (x ∷ xs) zero node lt = omega arith
depth-set (x ∷ xs) (suc id) node lt = let rest = depth-set xs id node (omega arith) in omega arith

depth_changed : (nodes : List TypeNode) (id : ℕ) (node : TypeNode) (layout : Layout) → IsCompletion nodes id node layout
    → depth_of (changed nodes id node) ≡ suc (suc (depth_of nodes))
depth_changed nodes id node layout is =
    let sum = depth-set nodes id node is.place in
    let light = is.light in
    let heavy = is.heavy in
    omega arith

-- ---- what was known

had_none : (nodes : List TypeNode) (id : ℕ) → ((layouts : Layouts) → layout_in layouts (node_at nodes id) ≡ None) → (k : ℕ) → layout_by k nodes id ≡ None
unfolding layout_by
had_none nodes id none zero = refl
had_none nodes id none (suc k) = none (layout_by k nodes)

knows_more : (nodes : List TypeNode) (id : ℕ) (node : TypeNode) (layout : Layout) → IsCompletion nodes id node layout → (k : ℕ)
    → Knows (layout_by k nodes) (layout_by k (changed nodes id node))
knows_more nodes id node layout is zero i l said = absurd (layout_by-zero nodes i l said)
knows_more nodes id node layout is (suc k) i l said = elim (is_same i id) [
  | inl same ↦
      let none : layout_by (suc k) nodes i ≡ None = rw same (had_none nodes id is.none (suc k)) in absurd cc
  | inr differ ↦
      layout_by-suc k (changed nodes id node) i
      ∙ ap (layout_in (layout_by k (changed nodes id node))) (node_other nodes id i node differ)
      ∙ layout_known (layout_by k nodes) (layout_by k (changed nodes id node)) (node_at nodes i) l (knows_more nodes id node layout is k)
      (sym (layout_by-suc k nodes i) ∙ said)
]

-- so many levels deeper
abbrev pub deeper : ℕ → ℕ → ℕ
deeper zero depth = depth
deeper (suc k) depth = suc (deeper k depth)

grows : (nodes : List TypeNode) (k : ℕ) → Knows (layout_by k nodes) (layout_by (suc k) nodes)
grows nodes zero i l said = absurd (layout_by-zero nodes i l said)
grows nodes (suc k) i l said =
    layout_by-suc (suc k) nodes i
    ∙ layout_known (layout_by k nodes) (layout_by (suc k) nodes) (node_at nodes i) l (grows nodes k) (sym (layout_by-suc k nodes i) ∙ said)

grows_deeper : (nodes : List TypeNode) (k : ℕ) → Knows (layout_of nodes) (layout_by (deeper k (depth_of nodes)) nodes)
grows_deeper nodes zero i l said = said
grows_deeper nodes (suc k) i l said = grows nodes (deeper k (depth_of nodes)) i l (grows_deeper nodes k i l said)

pub knows_deeper : (nodes : List TypeNode) (id : ℕ) (node : TypeNode) (layout : Layout) → IsCompletion nodes id node layout → (k : ℕ)
    → Knows (layout_of nodes) (layout_by (deeper k (depth_of nodes)) (changed nodes id node))
knows_deeper nodes id node layout is k i l said =
    knows_more nodes id node layout is (deeper k (depth_of nodes)) i l (grows_deeper nodes k i l said)

-- the new layout
pub completed_at : (nodes : List TypeNode) (id : ℕ) (node : TypeNode) (layout : Layout) → IsCompletion nodes id node layout → (k : ℕ)
    → layout_by (suc (deeper k (depth_of nodes))) (changed nodes id node) id ≡ Some layout
completed_at nodes id node layout is k =
    layout_by-suc (deeper k (depth_of nodes)) (changed nodes id node) id
    ∙ ap (layout_in (layout_by (deeper k (depth_of nodes)) (changed nodes id node))) (node_same nodes id node is.place)
    ∙ is.some (layout_by (deeper k (depth_of nodes)) (changed nodes id node)) (knows_deeper nodes id node layout is k)

-- ---- what has no layout

map_none : {A B : Type 0} (o : Option A) (f : A → B) {C : Type 0} → IsSome o → option_map f o ≡ None → C
map_none None f some none = absurd cc
map_none (Some v) f some none = absurd cc

parts_none : (complete : Bool) (parts : Option (List Part)) (f : List Part → Layout) (other : Option (List Part)) → OnTrue complete (IsSome parts)
    → cond complete (option_map f parts) None ≡ None → cond complete (option_map f other) None ≡ None
parts_none false parts f other made none = refl
parts_none true parts f other made none = map_none parts f made none

none_stays : (one other : Layouts) (node : TypeNode) → IsMade one node → is_unqualified node ≡ true → layout_in one node ≡ None → layout_in other node ≡ None
none_stays one other Void made plain none = refl
none_stays one other (Arithmetic b) made plain none = absurd cc
none_stays one other (Pointer to) made plain none = absurd cc
none_stays one other (Array of zero) made plain none = refl
none_stays one other (Array of (suc count)) made plain none = map_none (one of) (layout_of_array (suc count)) made none
none_stays one other (Function returns is_known parameters is_variadic) made plain none = refl
none_stays one other (Struct r) made plain none = parts_none r.is_complete (parts_of one r.fields) (record_layout false) (parts_of other r.fields) made none
none_stays one other (Union r) made plain none = parts_none r.is_complete (parts_of one r.fields) (record_layout true) (parts_of other r.fields) made none
none_stays one other (Enum tag) made plain none = absurd cc
none_stays one other (Qualified of bits) made plain none = absurd cc

-- ---- elsewhere

elsewhere_by : (nodes : List TypeNode) → IsBuilt nodes → (id : ℕ) (node : TypeNode) (layout : Layout) → IsCompletion nodes id node layout → (k j : ℕ)
    (o : Option Layout) → (j ≡ id → ⊥) → is_unqualified (node_at nodes j) ≡ true → layout_of nodes j ≡ o
    → layout_by (suc (deeper k (depth_of nodes))) (changed nodes id node) j ≡ layout_of nodes j
elsewhere_by nodes built id node layout is k j (Some l) differ plain said = knows_deeper nodes id node layout is (suc k) j l said ∙ sym said
elsewhere_by nodes built id node layout is k j None differ plain said =
    layout_by-suc (deeper k (depth_of nodes)) (changed nodes id node) j
    ∙ ap (layout_in (layout_by (deeper k (depth_of nodes)) (changed nodes id node))) (node_other nodes id j node differ)
    ∙ none_stays (layout_of nodes) (layout_by (deeper k (depth_of nodes)) (changed nodes id node)) (node_at nodes j) (built.made j) plain
    (sym (layout_step nodes built j) ∙ said)
    ∙ sym said

pub same_elsewhere : (nodes : List TypeNode) → IsBuilt nodes → (id : ℕ) (node : TypeNode) (layout : Layout) → IsCompletion nodes id node layout → (k j : ℕ)
    → (j ≡ id → ⊥) → is_unqualified (node_at nodes j) ≡ true
    → layout_by (suc (deeper k (depth_of nodes))) (changed nodes id node) j ≡ layout_of nodes j
same_elsewhere nodes built id node layout is k j differ plain = elsewhere_by nodes built id node layout is k j (layout_of nodes j) differ plain refl

-- ---- each type settles

pub record Settles (nodes : List TypeNode) (id : ℕ) (node : TypeNode) (j : ℕ) : Type 0 where
  pub value : Option Layout
  pub settled : (k : ℕ) → layout_by (suc (suc (deeper k (depth_of nodes)))) (changed nodes id node) j ≡ value
  pub modest : (l : Layout) → value ≡ Some l → IsModest l

some_modest : (layout l : Layout) → IsModest layout → (let one : Option Layout = Some layout in one ≡ Some l) → IsModest l
some_modest layout l modest is = let same : layout ≡ l = cc in subst IsModest same modest

plain_takes : (node : TypeNode) → takes_qualifiers node ≡ true → is_unqualified node ≡ true
plain_takes Void takes = refl
plain_takes (Arithmetic b) takes = refl
plain_takes (Pointer to) takes = refl
plain_takes (Array of count) takes = refl
plain_takes (Function returns is_known parameters is_variadic) takes = refl
plain_takes (Struct r) takes = refl
plain_takes (Union r) takes = refl
plain_takes (Enum tag) takes = refl
plain_takes (Qualified of bits) takes = takes

settles_plain : (nodes : List TypeNode) → IsBuilt nodes → (id : ℕ) (node : TypeNode) (layout : Layout) → IsCompletion nodes id node layout → (j : ℕ)
    → (j ≡ id → ⊥) → is_unqualified (node_at nodes j) ≡ true → Settles nodes id node j
settles_plain nodes built id node layout is j differ plain = record {
  value = layout_of nodes j;
  settled = λ k. same_elsewhere nodes built id node layout is (suc k) j differ plain;
  modest = λ l said. built.modest j l said;
}

qualified_deeper : (nodes : List TypeNode) (id : ℕ) (node : TypeNode) (j of bits k : ℕ) → (j ≡ id → ⊥) → node_at nodes j ≡ Qualified of bits
    → layout_by (suc k) (changed nodes id node) j ≡ layout_by k (changed nodes id node) of
qualified_deeper nodes id node j of bits k differ what =
    layout_by-suc k (changed nodes id node) j
    ∙ ap (layout_in (layout_by k (changed nodes id node))) (node_other nodes id j node differ ∙ what)

settles_by : (nodes : List TypeNode) → IsBuilt nodes → (id : ℕ) (node : TypeNode) (layout : Layout) → IsCompletion nodes id node layout → (j : ℕ)
    → (j ≡ id → ⊥) → (here : TypeNode) → node_at nodes j ≡ here → Settles nodes id node j
settles_by nodes built id node layout is j differ Void what = settles_plain nodes built id node layout is j differ (ap is_unqualified what)
settles_by nodes built id node layout is j differ (Arithmetic b) what = settles_plain nodes built id node layout is j differ (ap is_unqualified what)
settles_by nodes built id node layout is j differ (Pointer to) what = settles_plain nodes built id node layout is j differ (ap is_unqualified what)
settles_by nodes built id node layout is j differ (Array of count) what = settles_plain nodes built id node layout is j differ (ap is_unqualified what)
settles_by nodes built id node layout is j differ (Function returns is_known parameters is_variadic) what = settles_plain nodes built id node layout is j differ (ap is_unqualified what)
settles_by nodes built id node layout is j differ (Struct r) what = settles_plain nodes built id node layout is j differ (ap is_unqualified what)
settles_by nodes built id node layout is j differ (Union r) what = settles_plain nodes built id node layout is j differ (ap is_unqualified what)
settles_by nodes built id node layout is j differ (Enum tag) what = settles_plain nodes built id node layout is j differ (ap is_unqualified what)
settles_by nodes built id node layout is j differ (Qualified of bits) what = elim (is_same of id) [
  | inl same ↦ record {
    value = Some layout;
    settled = λ k. qualified_deeper nodes id node j of bits (suc (deeper k (depth_of nodes))) differ what
        ∙ ap (layout_by (suc (deeper k (depth_of nodes))) (changed nodes id node)) same ∙ completed_at nodes id node layout is k;
    modest = λ l said. some_modest layout l is.modest said;
  }
  | inr other ↦ record {
    value = layout_of nodes of;
    settled = λ k. qualified_deeper nodes id node j of bits (suc (deeper k (depth_of nodes))) differ what
        ∙ same_elsewhere nodes built id node layout is k of other (plain_takes (node_at nodes of) (subst (IsNormal nodes) what (built.normal j)));
    modest = λ l said. built.modest of l said;
  }
]

pub settles : (nodes : List TypeNode) → IsBuilt nodes → (id : ℕ) (node : TypeNode) (layout : Layout) → IsCompletion nodes id node layout → (j : ℕ) → Settles nodes id node j
settles nodes built id node layout is j = elim (is_same j id) [
  | inl same ↦ record {
    value = Some layout;
    settled = λ k. ap (layout_by (suc (suc (deeper k (depth_of nodes)))) (changed nodes id node)) same ∙ completed_at nodes id node layout is (suc k);
    modest = λ l said. some_modest layout l is.modest said;
  }
  | inr differ ↦ settles_by nodes built id node layout is j differ (node_at nodes j) refl
]

-- ---- the table is built

pub layout_changed : (nodes : List TypeNode) (id : ℕ) (node : TypeNode) (layout : Layout) → IsCompletion nodes id node layout → (j : ℕ)
    → layout_of (changed nodes id node) j ≡ layout_by (suc (suc (depth_of nodes))) (changed nodes id node) j
layout_changed nodes id node layout is j = ap (λ d. layout_by d (changed nodes id node) j) (depth_changed nodes id node layout is)

pub knows_changed : (nodes : List TypeNode) (id : ℕ) (node : TypeNode) (layout : Layout) → IsCompletion nodes id node layout
    → Knows (layout_of nodes) (layout_of (changed nodes id node))
knows_changed nodes id node layout is i l said =
    layout_changed nodes id node layout is i ∙ knows_deeper nodes id node layout is (suc (suc zero)) i l said

normal_changed : (nodes : List TypeNode) (id : ℕ) (node here : TypeNode) → takes_qualifiers node ≡ true → id < length nodes → IsNormal nodes here → IsNormal (changed nodes id node) here
normal_changed nodes id node Void takes lt normal = tt
normal_changed nodes id node (Arithmetic b) takes lt normal = tt
normal_changed nodes id node (Pointer to) takes lt normal = tt
normal_changed nodes id node (Array of count) takes lt normal = tt
normal_changed nodes id node (Function returns is_known parameters is_variadic) takes lt normal = tt
normal_changed nodes id node (Struct r) takes lt normal = tt
normal_changed nodes id node (Union r) takes lt normal = tt
normal_changed nodes id node (Enum tag) takes lt normal = tt
normal_changed nodes id node (Qualified of bits) takes lt normal = elim (is_same of id) [
  | inl same ↦ ap takes_qualifiers (ap (node_at (changed nodes id node)) same ∙ node_same nodes id node lt) ∙ takes
  | inr differ ↦ ap takes_qualifiers (node_other nodes id of node differ) ∙ normal
]

pub at_each : (nodes : List TypeNode) (id : ℕ) (node : TypeNode) → id < length nodes → (P : TypeNode → Type 0) → P node → ((j : ℕ) → P (node_at nodes j))
    → (j : ℕ) → P (node_at (changed nodes id node) j)
at_each nodes id node lt P here others j = elim (is_same j id) [
  | inl same ↦ subst P (sym (ap (node_at (changed nodes id node)) same ∙ node_same nodes id node lt)) here
  | inr differ ↦ subst P (sym (node_other nodes id j node differ)) (others j)
]

pub built_changed : (nodes : List TypeNode) → IsBuilt nodes → (id : ℕ) (node : TypeNode) (layout : Layout) → IsCompletion nodes id node layout
    → IsBuilt (changed nodes id node)
built_changed nodes built id node layout is =
    let new = changed nodes id node in
    let len : length new ≡ length nodes = length-set nodes id node in
    let knows = knows_changed nodes id node layout is in
    record {
      below = λ j. rw len (at_each nodes id node is.place (IsBelow (length nodes)) is.below (λ i. built.below i) j);
      made = at_each nodes id node is.place (IsMade (layout_of new)) (made_known (layout_of nodes) (layout_of new) node knows is.made)
          (λ i. made_known (layout_of nodes) (layout_of new) (node_at nodes i) knows (built.made i));
      normal = at_each nodes id node is.place (IsNormal new) (is.normal new) (λ i. normal_changed nodes id node (node_at nodes i) is.takes is.place (built.normal i));
      modest = λ j l said. let all = settles nodes built id node layout is j in
          all.modest l (sym (all.settled zero) ∙ sym (layout_changed nodes id node layout is j) ∙ said);
      settled = λ j. let all = settles nodes built id node layout is j in
          ap (λ d. layout_by (suc d) new j) (depth_changed nodes id node layout is)
          ∙ all.settled (suc zero) ∙ sym (all.settled zero) ∙ sym (layout_changed nodes id node layout is j);
    }

-- ---- what is kept

parts_made_by : (one other : Layouts) (fields : List Field) (o : Option (List Part)) → Knows one other → parts_of one fields ≡ o → IsSome o → parts_of one fields ≡ parts_of other fields
parts_made_by one other fields None knows is some = absurd cc
parts_made_by one other fields (Some ps) knows is some = is ∙ sym (parts_known one other fields ps knows is)

parts_made : (one other : Layouts) (fields : List Field) → Knows one other → IsSome (parts_of one fields) → parts_of one fields ≡ parts_of other fields
parts_made one other fields knows some = parts_made_by one other fields (parts_of one fields) knows refl some

members_made : (complete is_union : Bool) (one other : Layouts) (fields : List Field) → Knows one other → OnTrue complete (IsSome (parts_of one fields))
    → cond complete (members_of_record is_union (parts_of one fields)) [] ≡ cond complete (members_of_record is_union (parts_of other fields)) []
members_made false is_union one other fields knows made = refl
members_made true is_union one other fields knows made = ap (members_of_record is_union) (parts_made one other fields knows made)

members_known : (one other : Layouts) (node : TypeNode) → Knows one other → IsMade one node → members_in one node ≡ members_in other node
members_known one other Void knows made = refl
members_known one other (Arithmetic b) knows made = refl
members_known one other (Pointer to) knows made = refl
members_known one other (Array of count) knows made = refl
members_known one other (Function returns is_known parameters is_variadic) knows made = refl
members_known one other (Struct r) knows made = members_made r.is_complete false one other r.fields knows made
members_known one other (Union r) knows made = members_made r.is_complete true one other r.fields knows made
members_known one other (Enum tag) knows made = refl
members_known one other (Qualified of bits) knows made = refl

pub kept_completed : (kept : List Kept) (outside : TypeNode) (id : ℕ) (k : Kept) (layout : Layout) → IsKept kept outside
    → IsCompletion (nodes_of kept) id k.node layout → k.layout ≡ Some layout → k.members ≡ members_in (layout_of (nodes_of kept)) k.node
    → IsKept (set kept id k) outside
kept_completed kept outside id k layout is done has members =
    let nodes = nodes_of kept in
    let lt : id < length kept = rw (sym (length-nodes_of kept)) done.place in
    let same : nodes_of (set kept id k) ≡ changed nodes id k.node = map-set (λ (x : Kept). x.node) kept id k in
    let knows = knows_changed nodes id k.node layout done in
    let here : kept_at (set kept id k) id ≡ k = rw get_or-set_same refl in
    record {
      built = rw same (built_changed nodes is.built id k.node layout done);
      layouts = λ j plain. rw same (elim (is_same j id) [
        | inl at ↦
            ap (λ (i : ℕ). (kept_at (set kept id k) i).layout) at ∙ ap (λ (x : Kept). x.layout) here ∙ has
            ∙ sym (layout_changed nodes id k.node layout done j ∙ ap (layout_by (suc (suc (depth_of nodes))) (changed nodes id k.node)) at
            ∙ completed_at nodes id k.node layout done (suc zero))
        | inr differ ↦
            let there : kept_at (set kept id k) j ≡ kept_at kept j = rw get_or-set_other refl in
            let plain_there : is_unqualified (kept_at kept j).node ≡ true = sym (ap (λ (x : Kept). is_unqualified x.node) there) ∙ plain in
            ap (λ (x : Kept). x.layout) there ∙ is.layouts j plain_there
            ∙ sym (layout_changed nodes id k.node layout done j
            ∙ same_elsewhere nodes is.built id k.node layout done (suc zero) j differ (ap is_unqualified (node-kept_at kept j) ∙ plain_there))
      ]);
      members = λ j. rw same (elim (is_same j id) [
        | inl at ↦ rw (at, here) (members ∙ members_known (layout_of nodes) (layout_of (changed nodes id k.node)) k.node knows done.made)
        | inr differ ↦
            let there : kept_at (set kept id k) j ≡ kept_at kept j = rw get_or-set_other refl in
            rw there (is.members j ∙ members_known (layout_of nodes) (layout_of (changed nodes id k.node)) (kept_at kept j).node knows
            (subst (IsMade (layout_of nodes)) (node-kept_at kept j) (is.built.made j)))
      ]);
      void = is.void;
    }
