-- An incomplete struct or union, completed with fields that have layouts.
use Rattle.std.proofs.Common.{◌≡◌, ℕ, ◌<◌, ◌≤◌, Bool, true, false, not, List, [], ◌∷◌, length, get_or, set, Option, Some, None, inl, inr, refl, sym, ap, ◌∙◌, subst}
use Rattle.std.specs.Option.{option_map}
use Rattle.std.proofs.lemmas.Bool.{cases_lt}
use Rattle.std.proofs.lemmas.List.{get_or_past, length-set, map-set, get_or_default}
use Rattle.std.proofs.lemmas.List.Folds.{position_or_len-set}
use Rattle.c_types.specs.declared.form.Form.{Form}
use Rattle.c_types.specs.declared.laid.Kept.{Kept}
use Rattle.c_types.specs.declared.layout.Layout.{Layout}
use Rattle.c_types.specs.declared.node.Field.{Field}
use Rattle.c_types.specs.declared.node.Member.{Member}
use Rattle.c_types.specs.declared.node.TypeNode.{TypeNode}
use Rattle.c_types.specs.declared.node.TypeNode.TheVariants.{Void, Basic as Arithmetic, Pointer, Array, Function, Struct, Union, Enum, Qualified}
use Rattle.c_types.specs.Nodes.{node_at}
use Rattle.c_types.specs.Kept.{nodes_of, kept_at, nothing_kept, IsKept}
use Rattle.c_types.specs.Building.{same_type, is_incomplete, is_union, completed, with_completed}
use Rattle.c_types.specs.Layouts.{Part, parts_of, layout_of, members_in, members_of_record, record_layout, depth_of}
use Rattle.c_types.specs.Built.{AreBelow, IsModest}
use Rattle.c_types.specs.Numbered.{node_of, IsNumbered}
use Rattle.c_types.proofs.Depths.{with_part-Some, layout_known}
use Rattle.c_types.proofs.Keeping.{node-kept_at, length-nodes_of}
use Rattle.c_types.proofs.Numbering.{no_struct, no_union}
use Rattle.c_types.proofs.Completed.{IsCompletion, kept_completed}
use Rattle.c_types.proofs.Pushed.{laid_within}

-- ---- where it stands

incomplete_in : (nodes : List TypeNode) (id : ℕ) → length nodes ≤ id → is_incomplete (node_at nodes id) ≡ false
incomplete_in nodes id le = ap is_incomplete (get_or_past nodes id Void le)

pub incomplete_within : (nodes : List TypeNode) (id : ℕ) → is_incomplete (node_at nodes id) ≡ true → id < length nodes
incomplete_within nodes id is = elim (cases_lt id (length nodes)) [
  | inl lt ↦ lt
  | inr le ↦ let none = incomplete_in nodes id le in absurd cc
]

-- ---- fields with layouts are among the table's types

pub are_below : (nodes : List TypeNode) (fields : List Field) (parts : List Part) → parts_of (layout_of nodes) fields ≡ Some parts → AreBelow (length nodes) fields
are_below nodes [] parts is = tt
are_below nodes (f ∷ fs) parts is =
    let split = with_part-Some f (layout_of nodes f.kind) (parts_of (layout_of nodes) fs) parts is in
    (laid_within nodes f.kind (depth_of nodes) split.0 split.2, are_below nodes fs split.1 split.3)

map-Some : {A : Type 0} (o : Option A) (f : A → Layout) (l : Layout) → option_map f o ≡ Some l → (v : A) × (o ≡ Some v)
map-Some None f l is = absurd cc
map-Some (Some v) f l is = (v, refl)

not_true : (b : Bool) → not b ≡ true → b ≡ false
not_true true is = absurd cc
not_true false is = refl

-- ---- what it becomes

completion_by : (nodes : List TypeNode) (id : ℕ) (fields : List Field) (layout : Layout) (here : TypeNode) → node_at nodes id ≡ here
    → is_incomplete here ≡ true → option_map (record_layout (is_union here)) (parts_of (layout_of nodes) fields) ≡ Some layout → IsModest layout
    → IsCompletion nodes id (completed fields here) layout
completion_by nodes id fields layout (Struct r) what incomplete said modest =
    let complete : r.is_complete ≡ false = not_true r.is_complete incomplete in
    let found = map-Some (parts_of (layout_of nodes) fields) (record_layout false) layout said in
    record {
      place = incomplete_within nodes id (ap is_incomplete what ∙ incomplete);
      none = λ layouts. rw (what, complete) refl;
      some = λ layouts knows. layout_known (layout_of nodes) layouts (completed fields (Struct r)) layout knows said;
      light = rw (what, complete) refl;
      heavy = refl;
      below = are_below nodes fields found.0 found.1;
      made = rw found.1 refl;
      normal = λ others. tt;
      takes = refl;
      modest = modest;
    }
completion_by nodes id fields layout (Union r) what incomplete said modest =
    let complete : r.is_complete ≡ false = not_true r.is_complete incomplete in
    let found = map-Some (parts_of (layout_of nodes) fields) (record_layout true) layout said in
    record {
      place = incomplete_within nodes id (ap is_incomplete what ∙ incomplete);
      none = λ layouts. rw (what, complete) refl;
      some = λ layouts knows. layout_known (layout_of nodes) layouts (completed fields (Union r)) layout knows said;
      light = rw (what, complete) refl;
      heavy = refl;
      below = are_below nodes fields found.0 found.1;
      made = rw found.1 refl;
      normal = λ others. tt;
      takes = refl;
      modest = modest;
    }
completion_by nodes id fields layout Void what incomplete said modest = absurd cc
completion_by nodes id fields layout (Arithmetic b) what incomplete said modest = absurd cc
completion_by nodes id fields layout (Pointer to) what incomplete said modest = absurd cc
completion_by nodes id fields layout (Array of count) what incomplete said modest = absurd cc
completion_by nodes id fields layout (Function returns is_known parameters is_variadic) what incomplete said modest = absurd cc
completion_by nodes id fields layout (Enum tag) what incomplete said modest = absurd cc
completion_by nodes id fields layout (Qualified of bits) what incomplete said modest = absurd cc

members_completed : (nodes : List TypeNode) (fields : List Field) (here : TypeNode) → is_incomplete here ≡ true
    → members_of_record (is_union here) (parts_of (layout_of nodes) fields) ≡ members_in (layout_of nodes) (completed fields here)
members_completed nodes fields (Struct r) incomplete = refl
members_completed nodes fields (Union r) incomplete = refl
members_completed nodes fields Void incomplete = absurd cc
members_completed nodes fields (Arithmetic b) incomplete = absurd cc
members_completed nodes fields (Pointer to) incomplete = absurd cc
members_completed nodes fields (Array of count) incomplete = absurd cc
members_completed nodes fields (Function returns is_known parameters is_variadic) incomplete = absurd cc
members_completed nodes fields (Enum tag) incomplete = absurd cc
members_completed nodes fields (Qualified of bits) incomplete = absurd cc

-- ---- what is kept

abbrev pub kept_as : List Kept → (id : ℕ) → List Field → Layout → List Member → Kept
kept_as kept id fields layout members = record { node = completed fields (kept_at kept id).node; layout = Some layout; members = members }

pub kept_filled : (kept : List Kept) (outside : TypeNode) (id : ℕ) (fields : List Field) (layout : Layout) (members : List Member) → IsKept kept outside
    → is_incomplete (node_at (nodes_of kept) id) ≡ true
    → option_map (record_layout (is_union (node_at (nodes_of kept) id))) (parts_of (layout_of (nodes_of kept)) fields) ≡ Some layout
    → members_of_record (is_union (node_at (nodes_of kept) id)) (parts_of (layout_of (nodes_of kept)) fields) ≡ members → IsModest layout
    → IsKept (set kept id (kept_as kept id fields layout members)) outside
kept_filled kept outside id fields layout members is incomplete said have modest =
    let nodes = nodes_of kept in
    let here : node_at nodes id ≡ (kept_at kept id).node = node-kept_at kept id in
    let there : is_incomplete (kept_at kept id).node ≡ true = rw (sym here) incomplete in
    kept_completed kept outside id (kept_as kept id fields layout members) layout is
    (completion_by nodes id fields layout (kept_at kept id).node here there (rw (sym here) said) modest) refl
    (sym have ∙ ap (λ n. members_of_record (is_union n) (parts_of (layout_of nodes) fields)) here ∙ members_completed nodes fields (kept_at kept id).node there)

kept_there : (kept : List Kept) (id : ℕ) (old : Kept) → id < length kept → old ≡ get_or kept id old → kept_at kept id ≡ old
kept_there kept id old lt is = get_or_default kept id nothing_kept old lt ∙ sym is

-- what is kept at a place, found there
pub kept_filled_there : (kept : List Kept) (outside : TypeNode) (id : ℕ) (fields : List Field) (layout : Layout) (members : List Member) (old : Kept)
    → IsKept kept outside → old ≡ get_or kept id old → is_incomplete (node_at (nodes_of kept) id) ≡ true
    → option_map (record_layout (is_union (node_at (nodes_of kept) id))) (parts_of (layout_of (nodes_of kept)) fields) ≡ Some layout
    → members_of_record (is_union (node_at (nodes_of kept) id)) (parts_of (layout_of (nodes_of kept)) fields) ≡ members → IsModest layout
    → IsKept (set kept id (record { node = completed fields old.node; layout = Some layout; members = members })) outside
kept_filled_there kept outside id fields layout members old is there incomplete said have modest =
    let lt : id < length kept = rw (sym (length-nodes_of kept)) (incomplete_within (nodes_of kept) id incomplete) in
    let at = kept_there kept id old lt there in
    subst (λ (k : Kept). IsKept (set kept id (record { node = completed fields k.node; layout = Some layout; members = members })) outside) at
    (kept_filled kept outside id fields layout members is incomplete said have modest)

pub nodes_filled_there : (kept : List Kept) (id : ℕ) (fields : List Field) (o : Option Layout) (members : List Member) (old : Kept)
    → old ≡ get_or kept id old → is_incomplete (node_at (nodes_of kept) id) ≡ true
    → nodes_of (set kept id (record { node = completed fields old.node; layout = o; members = members })) ≡ with_completed (nodes_of kept) id fields
nodes_filled_there kept id fields o members old there incomplete =
    let lt : id < length kept = rw (sym (length-nodes_of kept)) (incomplete_within (nodes_of kept) id incomplete) in
    let at = kept_there kept id old lt there in
    map-set (λ (x : Kept). x.node) kept id (record { node = completed fields old.node; layout = o; members = members })
    ∙ ap (λ n. set (nodes_of kept) id (completed fields n)) (ap (λ (k : Kept). k.node) (sym at) ∙ sym (node-kept_at kept id))

-- ---- numbers of forms

no_completed : (fields : List Field) (here : TypeNode) → is_incomplete here ≡ true → (one : Form)
    → same_type (node_of one) (completed fields here) ≡ same_type (node_of one) here
no_completed fields (Struct r) incomplete one = no_struct (record r { is_complete = true; fields = fields }) one ∙ sym (no_struct r one)
no_completed fields (Union r) incomplete one = no_union (record r { is_complete = true; fields = fields }) one ∙ sym (no_union r one)
no_completed fields Void incomplete one = absurd cc
no_completed fields (Arithmetic b) incomplete one = absurd cc
no_completed fields (Pointer to) incomplete one = absurd cc
no_completed fields (Array of count) incomplete one = absurd cc
no_completed fields (Function returns is_known parameters is_variadic) incomplete one = absurd cc
no_completed fields (Enum tag) incomplete one = absurd cc
no_completed fields (Qualified of bits) incomplete one = absurd cc

pub numbered_completed : (entries : List (Form × ℕ)) (nodes : List TypeNode) (id : ℕ) (fields : List Field) → IsNumbered entries nodes
    → is_incomplete (node_at nodes id) ≡ true → IsNumbered entries (with_completed nodes id fields)
numbered_completed entries nodes id fields numbered incomplete one =
    let len : length (with_completed nodes id fields) ≡ length nodes = length-set nodes id (completed fields (node_at nodes id)) in
    numbered one ∙ sym (rw (position_or_len-set (same_type (node_of one)) nodes id (completed fields (node_at nodes id)) Void (no_completed fields (node_at nodes id) incomplete one), len) refl)
