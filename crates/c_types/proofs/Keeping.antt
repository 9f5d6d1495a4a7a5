-- What a table keeps, when it grows.
use Rattle.std.proofs.Common.{◌≡◌, ℕ, ◌+◌, ◌<◌, true, false, cond, List, [], ◌∷◌, ◌++◌, length, Option, None, refl, sym, ap, ◌∙◌, subst, length-append, arith}
use Rattle.std.proofs.lemmas.List.{get_or_append_left, get_or_past, map-append}
use Rattle.std.proofs.Math.ListN.{get_or-map}
use Rattle.std.proofs.Math.Seq.{get_or-append_seam}
use Rattle.c_types.specs.declared.laid.Kept.{Kept}
use Rattle.c_types.specs.declared.node.TypeNode.{TypeNode}
use Rattle.c_types.specs.declared.node.TypeNode.TheVariants.{Void, Basic as Arithmetic, Pointer, Array, Function, Struct, Union, Enum, Qualified}
use Rattle.c_types.specs.Nodes.{node_at}
use Rattle.c_types.specs.Layouts.{Layouts, Part, layout_in, layout_by, layout_of, depth_of, members_in, members_of_record}
use Rattle.c_types.specs.Built.{IsBuilt, IsNext, IsBelow, is_unqualified}
use Rattle.c_types.specs.Kept.{nodes_of, kept_at, nothing_kept, IsKept}
use Rattle.c_types.proofs.Depths.{Agree, parts_agree}
use Rattle.c_types.proofs.Pushed.{pushed, built_pushed, layout_before, layout_there, layout_behind, node_behind, Where, before, there, behind, where_is}

-- the node that is kept of a number
pub node-kept_at : (kept : List Kept) (id : ℕ) → node_at (nodes_of kept) id ≡ (kept_at kept id).node
node-kept_at kept id = get_or-map (λ (k : Kept). k.node) kept id nothing_kept

pub length-nodes_of : (kept : List Kept) → length (nodes_of kept) ≡ length kept
length-nodes_of [] = refl
length-nodes_of (k ∷ ks) = let rest = length-nodes_of ks in omega arith

members_agree : (n : ℕ) (one other : Layouts) (node : TypeNode) → IsBelow n node → Agree n one other → members_in one node ≡ members_in other node
members_agree n one other Void below agree = refl
members_agree n one other (Arithmetic b) below agree = refl
members_agree n one other (Pointer to) below agree = refl
members_agree n one other (Array of count) below agree = refl
members_agree n one other (Function returns is_known parameters is_variadic) below agree = refl
members_agree n one other (Struct r) below agree = ap (λ (ps : Option (List Part)). cond r.is_complete (members_of_record false ps) []) (parts_agree n one other r.fields below agree)
members_agree n one other (Union r) below agree = ap (λ (ps : Option (List Part)). cond r.is_complete (members_of_record true ps) []) (parts_agree n one other r.fields below agree)
members_agree n one other (Enum tag) below agree = refl
members_agree n one other (Qualified of bits) below agree = refl

-- ---- one more node

kept_before : (kept : List Kept) (k : Kept) (id : ℕ) → id < length kept → kept_at (kept ++ (k ∷ [])) id ≡ kept_at kept id
kept_before kept k id lt = get_or_append_left kept (k ∷ []) nothing_kept id lt

kept_there : (kept : List Kept) (k : Kept) → kept_at (kept ++ (k ∷ [])) (length kept) ≡ k
kept_there kept k = get_or-append_seam kept k [] nothing_kept

kept_behind : (kept : List Kept) (k : Kept) (id : ℕ) → length kept < id → kept_at (kept ++ (k ∷ [])) id ≡ nothing_kept
kept_behind kept k id lt = get_or_past (kept ++ (k ∷ [])) id nothing_kept (let len : length (kept ++ (k ∷ [])) ≡ length kept + 1 = length-append kept (k ∷ []) in omega arith)

no_layout_behind : (kept : List Kept) (k : Kept) (id : ℕ) → length kept < id → layout_of (pushed (nodes_of kept) k.node) id ≡ None
no_layout_behind kept k id lt =
    let behind : length (nodes_of kept) < id = rw (length-nodes_of kept) lt in
    layout_behind (pushed (nodes_of kept) k.node) id (depth_of (pushed (nodes_of kept) k.node)) (node_behind (nodes_of kept) k.node id behind)

-- the layout of what is kept behind the others
record Fits (kept : List Kept) (k : Kept) : Type 0 where
  next : IsNext (nodes_of kept) k.node
  layout : is_unqualified k.node ≡ true → k.layout ≡ layout_in (layout_of (nodes_of kept)) k.node
  members : k.members ≡ members_in (layout_of (nodes_of kept)) k.node

layouts_at : (kept : List Kept) (outside : TypeNode) (k : Kept) → IsKept kept outside → Fits kept k → (id : ℕ) → Where (length kept) id
    → is_unqualified (kept_at (kept ++ (k ∷ [])) id).node ≡ true
    → (kept_at (kept ++ (k ∷ [])) id).layout ≡ layout_of (pushed (nodes_of kept) k.node) id
layouts_at kept outside k is fits id (before lt) plain =
    let here = kept_before kept k id lt in
    let below : id < length (nodes_of kept) = rw (length-nodes_of kept) lt in
    ap (λ (x : Kept). x.layout) here
    ∙ is.layouts id (sym (ap (λ (x : Kept). is_unqualified x.node) here) ∙ plain)
    ∙ sym (layout_before (nodes_of kept) k.node is.built fits.next.light id below)
layouts_at kept outside k is fits id (there at) plain =
    let here : kept_at (kept ++ (k ∷ [])) id ≡ k = rw at (kept_there kept k) in
    let place : id ≡ length (nodes_of kept) = at ∙ sym (length-nodes_of kept) in
    ap (λ (x : Kept). x.layout) here
    ∙ fits.layout (sym (ap (λ (x : Kept). is_unqualified x.node) here) ∙ plain)
    ∙ sym (layout_there (nodes_of kept) k.node is.built fits.next.light fits.next.below)
    ∙ ap (layout_of (pushed (nodes_of kept) k.node)) (sym place)
layouts_at kept outside k is fits id (behind lt) plain =
    ap (λ (x : Kept). x.layout) (kept_behind kept k id lt)
    ∙ sym (no_layout_behind kept k id lt)

members_at_place : (kept : List Kept) (outside : TypeNode) (k : Kept) → IsKept kept outside → Fits kept k → (id : ℕ) → Where (length kept) id
    → (kept_at (kept ++ (k ∷ [])) id).members ≡ members_in (layout_of (pushed (nodes_of kept) k.node)) (kept_at (kept ++ (k ∷ [])) id).node
members_at_place kept outside k is fits id (before lt) =
    let here = kept_before kept k id lt in
    let node = (kept_at kept id).node in
    rw here (is.members id ∙ members_agree (length (nodes_of kept)) (layout_of (nodes_of kept)) (layout_of (pushed (nodes_of kept) k.node)) node
    (subst (IsBelow (length (nodes_of kept))) (node-kept_at kept id) (is.built.below id))
    (λ i less. sym (layout_before (nodes_of kept) k.node is.built fits.next.light i less)))
members_at_place kept outside k is fits id (there at) =
    let here : kept_at (kept ++ (k ∷ [])) id ≡ k = rw at (kept_there kept k) in
    rw here (fits.members ∙ members_agree (length (nodes_of kept)) (layout_of (nodes_of kept)) (layout_of (pushed (nodes_of kept) k.node)) k.node
    fits.next.below (λ i less. sym (layout_before (nodes_of kept) k.node is.built fits.next.light i less)))
members_at_place kept outside k is fits id (behind lt) = rw (kept_behind kept k id lt) refl

pub kept_pushed : (kept : List Kept) (outside : TypeNode) (k : Kept) → IsKept kept outside → IsNext (nodes_of kept) k.node
    → (is_unqualified k.node ≡ true → k.layout ≡ layout_in (layout_of (nodes_of kept)) k.node)
    → k.members ≡ members_in (layout_of (nodes_of kept)) k.node → IsKept (kept ++ (k ∷ [])) outside
kept_pushed kept outside k is next layout members =
    let fits : Fits kept k = record { next = next; layout = layout; members = members } in
    let same : nodes_of (kept ++ (k ∷ [])) ≡ pushed (nodes_of kept) k.node = map-append (λ (x : Kept). x.node) kept (k ∷ []) in
    record {
      built = rw same (built_pushed (nodes_of kept) k.node is.built next);
      layouts = λ id plain. rw same (layouts_at kept outside k is fits id (where_is (length kept) id) plain);
      members = λ id. rw same (members_at_place kept outside k is fits id (where_is (length kept) id));
      void = is.void;
    }

-- ---- none yet

none_built : IsBuilt []
unfolding layout_by
none_built = record { below = λ id. tt; made = λ id. tt; normal = λ id. tt; modest = λ id layout said. absurd cc; settled = λ id. refl }

pub none_kept : (outside : TypeNode) → outside ≡ Void → IsKept [] outside
unfolding layout_by
none_kept outside void = record { built = none_built; layouts = λ id plain. refl; members = λ id. refl; void = void }
