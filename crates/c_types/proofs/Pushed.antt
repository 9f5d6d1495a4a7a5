-- A table with one more node behind it.
use Rattle.std.proofs.Common.{◌≡◌, ℕ, zero, suc, ◌+◌, ◌<◌, List, [], ◌∷◌, ◌++◌, length, Some, None, inl, inr, refl, sym, ap, ◌∙◌, subst, length-append, arith}
use Rattle.std.proofs.lemmas.List.{get_or_append_left, get_or_past}
use Rattle.std.proofs.Math.Seq.{get_or-append_seam}
use Rattle.std.proofs.lemmas.Bool.{cases_lt}
use Rattle.c_types.specs.declared.layout.Layout.{Layout}
use Rattle.c_types.specs.declared.node.TypeNode.{TypeNode}
use Rattle.c_types.specs.declared.node.TypeNode.TheVariants.{Void, Basic as Arithmetic, Pointer, Array, Function, Struct, Union, Enum, Qualified}
use Rattle.c_types.specs.Nodes.{node_at}
use Rattle.c_types.specs.Layouts.{layout_in, layout_by, layout_of, depth_of, weight}
use Rattle.c_types.specs.Built.{IsBelow, IsMade, IsNormal, IsModest, IsBuilt, IsNext, takes_qualifiers}
use Rattle.c_types.proofs.Depths.{Agree, Knows, layout_agree, layout_by-suc, is_below_more, made_known}

abbrev pub pushed : List TypeNode → TypeNode → List TypeNode
pushed nodes node = nodes ++ (node ∷ [])

-- ---- which node stands where

pub node_before : (nodes : List TypeNode) (node : TypeNode) (i : ℕ) → i < length nodes → node_at (pushed nodes node) i ≡ node_at nodes i
node_before nodes node i lt = get_or_append_left nodes (node ∷ []) Void i lt

pub node_there : (nodes : List TypeNode) (node : TypeNode) → node_at (pushed nodes node) (length nodes) ≡ node
node_there nodes node = get_or-append_seam nodes node [] Void

pub node_behind : (nodes : List TypeNode) (node : TypeNode) (i : ℕ) → length nodes < i → node_at (pushed nodes node) i ≡ Void
node_behind nodes node i lt = get_or_past (pushed nodes node) i Void (let len : length (pushed nodes node) ≡ length nodes + 1 = length-append nodes (node ∷ []) in omega arith)

-- a place before the new node, at it, or behind it
pub data Where (n i : ℕ) : Type 0 where
  before : i < n → Where n i
  there : i ≡ n → Where n i
  behind : n < i → Where n i

pub where_is : (n i : ℕ) → Where n i
where_is n i = elim (cases_lt i n) [
  | inl lt ↦ before lt
  | inr le ↦ elim (cases_lt n i) [ inl lt ↦ behind lt | inr ge ↦ there (omega arith) ]
]

-- ---- layouts

pub depth-pushed : (nodes : List TypeNode) (node : TypeNode) → depth_of (pushed nodes node) ≡ depth_of nodes + weight node
depth-pushed [] node = omega arith
depth-pushed (x ∷ xs) node = let rest = depth-pushed xs node in omega arith

pub agree_before : (nodes : List TypeNode) (node : TypeNode) → IsBuilt nodes → (k : ℕ) → Agree (length nodes) (layout_by k (pushed nodes node)) (layout_by k nodes)
unfolding layout_by
agree_before nodes node built zero i lt = refl
agree_before nodes node built (suc k) i lt =
    ap (layout_in (layout_by k (pushed nodes node))) (node_before nodes node i lt)
    ∙ layout_agree (length nodes) (layout_by k (pushed nodes node)) (layout_by k nodes) (node_at nodes i) (built.below i) (agree_before nodes node built k)

-- more depth changes nothing
pub settled_more : (nodes : List TypeNode) → IsBuilt nodes → (i : ℕ) → layout_by (suc (suc (depth_of nodes))) nodes i ≡ layout_by (suc (depth_of nodes)) nodes i
settled_more nodes built i =
    layout_by-suc (suc (depth_of nodes)) nodes i
    ∙ layout_agree (length nodes) (layout_by (suc (depth_of nodes)) nodes) (layout_by (depth_of nodes) nodes) (node_at nodes i) (built.below i) (λ j lt. built.settled j)
    ∙ sym (layout_by-suc (depth_of nodes) nodes i)

-- a type has the layout that its node makes of those of its parts
pub layout_step : (nodes : List TypeNode) → IsBuilt nodes → (i : ℕ) → layout_of nodes i ≡ layout_in (layout_of nodes) (node_at nodes i)
layout_step nodes built i = sym (built.settled i) ∙ layout_by-suc (depth_of nodes) nodes i

depth_suc : (nodes : List TypeNode) (node : TypeNode) → weight node ≡ 1 → depth_of (pushed nodes node) ≡ suc (depth_of nodes)
depth_suc nodes node light = let sum = depth-pushed nodes node in omega arith

pub layout_before : (nodes : List TypeNode) (node : TypeNode) → IsBuilt nodes → weight node ≡ 1 → (i : ℕ) → i < length nodes
    → layout_of (pushed nodes node) i ≡ layout_of nodes i
layout_before nodes node built light i lt =
    ap (λ d. layout_by d (pushed nodes node) i) (depth_suc nodes node light)
    ∙ agree_before nodes node built (suc (depth_of nodes)) i lt ∙ built.settled i

pub layout_there : (nodes : List TypeNode) (node : TypeNode) → IsBuilt nodes → weight node ≡ 1 → IsBelow (length nodes) node
    → layout_of (pushed nodes node) (length nodes) ≡ layout_in (layout_of nodes) node
layout_there nodes node built light below =
    ap (λ d. layout_by d (pushed nodes node) (length nodes)) (depth_suc nodes node light)
    ∙ layout_by-suc (depth_of nodes) (pushed nodes node) (length nodes)
    ∙ ap (layout_in (layout_by (depth_of nodes) (pushed nodes node))) (node_there nodes node)
    ∙ layout_agree (length nodes) (layout_by (depth_of nodes) (pushed nodes node)) (layout_of nodes) node below (agree_before nodes node built (depth_of nodes))

pub layout_behind : (nodes : List TypeNode) (i k : ℕ) → node_at nodes i ≡ Void → layout_by k nodes i ≡ None
unfolding layout_by
layout_behind nodes i zero is = refl
layout_behind nodes i (suc k) is = ap (layout_in (layout_by k nodes)) is

-- what has a layout stands in the table
pub laid_within : (nodes : List TypeNode) (i k : ℕ) (l : Layout) → layout_by k nodes i ≡ Some l → i < length nodes
laid_within nodes i k l is = elim (cases_lt i (length nodes)) [
  | inl lt ↦ lt
  | inr le ↦ let none : layout_by k nodes i ≡ None = layout_behind nodes i k (get_or_past nodes i Void le) in absurd cc
]

pub knows_before : (nodes : List TypeNode) (node : TypeNode) → IsBuilt nodes → weight node ≡ 1 → Knows (layout_of nodes) (layout_of (pushed nodes node))
knows_before nodes node built light i l is = layout_before nodes node built light i (laid_within nodes i (depth_of nodes) l is) ∙ is

-- ---- the table is built

settled_at : (nodes : List TypeNode) (node : TypeNode) → IsBuilt nodes → IsNext nodes node → (i : ℕ) → Where (length nodes) i
    → layout_by (suc (suc (depth_of nodes))) (pushed nodes node) i ≡ layout_by (suc (depth_of nodes)) (pushed nodes node) i
settled_at nodes node built next i (before lt) =
    agree_before nodes node built (suc (suc (depth_of nodes))) i lt ∙ settled_more nodes built i ∙ sym (agree_before nodes node built (suc (depth_of nodes)) i lt)
settled_at nodes node built next i (there is) =
    let d = depth_of nodes in
    let there : node_at (pushed nodes node) i ≡ node = rw is (node_there nodes node) in
    layout_by-suc (suc d) (pushed nodes node) i
    ∙ ap (layout_in (layout_by (suc d) (pushed nodes node))) there
    ∙ layout_agree (length nodes) (layout_by (suc d) (pushed nodes node)) (layout_by d (pushed nodes node)) node next.below
    (λ j lt. agree_before nodes node built (suc d) j lt ∙ built.settled j ∙ sym (agree_before nodes node built d j lt))
    ∙ sym (ap (layout_in (layout_by d (pushed nodes node))) there)
    ∙ sym (layout_by-suc d (pushed nodes node) i)
settled_at nodes node built next i (behind lt) =
    layout_behind (pushed nodes node) i (suc (suc (depth_of nodes))) (node_behind nodes node i lt)
    ∙ sym (layout_behind (pushed nodes node) i (suc (depth_of nodes)) (node_behind nodes node i lt))

settled_pushed : (nodes : List TypeNode) (node : TypeNode) → IsBuilt nodes → IsNext nodes node → (i : ℕ)
    → layout_by (suc (depth_of (pushed nodes node))) (pushed nodes node) i ≡ layout_of (pushed nodes node) i
settled_pushed nodes node built next i =
    let P : ℕ → Type 0 = λ d. layout_by (suc d) (pushed nodes node) i ≡ layout_by d (pushed nodes node) i in
    subst P (sym (depth_suc nodes node next.light)) (settled_at nodes node built next i (where_is (length nodes) i))

below_at : (nodes : List TypeNode) (node : TypeNode) → IsBuilt nodes → IsNext nodes node → (i : ℕ) → Where (length nodes) i
    → IsBelow (length nodes + 1) (node_at (pushed nodes node) i)
below_at nodes node built next i (before lt) = rw (node_before nodes node i lt) (is_below_more (length nodes) (length nodes + 1) (node_at nodes i) (omega arith) (built.below i))
below_at nodes node built next i (there is) = rw (is, node_there nodes node) (is_below_more (length nodes) (length nodes + 1) node (omega arith) next.below)
below_at nodes node built next i (behind lt) = rw (node_behind nodes node i lt) tt

made_at : (nodes : List TypeNode) (node : TypeNode) → IsBuilt nodes → IsNext nodes node → (i : ℕ) → Where (length nodes) i
    → IsMade (layout_of (pushed nodes node)) (node_at (pushed nodes node) i)
made_at nodes node built next i (before lt) = rw (node_before nodes node i lt)
    (made_known (layout_of nodes) (layout_of (pushed nodes node)) (node_at nodes i) (knows_before nodes node built next.light) (built.made i))
made_at nodes node built next i (there is) = rw (is, node_there nodes node)
    (made_known (layout_of nodes) (layout_of (pushed nodes node)) node (knows_before nodes node built next.light) next.made)
made_at nodes node built next i (behind lt) = rw (node_behind nodes node i lt) tt

normal_kept : (nodes : List TypeNode) (new : TypeNode) (node : TypeNode) → IsBelow (length nodes) node → IsNormal nodes node → IsNormal (pushed nodes new) node
normal_kept nodes new Void below normal = tt
normal_kept nodes new (Arithmetic b) below normal = tt
normal_kept nodes new (Pointer to) below normal = tt
normal_kept nodes new (Array of count) below normal = tt
normal_kept nodes new (Function returns is_known parameters is_variadic) below normal = tt
normal_kept nodes new (Struct r) below normal = tt
normal_kept nodes new (Union r) below normal = tt
normal_kept nodes new (Enum tag) below normal = tt
normal_kept nodes new (Qualified of bits) below normal = ap takes_qualifiers (node_before nodes new of below) ∙ normal

normal_at : (nodes : List TypeNode) (node : TypeNode) → IsBuilt nodes → IsNext nodes node → (i : ℕ) → Where (length nodes) i
    → IsNormal (pushed nodes node) (node_at (pushed nodes node) i)
normal_at nodes node built next i (before lt) = rw (node_before nodes node i lt) (normal_kept nodes node (node_at nodes i) (built.below i) (built.normal i))
normal_at nodes node built next i (there is) = rw (is, node_there nodes node) (normal_kept nodes node node next.below next.normal)
normal_at nodes node built next i (behind lt) = rw (node_behind nodes node i lt) tt

modest_at : (nodes : List TypeNode) (node : TypeNode) → IsBuilt nodes → IsNext nodes node → (i : ℕ) (l : Layout) → Where (length nodes) i
    → layout_of (pushed nodes node) i ≡ Some l → IsModest l
modest_at nodes node built next i l (before lt) said = built.modest i l (sym (layout_before nodes node built next.light i lt) ∙ said)
modest_at nodes node built next i l (there is) said =
    next.modest l (sym (layout_there nodes node built next.light next.below) ∙ ap (layout_of (pushed nodes node)) (sym is) ∙ said)
modest_at nodes node built next i l (behind lt) said =
    let none : layout_of (pushed nodes node) i ≡ None = layout_behind (pushed nodes node) i (depth_of (pushed nodes node)) (node_behind nodes node i lt) in absurd cc

pub built_pushed : (nodes : List TypeNode) (node : TypeNode) → IsBuilt nodes → IsNext nodes node → IsBuilt (pushed nodes node)
built_pushed nodes node built next =
    let len : length (pushed nodes node) ≡ length nodes + 1 = length-append nodes (node ∷ []) in
    record {
      below = λ i. rw len (below_at nodes node built next i (where_is (length nodes) i));
      made = λ i. made_at nodes node built next i (where_is (length nodes) i);
      normal = λ i. normal_at nodes node built next i (where_is (length nodes) i);
      modest = λ i l said. modest_at nodes node built next i l (where_is (length nodes) i) said;
      settled = settled_pushed nodes node built next;
    }
