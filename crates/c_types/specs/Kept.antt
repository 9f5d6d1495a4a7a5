-- What a table keeps of its nodes.
use Rattle.std.specs.Prelude.{◌≡◌, ℕ, true, List, [], map, slice_index_or, Option, None}
use Rattle.c_types.specs.declared.layout.Layout.{Layout}
use Rattle.c_types.specs.declared.laid.Kept.{Kept}
use Rattle.c_types.specs.declared.node.TypeNode.{TypeNode}
use Rattle.c_types.specs.declared.node.TypeNode.TheVariants.{Void}
use Rattle.c_types.specs.Layouts.{layout_of, members_in}
use Rattle.c_types.specs.Built.{IsBuilt, is_unqualified}

abbrev pub nodes_of : List Kept → List TypeNode
nodes_of kept = map (λ (k : Kept). k.node) kept

abbrev pub nothing_kept : Kept
nothing_kept = record { node = Void; layout = None; members = [] }

abbrev pub kept_at : List Kept → (id : ℕ) → Kept
kept_at kept id = slice_index_or kept id nothing_kept

abbrev pub layout_kept : List Kept → (id : ℕ) → Option Layout
layout_kept kept id = (kept_at kept id).layout

-- the layouts and members are those of the nodes
pub record IsKept (kept : List Kept) (outside : TypeNode) : Type 0 where
  pub built : IsBuilt (nodes_of kept)
  pub layouts : (id : ℕ) → is_unqualified (kept_at kept id).node ≡ true → (kept_at kept id).layout ≡ layout_of (nodes_of kept) id
  pub members : (id : ℕ) → (kept_at kept id).members ≡ members_in (layout_of (nodes_of kept)) (kept_at kept id).node
  pub void : outside ≡ Void
