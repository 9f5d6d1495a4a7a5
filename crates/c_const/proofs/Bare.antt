-- In a table of the checker what a qualified type qualifies is not qualified.
use Rattle.std.proofs.Common.{◌≡◌, ℕ, List}
use Rattle.c_types.specs.declared.node.TypeNode.{TypeNode}
use Rattle.c_types.specs.Nodes.{node_at, unqualified, unqualified_in}
use Rattle.c_types.specs.Built.{IsBuilt}
use Rattle.c_types.proofs.Qualifying.{unqualified-bare}

pub bare_once : (nodes : List TypeNode) (id : ℕ) → IsBuilt nodes → unqualified nodes id ≡ unqualified_in (λ of. of) id (node_at nodes id)
bare_once nodes id built = unqualified-bare nodes id built
