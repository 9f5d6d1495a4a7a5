use Rattle.c_types.proofs.Nexts.{next_struct, incomplete}
use Rattle.c_types.proofs.Numbering.{own_struct}
use Rattle.c_types.proofs.table.TypeTable.add_struct.Goals as goal

pub add_own-requires-clause-own : goal.add_own-requires-clause-own
add_own-requires-clause-own c = rw c.new-fields.ensures (λ one. own_struct c.args.self.now (incomplete c.args.tag) one)

pub add_own-requires-clause-next : goal.add_own-requires-clause-next
add_own-requires-clause-next c = rw c.new-fields.ensures (next_struct c.args.self.now c.args.tag)
