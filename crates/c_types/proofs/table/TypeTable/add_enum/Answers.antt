use Rattle.c_types.proofs.Nexts.{next_enum}
use Rattle.c_types.proofs.Numbering.{own_enum}
use Rattle.c_types.proofs.table.TypeTable.add_enum.Goals as goal

pub add_own-requires-clause-own : goal.add_own-requires-clause-own
add_own-requires-clause-own c = λ one. own_enum c.args.self.now c.args.tag one

pub add_own-requires-clause-next : goal.add_own-requires-clause-next
add_own-requires-clause-next c = next_enum c.args.self.now c.args.tag
