use Rattle.c_types.proofs.Completing.{numbered_completed}
use Rattle.c_types.proofs.table.TypeTable.complete.Goals as goal

pub invariant_of-self-2 : goal.invariant_of-self-2
invariant_of-self-2 c =
    rw c.in_ok-complete.ensures.completed
    (numbered_completed c.self.inside.numbers.entries c.self.inside.nodes c.args.id c.args.fields c.self.invariant c.in_ok-complete.ensures.incomplete)
