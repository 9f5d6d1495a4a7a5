use Rattle.cell_store.proofs.Seen.{orderly}
use Rattle.cell_store.proofs.store.CellStore.words.Goals as goal

pub returns-clause-orderly : goal.returns-clause-orderly
returns-clause-orderly c =
    orderly c.self.inside.words.items c.self.inside.made c.self.inside.pool c.self.inside.next_base c.self.invariant c.args.self.now c.self.view_is
