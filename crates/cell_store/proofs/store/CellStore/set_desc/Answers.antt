use Rattle.cell_store.proofs.StoreLaws.{decided_heaps}
use Rattle.cell_store.proofs.Seen.{kept_set_desc}
use Rattle.cell_store.proofs.store.CellStore.set_desc.Goals as goal

pub invariant_of-self : goal.invariant_of-self
invariant_of-self c =
    kept_set_desc c.self.inside.words.items c.self.inside.made c.self.inside.pool c.self.inside.next_base c.self.invariant c.args.self.now c.self.view_is c.args.block
    c.args.desc c.requires.live c.requires.object

pub returns-clause-heaps : goal.returns-clause-heaps
returns-clause-heaps c =
    decided_heaps c.self.inside.words.items c.self.inside.made c.self.inside.pool c.args.self.now c.self.view_is c.args.block c.requires.live c.args.desc
