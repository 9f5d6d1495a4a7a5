use Rattle.cell_store.proofs.StoreLaws.{sealed_heaps}
use Rattle.cell_store.proofs.store.CellStore.seal.Goals as goal

pub returns-clause-heaps : goal.returns-clause-heaps
returns-clause-heaps c =
    sealed_heaps c.args.self.now c.set_desc.new.self c.args.block c.header-desc.result.desc c.requires.live c.header-desc.ensures.desc
    c.requires.multiple c.requires.object c.set_desc.ensures.store
