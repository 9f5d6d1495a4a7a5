use Rattle.cell_store.proofs.StoreLaws.{dropped_heaps}
use Rattle.cell_store.proofs.Seen.{kept_drop, room_for}
use Rattle.cell_store.proofs.store.CellStore.drop_cell.Goals as goal

pub put-requires-clause-room : goal.put-requires-clause-room
put-requires-clause-room c =
    room_for c.self.inside.words.items c.self.inside.made c.self.inside.pool c.self.inside.next_base c.self.invariant c.args.self.now c.self.view_is c.args.block
    c.class_of.result c.header-header.result.size c.requires c.header-header.ensures.size c.class_of.ensures.class

pub invariant_of-self : goal.invariant_of-self
invariant_of-self c =
    kept_drop c.self.inside.words.items c.self.inside.made c.self.inside.pool c.self.inside.next_base c.self.invariant c.args.self.now c.self.view_is c.args.block
    c.class_of.result c.header-header.result.size c.header-header.result.cell c.put.new.self c.requires c.header-header.ensures.size c.class_of.ensures.class
    c.header-header.ensures.cell c.put.ensures

pub returns-clause-heaps : goal.returns-clause-heaps
returns-clause-heaps c =
    dropped_heaps c.self.inside.words.items c.self.inside.made c.self.inside.pool c.args.self.now c.self.view_is c.args.block c.requires
    c.class_of.result c.header-header.result.cell c.put.new.self c.put.ensures
