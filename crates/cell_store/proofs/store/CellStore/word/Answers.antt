use Rattle.cell_store.proofs.Seen.{index_within, word_read}
use Rattle.cell_store.proofs.store.CellStore.word.Goals as goal

pub index-requires : goal.index-requires
index-requires c =
    index_within c.self.inside.words.items c.self.inside.made c.self.inside.pool c.self.inside.next_base c.self.invariant c.args.self.now c.self.view_is c.args.block
    c.args.i c.header-cell.result.cell _ c.requires.live c.requires.within c.header-cell.ensures.cell c.self.inside.words.ok.0

pub returns : goal.returns
returns c =
    word_read c.self.inside.words.items c.self.inside.made c.self.inside.pool c.self.inside.next_base c.self.invariant c.args.self.now c.self.view_is c.args.block
    c.args.i c.header-cell.result.cell c.index.result.now c.requires.live c.requires.within c.header-cell.ensures.cell c.index.ensures
