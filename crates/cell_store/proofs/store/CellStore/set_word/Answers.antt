use Rattle.cell_store.proofs.Seen.{headers_set_word, index_within, kept_set_word}
use Rattle.cell_store.proofs.store.CellStore.set_word.Goals as goal

pub index_mut-requires : goal.index_mut-requires
index_mut-requires c =
    index_within c.self.inside.words.items c.self.inside.made c.self.inside.pool c.self.inside.next_base c.self.invariant c.args.self.now c.self.view_is c.args.block
    c.args.i c.header-cell.result.cell _ c.requires.live c.requires.within c.header-cell.ensures.cell c.self.inside.words.ok.0

pub invariant_of-self : goal.invariant_of-self
invariant_of-self c =
    kept_set_word c.self.inside.words.items c.self.inside.made c.self.inside.pool c.self.inside.next_base c.self.invariant c.args.self.now c.self.view_is c.args.block
    c.args.i c.header-cell.result.cell c.args.value c.requires.live c.header-cell.ensures.cell

pub returns-clause-headers : goal.returns-clause-headers
returns-clause-headers c b known =
    headers_set_word c.self.inside.words.items c.self.inside.made c.self.inside.pool c.self.inside.next_base c.self.invariant c.args.self.now c.self.view_is c.args.block
    c.args.i c.header-cell.result.cell c.args.value b c.requires.live c.header-cell.ensures.cell known
