use Rattle.cell_store.proofs.Putting.{puts}
use Rattle.cell_store.proofs.store.put_block.Goals as goal

pub returns : goal.returns
returns c =
    rw c.write_header.ensures
    (puts c.args.words.now c.clear.new.words c.args.block c.args.header c.requires.from_one c.requires.behind c.requires.within
    (rw c.words_of.ensures at c.clear.ensures))
