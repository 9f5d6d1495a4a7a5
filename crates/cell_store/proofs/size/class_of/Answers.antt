use Rattle.std.proofs.Common.{◌≡◌}
use Rattle.c_memory.specs.Storage.{class_of}
use Rattle.cell_store.proofs.Classes.{class_found, found_known, found_large}
use Rattle.cell_store.proofs.size.class_of.Goals as goal

found : (c : goal.After-unwrap_or) → c.unwrap_or.result ≡ class_of c.args.size
found c = class_found c.args.size _ c.words_of.result c.from.result c.first_with.result c.unwrap_or.ensures c.first_with.ensures c.from.ensures c.words_of.ensures

pub returns-clause-class : goal.returns-clause-class
returns-clause-class c = found c

pub returns-clause-known : goal.returns-clause-known
returns-clause-known c = found_known c.args.size _ c.ranges.size.fits (found c)

pub returns-clause-large : goal.returns-clause-large
returns-clause-large c = found_large c.args.size _ c.ranges.size.fits (found c)
