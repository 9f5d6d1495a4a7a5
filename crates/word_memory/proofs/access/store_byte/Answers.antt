use Rattle.std.proofs.Common.{◌%◌}
use Rattle.guest_mem.specs.Guest.{stored}
use Rattle.guest_mem.specs.Regions.{regions_of}
use Rattle.word_memory.specs.Words.{word_place, replaced}
use Rattle.word_memory.proofs.Stored.{changes_byte, stores_word}
use Rattle.word_memory.proofs.access.store_byte.Goals as goal

pub returns-clause-changes : goal.returns-clause-changes
returns-clause-changes c apart held =
    let old = regions_of c.args.memory.now in
    let new = regions_of c.store8.new.self in
    stores_word (word_place c.args.at) (λ word. replaced (c.args.at % 4) 1 word c.args.value) (stored 1 old c.args.at c.args.value) old new c.store8.result c.store8.ensures.stores
    (changes_byte old new c.args.at c.args.value apart held)
