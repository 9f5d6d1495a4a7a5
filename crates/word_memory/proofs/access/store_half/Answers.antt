use Rattle.std.proofs.Common.{◌%◌}
use Rattle.guest_mem.specs.Guest.{stored}
use Rattle.guest_mem.specs.Regions.{regions_of}
use Rattle.word_memory.specs.Words.{word_place, replaced}
use Rattle.word_memory.proofs.Stored.{changes_half, stores_word}
use Rattle.word_memory.proofs.access.store_half.Goals as goal

pub returns-clause-changes : goal.returns-clause-changes
returns-clause-changes c apart held =
    let old = regions_of c.args.memory.now in
    let new = regions_of c.store16.new.self in
    stores_word (word_place c.args.at) (λ word. replaced (c.args.at % 4) 2 word c.args.value) (stored 2 old c.args.at c.args.value) old new c.store16.result c.store16.ensures.stores
    (changes_half old new c.args.at c.args.value apart held)
