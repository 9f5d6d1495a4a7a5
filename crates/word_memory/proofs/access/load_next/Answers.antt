use Rattle.std.proofs.Common.{◌∙◌}
use Rattle.guest_mem.specs.Regions.{regions_of}
use Rattle.word_memory.proofs.Spelled.{words_spelled}
use Rattle.word_memory.proofs.access.load_next.Goals as goal

pub returns-clause-spelled : goal.returns-clause-spelled
returns-clause-spelled c aligned apart words small lt spells =
    c.load_word.ensures ∙ words_spelled (regions_of c.args.memory.now) c.args.at words aligned apart small spells c.args.index lt
