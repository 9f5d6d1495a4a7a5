use Rattle.elf_image.proofs.RoundTrip.{written_again}
use Rattle.elf_image.proofs.writing.write_elf.Goals as goal

pub returns-clause-again : goal.returns-clause-again
returns-clause-again c = written_again c.args.image.now c.file_of.result c.requires c.file_of.ensures.exact c.file_of.ensures.entry
