use Rattle.plain_text.proofs.ProgramLaws.{one_program_law}
use Rattle.plain_text.proofs.reading.one_program.Goals as goal

pub returns : goal.returns
returns c = one_program_law
