use Rattle.plain_text.proofs.ProgramLaws.{is_found, is_read}
use Rattle.plain_text.proofs.reading.read_program.Goals as goal

pub returns-clause-found : goal.returns-clause-found
returns-clause-found c = is_found c.args.text.now c.program.result c.program.ensures

pub returns-clause-only : goal.returns-clause-only
returns-clause-only c = λ program plain. is_read c.args.text.now c.program.result program c.program.ensures plain
