use Rattle.fsc_core.proofs.Earlier.{some_files}
use Rattle.fsc_commands.proofs.Refusals.{units_answer}
use Rattle.fsc_commands.proofs.meaning.program.Goals as goal

pub returns-in-Ok-clause-refused : goal.returns-in-Ok-clause-refused
returns-in-Ok-clause-refused g c = units_answer c.program_of.result _ _ c.program_of.ensures.refused

pub returns-in-Err-clause-refused : goal.returns-in-Err-clause-refused
returns-in-Err-clause-refused g c = some_files c.in-Err.no _ _ c.in-Err.ensures.refused
