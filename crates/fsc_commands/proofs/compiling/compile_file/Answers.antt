use Rattle.std.proofs.Common.{refl}
use Rattle.fsc_core.specs.declared.refusal.CoreNo.TheVariants as core
use Rattle.fsc_commands.specs.Writing.{file_refused, unit_written}
use Rattle.fsc_commands.proofs.Outcomes.{writes_earlier}
use Rattle.fsc_commands.proofs.compiling.compile_file.Goals as goal

pub returns-then-unit_len-gt-MOST_FILE_BYTES-clause-compiles : goal.returns-then-unit_len-gt-MOST_FILE_BYTES-clause-compiles
returns-then-unit_len-gt-MOST_FILE_BYTES-clause-compiles g c = file_refused core.Misfit refl tt c.in-Ok.ensures.kept

pub returns-else-unit_len-gt-MOST_FILE_BYTES-clause-compiles : goal.returns-else-unit_len-gt-MOST_FILE_BYTES-clause-compiles
returns-else-unit_len-gt-MOST_FILE_BYTES-clause-compiles g c =
    unit_written (writes_earlier _ _ _ _ _ _ c.in-Ok.ensures.kept refl c.in-Ok.ensures.faults_counted refl c.write_unit_file.ensures.writes)

pub returns-in-Err-clause-compiles : goal.returns-in-Err-clause-compiles
returns-in-Err-clause-compiles g c = file_refused c.in-Err.no c.ending_of_refusal.ensures c.in-Err.ensures.refused c.in-Err.ensures.kept
