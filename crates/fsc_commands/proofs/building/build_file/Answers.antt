use Rattle.std.proofs.Common.{refl}
use Rattle.fsc_commands.specs.Refusing.{refused_so}
use Rattle.fsc_commands.specs.Writing.{files_refused, image_written}
use Rattle.fsc_commands.proofs.Outcomes.{writes_earlier}
use Rattle.fsc_commands.proofs.building.build_file.Goals as goal

pub returns-in-Ok-clause-builds : goal.returns-in-Ok-clause-builds
returns-in-Ok-clause-builds g c =
    image_written (writes_earlier _ _ _ _ _ _ c.in-Ok.ensures.kept refl c.in-Ok.ensures.faults_counted refl c.write_image.ensures.writes)

pub returns-in-Err-clause-builds : goal.returns-in-Err-clause-builds
returns-in-Err-clause-builds g c = files_refused (refused_so c.in-Err.no c.ending_of_refusal.ensures c.in-Err.ensures.refused) c.in-Err.ensures.kept
