use Rattle.std.proofs.Common.{refl}
use Rattle.fsc_commands.specs.Writing.{units_refused, link_refused, link_written}
use Rattle.fsc_commands.proofs.Outcomes.{writes_earlier}
use Rattle.fsc_commands.proofs.linking.link_files.Goals as goal

pub returns-in-Ok-image_of-clause-links : goal.returns-in-Ok-image_of-clause-links
returns-in-Ok-image_of-clause-links g c =
    link_written (writes_earlier _ _ _ _ _ _ c.in-Ok.ensures.kept refl c.in-Ok.ensures.faults_counted refl c.write_image.ensures.writes)

pub returns-in-Ok-clause-links : goal.returns-in-Ok-clause-links
returns-in-Ok-clause-links g c =
    link_refused (units_refused c.in-Err-image_of.no c.ending_of_refusal.ensures c.in-Err-image_of.ensures.refused) c.in-Ok.ensures.kept

pub returns-clause-links : goal.returns-clause-links
returns-clause-links g c = link_refused c.in-Err.ensures.refused c.in-Err.ensures.kept
