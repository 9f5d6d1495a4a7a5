use Rattle.fsc_core.proofs.Earlier.{units_answer}
use Rattle.fsc_core.proofs.building.build.Goals as goal

pub returns-in-Ok-clause-refused : goal.returns-in-Ok-clause-refused
returns-in-Ok-clause-refused g c = units_answer c.image_of.result _ _ c.image_of.ensures.refused
