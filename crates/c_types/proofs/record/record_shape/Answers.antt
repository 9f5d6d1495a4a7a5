use Rattle.c_types.specs.Parts.{places_in}
use Rattle.c_types.proofs.Shapes.{few_kinds}
use Rattle.c_types.proofs.record.record_shape.Goals as goal

pub returns-clause-few : goal.returns-clause-few
returns-clause-few c = few_kinds c.shape_kinds.result (places_in c.args.places.now) c.args.size c.shape_kinds.ensures
