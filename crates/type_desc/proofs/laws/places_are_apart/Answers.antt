use Rattle.type_desc.proofs.PlaceLaws.{shape_layout, plane_layout, narrow_places, fat_places}
use Rattle.type_desc.proofs.laws.places_are_apart.Goals as goal

pub returns : goal.returns
returns c = record { shapes = shape_layout; plane = plane_layout; narrow = narrow_places; fat = fat_places }
