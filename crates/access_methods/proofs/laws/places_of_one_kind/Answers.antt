use Rattle.access_methods.specs.ShapedLaws.{narrow_places, fat_places}
use Rattle.access_methods.proofs.laws.places_of_one_kind.Goals as goal

pub returns : goal.returns
returns c = record { narrow = narrow_places; fat = fat_places }
