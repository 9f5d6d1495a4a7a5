use Rattle.fat_code.proofs.Using.{functions_are_bounded, shapes_are_least, shapes_are_few}
use Rattle.fat_code.proofs.laws.units_are_bounded.Goals as goal

pub returns : goal.returns
returns c = record { functions = functions_are_bounded; shapes = shapes_are_least; few = shapes_are_few }
