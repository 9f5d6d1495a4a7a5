use Rattle.type_desc.proofs.CellLaws.{length-placed_of, places_each, placed_once, zeros_placed, ten_bytes}
use Rattle.type_desc.proofs.laws.cells_are_placed.Goals as goal

pub returns : goal.returns
returns c = record { size = length-placed_of; each = places_each; once = placed_once; zeros = zeros_placed; ten_bytes = ten_bytes }
