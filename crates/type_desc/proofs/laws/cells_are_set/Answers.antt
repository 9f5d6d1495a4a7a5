use Rattle.type_desc.proofs.CellLaws.{sets_value, sets_base}
use Rattle.type_desc.proofs.laws.cells_are_set.Goals as goal

pub returns : goal.returns
returns c = record { value = sets_value; base = sets_base }
