use Rattle.type_desc.proofs.ShapeLaws.{finds_added, keeps_others}
use Rattle.type_desc.proofs.laws.shapes_are_found.Goals as goal

pub returns : goal.returns
returns c = record { added = finds_added; others = keeps_others }
