-- Parts and places as the code has them.
use Rattle.std.specs.Prelude.{List, [], ◌∷◌, map}
use Rattle.c_types.specs.declared.record.PartOf.{PartOf}
use Rattle.c_types.specs.declared.record.Place.{Place}
use Rattle.c_types.specs.Layouts.{Part, part, Placed, placed}
use Rattle.c_types.specs.Built.{IsModest}

abbrev pub part_in : PartOf → Part
part_in p = part p.field.now p.layout.now

abbrev pub parts_in : List PartOf → List Part
parts_in parts = map part_in parts

abbrev pub place_in : Place → Placed
place_in p = placed p.offset (part_in p.part)

abbrev pub places_in : List Place → List Placed
places_in places = map place_in places

abbrev pub AreModest : List Part → Type 0
AreModest [] = Unit {0}
AreModest (p ∷ ps) = IsModest p.layout × AreModest ps
