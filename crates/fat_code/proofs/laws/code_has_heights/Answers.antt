use Rattle.std.proofs.Common.{refl}
use Rattle.fat_code.specs.Heights.{heights_of}
use Rattle.fat_code.proofs.laws.code_has_heights.Goals as goal

pub returns : goal.returns
unfolding heights_of
returns c = (refl, refl, refl)
