use Rattle.std.proofs.Common.{refl}
use Rattle.std.specs.Fmt.{digits}
use Rattle.c_types.specs.Texts.{text_of}
use Rattle.c_link.proofs.Comparing.{agrees_with_itself, bits_differ, qualifiers_differ, breaks_types}
use Rattle.c_link.proofs.laws.types_are_compared.Goals as goal

pub returns-clause-told : goal.returns-clause-told
returns-clause-told c = breaks_types

pub returns-clause-agree : goal.returns-clause-agree
returns-clause-agree c = agrees_with_itself

pub returns-clause-bits : goal.returns-clause-bits
returns-clause-bits c = bits_differ

pub returns-clause-qualifiers : goal.returns-clause-qualifiers
returns-clause-qualifiers c = qualifiers_differ

pub returns-clause-texts : goal.returns-clause-texts
unfolding digits text_of
returns-clause-texts c = (refl, refl, refl, refl, refl)
