use Rattle.std.proofs.Common.{refl}
use Rattle.c_types.specs.Layouts.{layout_by}
use Rattle.c_types.specs.Nodes.{unqualified}
use Rattle.c_types.proofs.laws.worked_layouts.Goals as goal

pub returns-clause-char_and_int : goal.returns-clause-char_and_int
unfolding layout_by
returns-clause-char_and_int c = refl

pub returns-clause-incomplete : goal.returns-clause-incomplete
unfolding layout_by
returns-clause-incomplete c = refl

pub returns-clause-bit_fields : goal.returns-clause-bit_fields
unfolding layout_by
returns-clause-bit_fields c = refl

pub returns-clause-bit_members : goal.returns-clause-bit_members
unfolding layout_by unqualified
returns-clause-bit_members c = refl

pub returns-clause-of_union : goal.returns-clause-of_union
unfolding layout_by
returns-clause-of_union c = refl

pub returns-clause-of_array : goal.returns-clause-of_array
unfolding layout_by
returns-clause-of_array c = refl

pub returns-clause-least_period : goal.returns-clause-least_period
unfolding layout_by
returns-clause-least_period c = refl

pub returns-clause-of_chars : goal.returns-clause-of_chars
unfolding layout_by
returns-clause-of_chars c = (refl, refl)

pub returns-clause-large : goal.returns-clause-large
unfolding layout_by
returns-clause-large c = refl
